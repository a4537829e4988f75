pub mod Readings
pub mod ReadingsLaws
