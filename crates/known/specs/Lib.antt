pub mod Knowing
pub mod KnowingLaws
