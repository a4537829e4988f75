pub mod Finds
pub mod LookupLaws
