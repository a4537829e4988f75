pub mod Meaning
pub mod RangeLaws
