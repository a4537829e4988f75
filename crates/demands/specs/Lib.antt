pub mod Demand2
pub mod Together
