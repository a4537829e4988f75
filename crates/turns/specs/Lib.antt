pub mod Stepping
pub mod SteppingLaws
pub mod SureLaws
pub mod Turns
pub mod TurnsLaws
