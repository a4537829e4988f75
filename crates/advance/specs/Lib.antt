pub mod Advancing
pub mod PassLaws
pub mod AdvanceLaws
