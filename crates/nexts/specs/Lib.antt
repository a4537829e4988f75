pub mod Nexts
pub mod NextsLaws
pub mod MovesLaws
