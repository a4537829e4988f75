pub mod Hoping
pub mod Steps
pub mod LeadsLaws
pub mod ChecksLaws
