pub mod Starts
pub mod StartLaws
