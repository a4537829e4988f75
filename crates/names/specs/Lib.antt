pub mod Runs
pub mod RunsLaws
pub mod NamesLaws
pub mod MarksLaws
