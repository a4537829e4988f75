pub mod Tabling
pub mod VerdictLaws
pub mod TableLaws
