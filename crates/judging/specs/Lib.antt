pub mod Judging
pub mod JudgingLaws
