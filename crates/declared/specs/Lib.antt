pub mod Answers
pub mod AnswersLaws
