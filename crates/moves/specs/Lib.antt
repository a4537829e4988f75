pub mod Steps
pub mod Ready
pub mod MovesLaws
pub mod ReadyLaws
