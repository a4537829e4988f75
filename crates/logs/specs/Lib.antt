pub mod Running
pub mod RunningLaws
pub mod CallsLaws
