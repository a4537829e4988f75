pub mod InPlace
pub mod ToldLaws
pub mod WalkLaws
