pub mod Growing
pub mod RowLaws
pub mod GrowLaws
