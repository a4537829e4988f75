pub mod RowLines
pub mod RowLinesLaws
