pub mod LibraryLaws
pub mod Rows
pub mod RowsLaws
