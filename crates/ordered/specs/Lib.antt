pub mod Rows
pub mod RowsLaws
pub mod Writes
pub mod WritesLaws
