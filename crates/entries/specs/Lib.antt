pub mod Entries
pub mod RowLaws
