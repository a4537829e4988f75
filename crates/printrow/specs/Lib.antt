pub mod RowPrints
pub mod RowLaws
