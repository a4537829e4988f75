pub mod RowRefusalsLaws
