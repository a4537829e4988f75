pub mod RowReadsLaws
pub mod TextReadsLaws
