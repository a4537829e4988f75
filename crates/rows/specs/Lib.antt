pub mod RowsLaws
pub mod TextLaws
pub mod RunsOfRows
pub mod BuffersOfRows
