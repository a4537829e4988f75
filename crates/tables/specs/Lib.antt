pub mod Tables
pub mod OrderLaws
pub mod TablesLaws
pub mod EnterLaws
pub mod WholeLaws
