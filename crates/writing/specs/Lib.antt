pub mod Writing
pub mod ReportsLaws
pub mod ReportLaws
pub mod WriteLaws
