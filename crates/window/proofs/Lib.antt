pub mod ReportLaws
pub mod Rows
