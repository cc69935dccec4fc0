pub mod Trace
pub mod Parts
pub mod TraceLaws
pub mod Reports
pub mod ReportLaws
