pub mod Calls
pub mod Runs
pub mod SameTime
pub mod Stages
pub mod UnitLaws
pub mod ReportLaws
pub mod Extra
