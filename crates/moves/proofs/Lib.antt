pub mod Own
pub mod Agree
pub mod MovedRuns
