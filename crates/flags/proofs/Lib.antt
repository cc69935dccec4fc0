pub mod Untimed
pub mod Timed
pub mod Runs
