pub mod Counts
pub mod Seconds
