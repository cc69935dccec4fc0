pub mod Scans
pub mod Tails
