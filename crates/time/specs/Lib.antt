pub mod Time
pub mod Clock
pub mod Truths
