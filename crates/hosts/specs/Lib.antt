pub mod Calls
pub mod Demand3
pub mod Rows
pub mod ClockRows
pub mod Invariant
pub mod Left
pub mod Kicked
