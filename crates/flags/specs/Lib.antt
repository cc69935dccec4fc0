pub mod StatusWrites
pub mod Invariant
pub mod Masks
pub mod Rows
