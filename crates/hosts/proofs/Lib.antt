pub mod Kept
pub mod Agree
pub mod Uses
pub mod PastRefusal
