pub mod Tap
pub mod Clocks
pub mod Half
pub mod Wait
pub mod System
pub mod SystemLaws
pub mod Moves
