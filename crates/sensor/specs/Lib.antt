pub mod State
pub mod Leaving
pub mod Rising
pub mod Falling
pub mod Edge
pub mod Below
pub mod Runs
pub mod Bytes
