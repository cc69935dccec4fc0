pub mod Statement
pub mod Alike
pub mod Waits
pub mod Steps
pub mod Sets
pub mod Moving
pub mod Rows
