pub mod Orders
pub mod Sums
pub mod Edges
pub mod Moves
pub mod Laws
pub mod MoveLaws
pub mod NextLaws
