pub mod Passes
pub mod FirstPass
pub mod EqualFiltered
pub mod Rows
