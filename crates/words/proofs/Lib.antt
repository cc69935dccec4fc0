pub mod Numbers
pub mod Quotients
pub mod Shifts
