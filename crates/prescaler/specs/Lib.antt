pub mod Prescaler
