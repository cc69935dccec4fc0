pub mod Rates
pub mod RateLaws
pub mod RateRows
