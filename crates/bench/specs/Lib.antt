pub mod Cursor
pub mod Moments
pub mod Turns
pub mod Steps
pub mod Bench
pub mod Measure
pub mod MomentLaws
pub mod StepLaws
