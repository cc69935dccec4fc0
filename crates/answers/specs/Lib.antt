pub mod Calls
pub mod CallLaws
pub mod Puts
pub mod Wave
pub mod Answers
pub mod Told
pub mod WaveLaws
pub mod Rows
