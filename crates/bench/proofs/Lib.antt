pub mod Below
pub mod Cursors
pub mod Units
pub mod Loops
pub mod EndLaws
