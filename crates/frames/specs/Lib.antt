pub mod Parts
pub mod Mirror
