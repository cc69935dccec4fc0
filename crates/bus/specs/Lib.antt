pub mod Bits
pub mod Bus
pub mod MaskLaws
