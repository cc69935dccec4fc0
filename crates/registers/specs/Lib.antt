pub mod Bits
pub mod Registers
