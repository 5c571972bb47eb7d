pub mod Writing
pub mod Bits
pub mod Whole
