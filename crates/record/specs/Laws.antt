pub mod Heads
pub mod Maybe
pub mod Products
pub mod Sums
pub mod Bits
pub mod Formed
pub mod Writing
