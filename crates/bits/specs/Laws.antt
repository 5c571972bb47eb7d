pub mod Splice
pub mod Writing
pub mod Byte
pub mod Window
pub mod Places
pub mod Runs
pub mod Integers
