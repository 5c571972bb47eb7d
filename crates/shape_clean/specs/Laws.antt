pub mod Copies
pub mod Steps
