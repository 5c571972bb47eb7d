pub mod Seeks
pub mod Looks
pub mod Days
