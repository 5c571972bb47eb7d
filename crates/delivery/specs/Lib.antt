-- What an operation knows at each of its answers: `Delivering` for every operation, then a file for each.
pub mod Delivering
pub mod Values
pub mod Lowers
pub mod Shapes
pub mod Readings
pub mod Reconstructs
pub mod Cleans
pub mod Frames
pub mod Rooms
pub mod Unframes
pub mod Parts
pub mod Days
pub mod Tables
