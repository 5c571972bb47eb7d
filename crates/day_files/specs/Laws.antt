pub mod Days
pub mod Matching
pub mod Calls
pub mod Pieces
