pub mod Writing
pub mod Bounds
pub mod Trees
pub mod Lists
pub mod Forms
pub mod Parts
