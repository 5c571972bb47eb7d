pub mod Products
pub mod Sums
pub mod Lists
pub mod Told
pub mod Tags
pub mod Writing
pub mod Forms
pub mod Files
