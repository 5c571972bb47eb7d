pub mod Holds
pub mod Rows
pub mod Lists
pub mod Sums
pub mod Steps
pub mod Paths
pub mod Asked
pub mod Fixed
