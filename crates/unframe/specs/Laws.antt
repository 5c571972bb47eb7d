pub mod Tags
pub mod Parts
pub mod Lists
pub mod Formed
pub mod Whole
