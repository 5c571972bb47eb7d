pub mod Made
pub mod Places
pub mod Splits
pub mod Turns
pub mod Lists
pub mod Whole
