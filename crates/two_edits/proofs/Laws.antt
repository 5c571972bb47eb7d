pub mod Diverging
pub mod Fillings
pub mod Ranges
pub mod Edits
pub mod TwoEdits
pub mod Calls
