-- What the program knows of the answers of the entries that it calls.
pub mod Laws
