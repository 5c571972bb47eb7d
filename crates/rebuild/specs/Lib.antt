-- What shape files say, and what the first pass of `reconstruct` answers; `Laws` has what is proved of it.
pub mod ShapeRows
pub mod Kinds
pub mod Places
pub mod Reads
pub mod Forms
pub mod Laws
