-- The most records of a shape, as the walk over a type file counts them.
pub mod Counting
pub mod Laws
