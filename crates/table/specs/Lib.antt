-- The entries of a type file's table as the code computes them, and that they are right of what stands at each record.
pub mod Facts
pub mod Hops
pub mod Rows
pub mod Sums
pub mod Right
pub mod Entries
pub mod Flags
pub mod Lowering
pub mod Steps
pub mod Measuring
pub mod Tabled
