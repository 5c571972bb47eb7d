-- What is known where a part of a frame is read or replaced.
pub mod Opened
pub mod Reads
pub mod Edits
