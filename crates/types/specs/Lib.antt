-- What a type file says, record by record, and what its check answers; with the model: `Model`.
pub mod Record
pub mod Forms
pub mod Heads
pub mod Walks
pub mod Table
pub mod Trees
pub mod Facts
pub mod Unique
pub mod Steps
pub mod Accepted
pub mod Runs
pub mod Tables
pub mod Lows
pub mod Model
pub mod Entries
