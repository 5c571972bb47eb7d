-- What a value file says beside its type, record by record, and what its check answers; with the model: `Model`.
pub mod Record
pub mod Lengths
pub mod Opening
pub mod Check
pub mod Steps
pub mod Arms
pub mod Clear
pub mod Below
pub mod Follow
pub mod Sizes
pub mod Model
