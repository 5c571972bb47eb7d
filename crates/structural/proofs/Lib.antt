-- What the proofs of several functions use.
mod Steps
pub mod Laws
