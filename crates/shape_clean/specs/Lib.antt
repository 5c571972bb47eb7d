-- What cleaning a shape writes; `Laws` has what is proved of it.
pub mod Copies
pub mod Laws
