-- What the contracts of `bits` cite; `Laws` has what is proved of it.
pub mod Bits
pub mod Laws
