-- What the program `clean` gives; `Laws` has what is proved of it.
pub mod Gives
pub mod Laws
