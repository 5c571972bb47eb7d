-- What the program `find` prints, and what is known while a day file is read; `Laws` has what is proved of it.
pub mod Says
pub mod Laws
