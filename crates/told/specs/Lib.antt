-- What a checked value file tells, record by record; `Laws` has what is proved of it.
pub mod Forms
pub mod Widths
pub mod Laws
