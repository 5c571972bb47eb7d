-- The value that stands in a frame, record by record; `Laws` has what is proved of it.
pub mod Forms
pub mod Laws
