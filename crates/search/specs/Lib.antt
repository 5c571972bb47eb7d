-- What the search of a day file knows on its way; `Laws` has what is proved of it.
pub mod Forms
pub mod Laws
