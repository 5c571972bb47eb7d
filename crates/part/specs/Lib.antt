-- Where a path leads in a frame; `Laws` has what is proved of it.
pub mod Forms
pub mod Holds
pub mod Laws
