-- The value that a shape gives, place by place; `Laws` has what is proved of it.
pub mod Forms
pub mod Laws
