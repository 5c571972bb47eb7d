-- Powers of two as the type file admits them; `Laws` has what is proved of them.
pub mod Admitted
pub mod Powers
pub mod Laws
