-- What is seen of a frame, bit by bit beside its type; `Laws` has what is proved of it.
pub mod Forms
pub mod Answers
pub mod Laws
