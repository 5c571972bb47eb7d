-- What the shape's writer answers; `Laws` has what is proved of it.
pub mod Forms
pub mod Laws
