-- What the lowered type's writer answers; `Laws` in proofs/ has what is proved of it.
pub mod Writing
pub mod Forms
