-- The lines that programs print; `Laws` in proofs/ has what is proved of them.
pub mod Ascii
pub mod Lines
pub mod Pieces
