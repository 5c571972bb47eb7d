-- What the writers of a frame ask and answer; `Laws` in proofs/ has what is proved of it.
pub mod Forms
