-- The search of a day file (02, R-4): all the frames that match, as the checker computes them; `Laws` has what is proved of them and of the promise, `Cases` the table.
pub mod Matching
pub mod Pieces
pub mod Laws
pub mod Cases
