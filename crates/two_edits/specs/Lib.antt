-- Two edits of one frame (02, R-2).
pub mod TwoEdits
