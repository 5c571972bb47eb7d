pub mod Sample
pub mod Pieces
pub mod Lines
pub mod Decimal
pub mod Contents
pub mod Sizes
pub mod Refusals
pub mod Written
