-- Laws.
pub mod Pieces
pub mod Blocks
pub mod Decimal
pub mod Back
