-- Sites in lent memory for C.
pub mod one
pub mod many
