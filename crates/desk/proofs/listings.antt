-- Laws.
pub mod Laws
pub mod Bound
pub mod Parts
pub mod Listed
