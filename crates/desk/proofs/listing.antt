-- Laws.
pub mod Bound
pub mod Laws
pub mod Rows
