-- Laws of a site with its day, which upper crates cite.
pub mod Laws
pub mod Given
pub mod Stored
pub mod Known
pub mod Byte
