-- Laws of the ranges.
pub mod Ranges
pub mod Keeps
pub mod Lengths
pub mod Laws
pub mod Parts
