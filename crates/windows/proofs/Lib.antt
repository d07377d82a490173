-- Laws of windows, which upper crates cite.
pub mod Laws
pub mod Demands
pub mod Order
