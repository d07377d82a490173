-- Laws of the majority.
pub mod Laws
