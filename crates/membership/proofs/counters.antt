-- Laws of the counters.
pub mod Laws
