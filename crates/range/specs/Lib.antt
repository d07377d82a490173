-- What a node may hold.
pub mod Range
