-- More than half of the nodes.
pub mod Majority
