-- What two nodes know that lack nothing.
pub mod Consensus
