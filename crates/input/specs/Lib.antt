-- How many bytes of an input stand at the start of a buffer.
pub mod Counts
