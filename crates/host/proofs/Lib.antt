-- Laws of the calls.
pub mod Answers
pub mod Writes
pub mod Stays
pub mod Nodes
pub mod Owners
pub mod Slots
pub mod Stepped
