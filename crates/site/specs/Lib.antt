-- A site: loading, the eight events, and what a list of them comes to.
pub mod Model
pub mod Events
pub mod Counts
pub mod Members
pub mod Parts
pub mod Load
pub mod Answers
pub mod Steps
pub mod Run
pub mod Others
