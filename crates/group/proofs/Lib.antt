-- What is proved of a group.
pub mod Places
pub mod Shares
pub mod Parts
pub mod Looks
pub mod Lawful
pub mod Ground
pub mod Changes
pub mod Sites
pub mod Admits
pub mod Moves
pub mod Stories
pub mod Theorem
pub mod Sheets
pub mod Example
pub mod TwoRuns
