-- One site with its day and its tally: what its events answer and leave.
pub mod Kept
pub mod Stored
pub mod Inner
