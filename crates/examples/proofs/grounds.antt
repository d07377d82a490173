-- The ground of a close, proved.
pub mod Outcomes
pub mod Theorem
