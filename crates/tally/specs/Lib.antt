-- Slots held, by box and month.
pub mod Claims
pub mod Counting
pub mod Ends
