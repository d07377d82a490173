-- Slots held, by box and month.
pub mod Sums
pub mod Valid
pub mod Steps
