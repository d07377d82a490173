-- Slots held, over lists of events.
pub mod Once
pub mod Counted
pub mod Slots
pub mod Spoilt
pub mod Theorem
pub mod Example
