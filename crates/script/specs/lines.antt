-- The lines of a script, and the numbers in one.
pub mod Lines
pub mod Fields
