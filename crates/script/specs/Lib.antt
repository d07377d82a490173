-- The lines of a script.
pub mod lines
pub mod load
pub mod events
