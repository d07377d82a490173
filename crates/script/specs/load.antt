-- The lines of a script before its events.
pub mod Opening
pub mod Inner
