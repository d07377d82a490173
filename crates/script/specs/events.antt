-- The event lines of a script.
pub mod Events
