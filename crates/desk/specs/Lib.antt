-- The run of a script.
pub mod listing
pub mod listings
pub mod reasons
