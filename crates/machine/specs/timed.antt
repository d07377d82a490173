-- Demands by the hour: a site with its day.
pub mod Timed
pub mod Calls
pub mod Stored
pub mod Inner
