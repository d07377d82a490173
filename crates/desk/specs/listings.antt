-- The run of a whole script.
pub mod Output
pub mod Why
pub mod Calls
pub mod Inner
