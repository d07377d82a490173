-- A script with no idle event.
pub mod Reduced
pub mod Calls
pub mod Again
pub mod Inner
