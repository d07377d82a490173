-- Demand 3 over lists of calls with windows, proved.
pub mod Wants
pub mod Loads
pub mod Theorem
pub mod Without
pub mod Example
