-- Demand 3 over lists of calls with windows.
pub mod Daily
