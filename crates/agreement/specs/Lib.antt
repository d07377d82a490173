-- Demand 3: agreement, over every list of the eight events.
pub mod Demand
pub mod Succession
pub mod daily
pub mod accounts
