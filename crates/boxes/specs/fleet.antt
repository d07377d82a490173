-- Boxes in the field, each with its own node area, and demand 3 of them.
pub mod Fleet
pub mod Past
pub mod Claim
