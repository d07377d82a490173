-- Computed examples.
pub mod cases
pub mod witness
pub mod rows
pub mod grounds
