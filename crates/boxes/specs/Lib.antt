-- Theorems on boxes.
pub mod guarantee
pub mod service
pub mod fleet
