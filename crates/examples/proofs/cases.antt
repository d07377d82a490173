-- The histories, computed.
pub mod Computed
pub mod Tests
pub mod Recoveries
