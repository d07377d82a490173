-- Whom a node has heard in an epoch.
pub mod Counters
