-- Requests of nodes.
pub mod Requests
