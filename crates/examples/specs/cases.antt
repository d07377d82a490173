-- Histories of small sites.
pub mod Histories
pub mod Recoveries
