-- Slots held, over lists of events.
pub mod Accounts
