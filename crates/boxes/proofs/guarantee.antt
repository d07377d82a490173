-- The proof of the guarantee.
pub mod Proved
pub mod Script
