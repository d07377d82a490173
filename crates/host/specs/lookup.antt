-- The demand that a box asks for as an epoch begins.
pub mod Lookup
