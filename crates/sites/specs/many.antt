-- A group of sites in lent memory, for desk tools in C.
pub mod Memory
pub mod Calls
pub mod Inner
