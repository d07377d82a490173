-- C calls on a site in lent memory.
pub mod Memory
pub mod Calls
