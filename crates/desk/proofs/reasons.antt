-- The reasons of a script's closes: laws of their parts, and how long they are.
pub mod Laws
pub mod Closes
pub mod Bound
pub mod Told
