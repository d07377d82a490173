-- The node area, which slots it holds, and the steps on it.
pub mod Area
pub mod Slots
pub mod Steps
