-- The check of the table.
pub mod Check
