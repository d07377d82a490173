-- The listing's rows.
pub mod Rows
pub mod Inner
