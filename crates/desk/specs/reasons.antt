-- Why a box sent what it sent, or nothing, at a close.
pub mod Reasons
pub mod Inner
