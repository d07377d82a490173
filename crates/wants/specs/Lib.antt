-- What demands do not change.
pub mod Outline
pub mod Wants
pub mod Script
pub mod Example
pub mod Real
