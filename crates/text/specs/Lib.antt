-- Bytes as text.
pub mod Ascii
pub mod Read
pub mod Write
