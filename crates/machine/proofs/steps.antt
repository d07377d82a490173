pub mod Acts
pub mod Asked
pub mod Sites
pub mod Follows
pub mod Whole
