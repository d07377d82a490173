-- Laws of the node area.
pub mod Valid
pub mod Held
pub mod Writes
pub mod Canon
pub mod Masked
pub mod Steps
