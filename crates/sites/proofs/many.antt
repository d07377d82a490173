pub mod Lists
pub mod Memories
pub mod Areas
pub mod Sends
pub mod Hears
pub mod Events
pub mod Groups
pub mod Lines
