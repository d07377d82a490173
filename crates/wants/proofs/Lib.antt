-- What demands do not change, proved.
pub mod Maps
pub mod Scenes
pub mod Sites
pub mod Lists
pub mod Events
pub mod Windows
pub mod Theorem
pub mod Script
pub mod Example
pub mod Real
