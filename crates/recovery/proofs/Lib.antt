-- How soon after calm, proved.
pub mod Member
pub mod Site
pub mod Events
pub mod Majority
pub mod Theorem
