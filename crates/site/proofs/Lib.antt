-- Laws of a site.
pub mod Counts
pub mod Laws
pub mod Steps
pub mod Accepted
pub mod Others
