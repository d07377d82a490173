-- How soon after calm a site is up again.
pub mod Calm
