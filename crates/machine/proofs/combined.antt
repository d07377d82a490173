-- One event of a site with windows, tally and report.
pub mod Held
pub mod Laws
