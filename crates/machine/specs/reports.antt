-- The report of a site's close.
pub mod Reports
