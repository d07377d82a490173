-- How many lines of a script were refused, by its listing.
pub mod Refused
pub mod Lines
