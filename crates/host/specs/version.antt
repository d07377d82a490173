-- The release's number.
pub mod Version
