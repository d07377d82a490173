-- The laws of masks: bits, the first that passes a test, words taken together, turns of loops; what owners and masks are of one another,
-- well-formed masks, their counts, and a worked case; masks as bytes.
pub mod Bits
pub mod First
pub mod Taken
pub mod Turns
pub mod Owners
pub mod Tidy
pub mod Counts
pub mod Cases
pub mod Parts
pub mod Rows
pub mod Fits
pub mod Moves
pub mod Told
pub mod Granted
