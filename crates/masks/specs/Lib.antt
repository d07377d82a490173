-- A schedule as masks of slots, and these as bytes; `Inner` is cited by the contracts of private functions only.
pub mod Slots
pub mod Bytes
pub mod Air
pub mod Inner
