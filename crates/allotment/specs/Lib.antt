-- The allotment of slots, and on masks in place; `Inner` is cited by the contracts of private functions only.
pub mod Model
pub mod Allotment
pub mod InPlace
pub mod Inner
