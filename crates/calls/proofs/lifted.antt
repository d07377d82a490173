-- Claims over lists of events, lifted.
pub mod Theorem
