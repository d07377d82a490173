-- What a call for C returns, by the number that it answers.
pub mod Reduction
