-- The proof that demand 3 holds of the boxes.
pub mod Boxes
pub mod Together
pub mod Answers
pub mod Steps
pub mod Begins
pub mod Reach
pub mod Results
pub mod Past
pub mod Theorem
