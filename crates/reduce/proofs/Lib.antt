-- Laws.
pub mod Lines
pub mod Kept
pub mod Start
pub mod Marks
pub mod Passed
pub mod Writing
pub mod Outcome
pub mod Heads
pub mod ReadAgain
pub mod HeadAgain
pub mod Told
