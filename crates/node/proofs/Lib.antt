-- Laws of a node.
pub mod Answers
pub mod Verdicts
pub mod Laws
pub mod Majority
pub mod Made
pub mod Tested
pub mod Ended
pub mod Tests
pub mod Cores
pub mod Bare
pub mod Phases
pub mod Bounds
pub mod Outline
pub mod Moved
pub mod Laid
