-- The laws of schedules; the worked cases of the allotment, its laws, its fairness, and turns of its loops.
-- Then the allotment on masks: what owners keep, as words; a slot given, as a bit; drafts, as rows of words.
pub mod Schedules
pub mod Cases
pub mod Laws
pub mod Fairness
pub mod Turns
pub mod KeptSlots
pub mod LowestOnes
pub mod TwoWords
pub mod OwnSlots
pub mod FewRows
pub mod GivenSlots
pub mod DraftRows
pub mod Held
