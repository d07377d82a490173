-- Boxes with a clock each: the model, what they determine, the rule by time, and demand 3 of them.
pub mod Apart
pub mod Determined
pub mod Time
pub mod Claim
