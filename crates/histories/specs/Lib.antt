-- Lists of events: their past, where they lead, and what holds of every one.
pub mod Past
pub mod Reached
pub mod Hearing
pub mod Counted
