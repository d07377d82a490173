-- Laws of packets, schedules and phases as bytes.
pub mod Laws
pub mod Writes
pub mod Phases
