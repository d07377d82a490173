-- Packets, schedules and phases as bytes.
pub mod Layout
pub mod Reads
pub mod Phases
