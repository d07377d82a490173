-- Demands by the hour: windows of a day.
pub mod Windows
pub mod Rules
pub mod Inner
