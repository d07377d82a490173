-- Demands by the hour on a box.
pub mod Service
