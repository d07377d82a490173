-- Demands by the hour on a box, proved.
pub mod Proved
