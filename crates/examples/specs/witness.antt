-- The specification's whole case on three boxes, under one clock and with a clock each.
pub mod Case
pub mod Spread
