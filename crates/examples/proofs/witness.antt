-- What boxes determined, read off the site beside them; the whole case on three boxes, under one clock and with a clock each.
pub mod Shown
pub mod Computed
pub mod Spread
