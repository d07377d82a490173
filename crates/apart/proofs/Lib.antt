-- Boxes with a clock each. `sync s` is the field under one clock after the sorted events up to phase s. Each step keeps three things
-- (`Keeps`): each phase s is `sync s` but for the boxes that have not come to it; its events are of boxes that have; and its answers are
-- those of `sync`. An event in phase u leaves the phases before u, is the same event in `sync u`, and touches nothing that is read later:
-- only its own box, which has not come further, and packets, which lapse.
pub mod Local
pub mod Sync
pub mod Keeps
pub mod Near
pub mod UntilClose
pub mod Determined
pub mod Time
pub mod Windows
pub mod Orderly
pub mod Theorem
