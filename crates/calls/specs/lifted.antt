-- Claims over lists of events, of lists with windows and of sites in a group.
pub mod Lifted
