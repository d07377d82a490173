-- What every list of events keeps, proved.
pub mod Tests
pub mod Sets
pub mod Views
pub mod Members
pub mod Steady
pub mod Sound
pub mod Starts
pub mod Opens
pub mod Sight
pub mod Logs
pub mod Always
pub mod Once
pub mod Counted
