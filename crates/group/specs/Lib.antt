-- Several sites in one packet area.
pub mod Places
pub mod Group
pub mod Calls
pub mod Steps
pub mod Fit
pub mod Alone
