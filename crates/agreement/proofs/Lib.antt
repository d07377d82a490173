-- Demand 3, proved.
pub mod Quorum
pub mod Members
pub mod Stages
pub mod Invariant
pub mod Cores
pub mod Moves
pub mod Ready
pub mod Closes
pub mod Logs
pub mod Begins
pub mod Ends
pub mod Heirs
pub mod Results
pub mod Theorem
pub mod Succession
pub mod daily
pub mod accounts
