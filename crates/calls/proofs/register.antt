-- Lists of C calls on the memory of a group, proved.
pub mod Calls
pub mod Seats
pub mod Numbers
pub mod Theorem
pub mod Witness
pub mod Example
