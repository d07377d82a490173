-- Lists of C calls on the memory of one site, proved.
pub mod Along
pub mod Theorem
pub mod Witness
pub mod Example
