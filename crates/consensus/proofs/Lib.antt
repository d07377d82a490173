-- The paper's Theorem 1, proved.
pub mod Parted
pub mod Theorem
