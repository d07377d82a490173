-- From a script to demand 3.
pub mod Guarantee
pub mod Script
