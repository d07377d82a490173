-- Lists of C calls on the memory of one site.
pub mod Lists
pub mod Ledger
