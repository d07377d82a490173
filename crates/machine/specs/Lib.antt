-- A site in lent words and bytes.
pub mod Layout
pub mod Written
pub mod Acts
pub mod Inner
pub mod Loading
pub mod steps
pub mod timed
pub mod reports
pub mod combined
