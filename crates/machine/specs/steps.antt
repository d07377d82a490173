-- The events of a site in lent words and bytes.
pub mod After
pub mod Inner
