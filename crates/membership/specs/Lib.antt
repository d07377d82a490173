-- Who is counted in.
pub mod majority
pub mod counters
pub mod requests
