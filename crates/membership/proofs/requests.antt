-- The laws of requests that other crates cite.
pub mod Laws
pub mod Firsts
pub mod Missing
