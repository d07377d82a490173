-- Laws.
pub mod Laws
pub mod Bounded
pub mod Every
pub mod Maps
pub mod Chain
pub mod Places
