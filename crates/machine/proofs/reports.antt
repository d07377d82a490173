-- Reports of a site in storage.
pub mod Laws
