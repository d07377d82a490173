-- What a box acts on, the calls of the C service, the same calls of a node with owner bytes, and what the calls tell of a node's own slots.
pub mod Report
pub mod Calls
pub mod Owners
pub mod Slots
pub mod lookup
pub mod version
