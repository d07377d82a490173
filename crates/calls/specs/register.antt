-- Lists of C calls on the memory of a group.
pub mod Register
