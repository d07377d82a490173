-- Lists of C calls on lent memory, of one site and of a group, and the claims over lists of events that are said of them.
pub mod lifted
pub mod ledger
pub mod register
