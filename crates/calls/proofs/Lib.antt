-- Lists of C calls on lent memory, of one site and of a group, proved.
pub mod lifted
pub mod ledger
pub mod register
