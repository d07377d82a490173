-- C calls on a site in lent memory.
pub mod Laws
pub mod Days
