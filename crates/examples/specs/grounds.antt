-- What each rule of a close stands for.
pub mod Rules
