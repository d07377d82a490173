-- Bytes counted; refused lines counted.
pub mod Count
pub mod Lines
