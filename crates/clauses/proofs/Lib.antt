pub mod Writing
pub mod Whole
