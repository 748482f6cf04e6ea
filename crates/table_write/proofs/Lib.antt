pub mod Keys
pub mod Writing
pub mod Whole
