pub mod Index
pub mod Blocks
pub mod Parts
