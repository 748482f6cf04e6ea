pub mod Tuples
pub mod Present
pub mod Bytes
pub mod Described
pub mod Theorems
pub mod Examples
