pub mod Lone
pub mod Each
pub mod Theorems
pub mod Examples
