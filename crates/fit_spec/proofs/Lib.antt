pub mod Numbers
pub mod Pairing
pub mod Tables
pub mod Choices
pub mod Exact
pub mod Theorems
pub mod Examples
