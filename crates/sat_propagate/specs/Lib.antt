pub mod Preparing
pub mod Indexed
