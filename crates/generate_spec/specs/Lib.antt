pub mod Loads
pub mod Demands
