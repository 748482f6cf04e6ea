pub mod Fates
pub mod Demands
