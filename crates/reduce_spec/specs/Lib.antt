pub mod Reduce
pub mod Demands
