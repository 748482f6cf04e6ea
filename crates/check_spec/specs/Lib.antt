pub mod Check
pub mod Demands
