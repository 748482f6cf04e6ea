pub mod Choose
pub mod Demands
