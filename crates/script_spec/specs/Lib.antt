pub mod Script
pub mod Demands
