pub mod Fit
pub mod Demands
