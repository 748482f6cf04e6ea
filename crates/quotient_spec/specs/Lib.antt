pub mod Quotient
pub mod Demands
