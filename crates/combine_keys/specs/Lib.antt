pub mod Adding
pub mod Factors
