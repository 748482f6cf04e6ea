pub mod Uses
pub mod Demands
