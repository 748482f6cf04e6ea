pub mod Clauses
pub mod Maps
pub mod Demands
