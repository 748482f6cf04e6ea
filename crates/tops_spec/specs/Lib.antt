pub mod Tops
pub mod Demands
