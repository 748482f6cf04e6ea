pub mod Seasons
pub mod Demands
