pub mod Places
pub mod Drawing
pub mod Steps
pub mod Keyed
pub mod Writing
