pub mod Literals
pub mod Walk
