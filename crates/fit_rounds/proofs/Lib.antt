pub mod Holding
pub mod Passing
