pub mod Stepping
pub mod Ending
