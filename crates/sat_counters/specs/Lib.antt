pub mod Counters
pub mod Earlier
