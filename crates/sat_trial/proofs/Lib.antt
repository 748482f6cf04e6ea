pub mod Trying
pub mod Retracing
