pub mod Matched
pub mod Looks
pub mod Reaching
