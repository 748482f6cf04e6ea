pub mod Attending
pub mod Passes
