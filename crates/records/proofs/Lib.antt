pub mod Telling
pub mod Handed
