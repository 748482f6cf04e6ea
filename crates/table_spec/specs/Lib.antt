pub mod Limits
pub mod File
pub mod Reading
pub mod Language
pub mod Maps
