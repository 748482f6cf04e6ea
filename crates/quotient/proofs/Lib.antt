pub mod ClassBytes
pub mod Quotienting
