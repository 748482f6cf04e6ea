pub mod Passing
pub mod Scanning
