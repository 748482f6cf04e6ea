pub mod Cutting
pub mod Gathering
pub mod Scanning
pub mod Stirring
