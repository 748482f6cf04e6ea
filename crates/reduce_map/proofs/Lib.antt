pub mod Lowest
pub mod Numbering
