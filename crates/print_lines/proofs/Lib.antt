pub mod Decimals
pub mod Putting
pub mod Text
pub mod Mapping
