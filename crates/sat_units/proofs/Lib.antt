pub mod Places
pub mod Units
