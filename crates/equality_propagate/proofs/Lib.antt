pub mod Pairing
pub mod Queueing
