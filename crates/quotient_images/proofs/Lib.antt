pub mod Keys
pub mod Inserting
pub mod Collecting
