pub mod Collecting
pub mod Emitting
pub mod Stepping
pub mod Tidying
