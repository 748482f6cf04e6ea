pub mod Several
pub mod Counting
pub mod Putting
