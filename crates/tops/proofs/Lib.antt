pub mod Starts
pub mod Padded
pub mod Loops
pub mod Sums
pub mod Read
