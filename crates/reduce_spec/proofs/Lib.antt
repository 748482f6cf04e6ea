pub mod Marked
pub mod Joined
pub mod Ways
pub mod Theorems
