pub mod Adding
pub mod Sums
pub mod Walks
pub mod Products
