pub mod Decrements
pub mod Left
pub mod Taking
pub mod Counting
pub mod Times
pub mod Weighing
pub mod Earlier
pub mod FalseLiteral
