pub mod Places
pub mod Spans
pub mod Passing
pub mod Counting
