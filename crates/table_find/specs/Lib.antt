pub mod Keys
pub mod Spans
