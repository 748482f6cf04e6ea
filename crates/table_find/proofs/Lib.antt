pub mod Keys
pub mod Spans
pub mod Spanning
pub mod Walks
