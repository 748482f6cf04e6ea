pub mod Room
pub mod Worth
