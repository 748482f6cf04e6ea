pub mod Prefixes
pub mod Rooms
pub mod Worth
