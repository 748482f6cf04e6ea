pub mod Words
pub mod Rooms
pub mod States
pub mod Live
