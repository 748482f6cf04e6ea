pub mod Choosing
pub mod Reading
pub mod Marking
pub mod Settling
pub mod Targets
pub mod Handing
