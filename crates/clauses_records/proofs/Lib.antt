pub mod Few
pub mod Moving
pub mod Walking
pub mod Returning
