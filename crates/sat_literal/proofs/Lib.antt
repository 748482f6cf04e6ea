pub mod Walking
pub mod Literals
