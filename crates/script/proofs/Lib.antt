pub mod Depths
pub mod Walking
pub mod Handed
