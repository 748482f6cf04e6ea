pub mod Sums
pub mod Turning
pub mod Going
pub mod Seasons
