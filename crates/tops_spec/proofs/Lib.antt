pub mod Bounded
pub mod Walks
pub mod Exact
pub mod Count
pub mod Formed
pub mod Theorems
