pub mod Pairs
pub mod Entries
pub mod Triangles
