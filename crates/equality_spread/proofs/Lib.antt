pub mod Triangles
pub mod Spreading
