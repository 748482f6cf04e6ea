pub mod Recounting
