pub mod Pairwise
