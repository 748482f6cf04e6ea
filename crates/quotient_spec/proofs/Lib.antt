pub mod Ascending
pub mod Image
pub mod Classes
pub mod States
pub mod Automaton
pub mod Table
pub mod Writing
pub mod Theorems
