pub mod StateBytes
pub mod Combining
pub mod Answers
