pub mod Levels
pub mod Adding
pub mod Meaning
pub mod Answers
pub mod Promises
pub mod Examples
