pub mod Counting
pub mod Sections
pub mod Whole
pub mod Answers
pub mod Examples
