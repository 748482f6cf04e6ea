pub mod Conditions
pub mod Accepted
pub mod Answers
pub mod Numbered
