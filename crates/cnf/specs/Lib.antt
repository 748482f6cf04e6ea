pub mod Clauses
pub mod Search
pub mod Trials
pub mod Closing
