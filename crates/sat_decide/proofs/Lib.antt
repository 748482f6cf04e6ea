pub mod Ends
pub mod Seeking
