pub mod Fitting
pub mod Answering
