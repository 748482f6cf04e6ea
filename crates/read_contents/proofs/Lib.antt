pub mod Fits
pub mod Numbers
