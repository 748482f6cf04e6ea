pub mod Targeting
