pub mod Quickly
