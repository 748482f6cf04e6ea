pub mod Text
pub mod Program
pub mod Lines
