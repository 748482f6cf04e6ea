pub mod Undo
pub mod Trail
pub mod Rows
pub mod Conclusions
pub mod Conflicts
