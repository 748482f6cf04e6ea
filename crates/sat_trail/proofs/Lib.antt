pub mod Undoing
pub mod UndoingTo
pub mod Trails
pub mod Working
pub mod Words
pub mod Marking
pub mod Setting
