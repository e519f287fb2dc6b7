pub mod Moves
pub mod Tapes
pub mod Consistent
pub mod Calls
pub mod Opened
pub mod Notes
