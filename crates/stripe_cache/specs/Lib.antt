pub mod HeldRow
pub mod Rows
pub mod View
pub mod Kept
pub mod Apart
