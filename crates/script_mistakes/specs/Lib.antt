pub mod Marked
pub mod Nearest
pub mod Reasons
pub mod Explained
