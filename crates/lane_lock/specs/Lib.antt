pub mod Ways
pub mod Turns
pub mod Passes
