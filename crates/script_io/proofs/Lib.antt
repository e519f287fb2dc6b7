pub mod Pulls
pub mod Pushes
