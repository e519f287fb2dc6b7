pub mod Shifted
pub mod Steps
