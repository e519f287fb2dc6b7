pub mod Spelled
pub mod Frames
