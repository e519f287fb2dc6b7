pub mod Losses
pub mod Healths
