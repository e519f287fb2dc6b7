pub mod Heads
pub mod Pieces
pub mod Written
pub mod Talks
