pub mod Causes
pub mod Moves
pub mod Memory
pub mod Known
pub mod Adapters
