pub mod Bytes
pub mod Counted
pub mod Logs
pub mod Images
pub mod Entries
