pub mod Commands
pub mod Errors
pub mod Requests
pub mod Replies
pub mod Tasks
pub mod Taking
