pub mod Options
pub mod Answers
pub mod Ends
pub mod Talk
