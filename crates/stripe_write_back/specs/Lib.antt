pub mod WrittenOut
pub mod Keeping
