pub mod Changing
pub mod Exact
pub mod Unique
pub mod RowsJudged
pub mod Zeros
