pub mod Gone
pub mod Verdicts
pub mod Whole
