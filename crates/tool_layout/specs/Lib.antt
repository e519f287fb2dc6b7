pub mod Cells
pub mod Asked
