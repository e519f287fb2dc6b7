pub mod Filling
pub mod BigEndian
