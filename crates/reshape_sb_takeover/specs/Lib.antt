pub mod TakingOver
