pub mod Decimals
pub mod LeastLaws
pub mod WordsLaws
pub mod SectorBlocks
