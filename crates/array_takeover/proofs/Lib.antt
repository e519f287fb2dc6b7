pub mod Chosen
pub mod Behind
pub mod LeftThen
pub mod Untaken
pub mod TakenReady
pub mod TakenFrom
mod Parted
pub use Rattle.array_fixed_sync.proofs.NextLaws as array_fixed_sync_NextLaws
