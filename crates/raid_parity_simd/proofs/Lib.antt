mod Apart
mod Behind
mod Cleared
mod Emptied
mod Falling
mod Gathers
mod Halves
mod Joined
pub mod Lanes
mod PlaceSums
mod Placed
mod Rests
mod RowFills
mod RowParts
pub use Rattle.raid_parity.proofs.Bytes as raid_parity_Bytes
pub use Rattle.raid_parity.proofs.Columns as raid_parity_Columns
pub use Rattle.raid_parity.proofs.Contents as raid_parity_Contents
pub use Rattle.raid_parity.proofs.Lacking as raid_parity_Lacking
pub use Rattle.raid_parity.proofs.OwnFills as raid_parity_OwnFills
pub use Rattle.raid_parity.proofs.RowBytes as raid_parity_RowBytes
pub use Rattle.raid_parity.proofs.Totals as raid_parity_Totals
pub use Rattle.raid_parity.proofs.raid_gf256_FieldLaws
