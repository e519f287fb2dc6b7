pub mod Parities
pub mod FullLaws
pub mod LossLaws
pub mod ListLaws
pub mod Elements
pub mod PartBytes
pub mod BufferLaws
pub mod WriteLaws
pub mod PutLaws
pub use Rattle.stripe_row.proofs.Lacks as stripe_row_Lacks
pub use Rattle.stripe_row.proofs.Losses as stripe_row_Losses
pub use Rattle.stripe_row.proofs.NewRow as stripe_row_NewRow
pub use Rattle.stripe_row.proofs.Tables as stripe_row_Tables
pub use Rattle.stripe_row.proofs.Written as stripe_row_Written
pub use Rattle.stripe_row.proofs.Apart as stripe_row_Apart
pub use Rattle.raid_layout.proofs.Limits as raid_layout_Limits
pub use Rattle.raid_layout.proofs.OnlyParity as raid_layout_OnlyParity
pub use Rattle.raid_layout.proofs.Places as raid_layout_Places
pub use Rattle.stripe_row.proofs.RowBytes as stripe_row_RowBytes
pub use Rattle.stripe_row.proofs.Turns as stripe_row_Turns
