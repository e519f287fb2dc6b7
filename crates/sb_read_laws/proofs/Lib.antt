pub mod StageReads
pub mod WholeReads
pub mod PlanFits
pub mod PlannedAgain
pub mod RoundReads
pub mod SaidLists
pub mod SaidSlots
pub mod Accepted
pub mod FoundHeld
pub mod Tied
pub mod RoundsRead
pub mod Following
pub mod MixedReads
pub mod UpTo
pub use Rattle.sb_specs.proofs.ReadLists as sb_specs_ReadLists
pub use Rattle.sb_specs.proofs.Exact as sb_specs_Exact
pub use Rattle.sb_specs.proofs.SlotSets as sb_specs_SlotSets
pub use Rattle.sb_specs.proofs.PlannedSb as sb_specs_PlannedSb
pub use Rattle.sb_specs.proofs.UpdateReads as sb_specs_UpdateReads
pub use Rattle.sb_specs.proofs.ValidFields as sb_specs_ValidFields
pub use Rattle.sb_specs.proofs.ReadAlike as sb_specs_ReadAlike
pub use Rattle.sb_specs.proofs.HeldReads as sb_specs_HeldReads
pub use Rattle.sb_specs.proofs.SameLaws as sb_specs_SameLaws
pub use Rattle.sb_specs.proofs.WrittenReads as sb_specs_WrittenReads
pub use Rattle.sb_specs.proofs.StoredSlots as sb_specs_StoredSlots
pub use Rattle.sb_specs.proofs.Searches as sb_specs_Searches
pub use Rattle.sb_specs.proofs.raid_layout_Limits
pub use Rattle.sb_specs.proofs.raid_layout_Places
pub use Rattle.sb_specs.proofs.raid_types_Tabulated
pub use Rattle.sb_specs.proofs.sb_codec_RoleTable
pub use Rattle.sb_specs.proofs.sb_codec_SuperblockLaws
