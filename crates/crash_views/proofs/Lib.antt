pub mod Alike
pub mod BackupLaws
pub mod Headers
pub mod Judged
pub mod SoundViews
pub mod Standing
pub mod Stands
pub mod Tails
pub mod UnderWay
pub mod WindowLaws
pub use Rattle.history.proofs.SameLaws as history_SameLaws
pub use Rattle.stripe_list.proofs.stripe_row_Losses
pub use Rattle.history.proofs.sb_read_laws_RoundReads
pub use Rattle.history.proofs.sb_read_laws_SaidSlots
pub use Rattle.history.proofs.sb_read_laws_SaidLists
pub use Rattle.history.proofs.sb_read_laws_RoundsRead
pub use Rattle.history.proofs.sb_read_laws_Tied
pub use Rattle.history.proofs.sb_read_laws_StageReads
pub use Rattle.history.proofs.sb_specs_PlannedSb
pub use Rattle.history.proofs.sb_specs_SlotSets
pub use Rattle.history.proofs.sb_specs_WrittenReads
pub use Rattle.history.proofs.sb_specs_ReadLists
pub use Rattle.history.proofs.sb_specs_ReadAlike
pub use Rattle.history.proofs.sb_specs_UpdateReads
pub use Rattle.history.proofs.sb_specs_ValidFields
pub use Rattle.stripe_list.proofs.FullLaws as stripe_list_FullLaws
pub use Rattle.history.proofs.SoundLaws as history_SoundLaws
pub use Rattle.stripe_list.proofs.stripe_row_Tables
pub use Rattle.stripe_list.proofs.stripe_row_NewRow
pub use Rattle.stripe_list.proofs.stripe_row_Written
pub use Rattle.history.proofs.sb_specs_StoredSlots
pub use Rattle.history.proofs.OneShapeLegal as history_OneShapeLegal
pub use Rattle.history.proofs.LegalLaws as history_LegalLaws
pub use Rattle.history.proofs.GoneCounts as history_GoneCounts
pub use Rattle.history.proofs.sb_read_laws_PlanFits
pub use Rattle.history.proofs.sb_read_laws_Following
pub use Rattle.history.proofs.sb_read_laws_UpTo
pub use Rattle.stripe_list.proofs.stripe_row_Apart
pub use Rattle.history.proofs.sb_read_laws_Accepted
pub use Rattle.history.proofs.sb_read_laws_FoundHeld
pub use Rattle.history.proofs.GivenLaws as history_GivenLaws
pub use Rattle.history.proofs.SettledLaws as history_SettledLaws
pub use Rattle.history.proofs.OneShapeGone as history_OneShapeGone
pub use Rattle.history.proofs.bank_backup_WrittenLaws
pub use Rattle.history.proofs.bank_Causes
pub use Rattle.history.proofs.bank_Images
pub use Rattle.history.proofs.bank_Laws
pub use Rattle.history.proofs.bank_Marks
pub use Rattle.history.proofs.reshape_geometry_Valid
pub use Rattle.history.proofs.raid_types_Least
pub use Rattle.history.proofs.raid_types_Tabulated
pub use Rattle.history.proofs.raid_parity_Columns
pub use Rattle.history.proofs.raid_parity_Contents
pub use Rattle.history.proofs.raid_parity_Totals
pub use Rattle.stripe_list.proofs.BufferLaws as stripe_list_BufferLaws
pub use Rattle.stripe_list.proofs.ListLaws as stripe_list_ListLaws
pub use Rattle.stripe_list.proofs.LossLaws as stripe_list_LossLaws
pub use Rattle.stripe_list.proofs.Parities as stripe_list_Parities
pub use Rattle.stripe_list.proofs.PartBytes as stripe_list_PartBytes
pub use Rattle.stripe_list.proofs.PutLaws as stripe_list_PutLaws
pub use Rattle.stripe_list.proofs.raid_layout_Limits
pub use Rattle.stripe_list.proofs.raid_layout_Places
pub use Rattle.stripe_list.proofs.stripe_row_Lacks
pub use Rattle.stripe_list.proofs.stripe_row_RowBytes
pub use Rattle.stripe_list.proofs.stripe_row_Turns
pub use Rattle.stripe_region_laws.proofs.RegionLaws as stripe_region_laws_RegionLaws
pub use Rattle.stripe_region_laws.proofs.reshape_geometry_Divisions
pub use Rattle.stripe_region_laws.proofs.reshape_geometry_Rows
