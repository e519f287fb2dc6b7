pub mod CalledLaws
pub mod Carried
pub mod ChangeSafe
pub mod ChangeViews
pub mod Drawn
pub mod FillingSafe
pub mod FitChanges
pub mod FitFields
pub mod FitKinds
pub mod HeldAlike
pub mod HeldKept
pub mod Kept
pub mod KeptSafe
pub mod LessViews
pub mod PlacedLess
pub mod PlannedRoles
pub mod PlansLose
pub mod Risen
pub mod Since
pub mod Spent
pub mod Started
pub mod Steady
pub mod Stretch
pub mod UpdateViews
pub mod Without
pub mod WriteSafe
pub use Rattle.crash_views.proofs.Alike as crash_views_Alike
pub use Rattle.sb_update_laws.proofs.Laws as sb_update_laws_Laws
pub use Rattle.sb_update_laws.proofs.MadeWholeSaid as sb_update_laws_MadeWholeSaid
pub use Rattle.crash_views.proofs.stripe_row_Losses
pub use Rattle.crash_views.proofs.sb_read_laws_SaidLists
pub use Rattle.crash_views.proofs.sb_read_laws_SaidSlots
pub use Rattle.crash_views.proofs.sb_read_laws_RoundReads
pub use Rattle.crash_views.proofs.sb_read_laws_RoundsRead
pub use Rattle.crash_views.proofs.sb_specs_ReadAlike
pub use Rattle.crash_views.proofs.sb_specs_ReadLists
pub use Rattle.crash_views.proofs.Stands as crash_views_Stands
pub use Rattle.crash_views.proofs.UnderWay as crash_views_UnderWay
pub use Rattle.crash_views.proofs.WindowLaws as crash_views_WindowLaws
pub use Rattle.crash_views.proofs.Headers as crash_views_Headers
pub use Rattle.crash_views.proofs.Tails as crash_views_Tails
pub use Rattle.crash_views.proofs.SoundViews as crash_views_SoundViews
pub use Rattle.crash_views.proofs.stripe_list_FullLaws
pub use Rattle.crash_views.proofs.Judged as crash_views_Judged
pub use Rattle.crash_views.proofs.BackupLaws as crash_views_BackupLaws
pub use Rattle.crash_views.proofs.Standing as crash_views_Standing
pub use Rattle.crash_views.proofs.history_SoundLaws
pub use Rattle.crash_views.proofs.history_SameLaws
pub use Rattle.crash_views.proofs.stripe_row_Tables
pub use Rattle.crash_views.proofs.stripe_row_NewRow
pub use Rattle.crash_views.proofs.stripe_row_Written
pub use Rattle.crash_views.proofs.sb_specs_SlotSets
pub use Rattle.crash_views.proofs.sb_specs_StoredSlots
pub use Rattle.crash_views.proofs.sb_specs_ValidFields
pub use Rattle.crash_views.proofs.sb_specs_UpdateReads
pub use Rattle.crash_views.proofs.sb_specs_PlannedSb
pub use Rattle.crash_views.proofs.history_OneShapeLegal
pub use Rattle.crash_views.proofs.history_LegalLaws
pub use Rattle.crash_views.proofs.history_GoneCounts
pub use Rattle.crash_views.proofs.sb_read_laws_PlanFits
pub use Rattle.sb_update_laws.proofs.AddedReads as sb_update_laws_AddedReads
pub use Rattle.sb_update_laws.proofs.AddedRounds as sb_update_laws_AddedRounds
pub use Rattle.sb_update_laws.proofs.AddingStarts as sb_update_laws_AddingStarts
pub use Rattle.crash_views.proofs.sb_read_laws_StageReads
pub use Rattle.crash_views.proofs.sb_read_laws_Following
pub use Rattle.crash_views.proofs.sb_read_laws_UpTo
pub use Rattle.crash_views.proofs.sb_read_laws_Tied
pub use Rattle.crash_views.proofs.stripe_row_Apart
pub use Rattle.crash_views.proofs.sb_read_laws_Accepted
pub use Rattle.crash_views.proofs.sb_read_laws_FoundHeld
pub use Rattle.crash_views.proofs.history_GivenLaws
pub use Rattle.crash_views.proofs.history_SettledLaws
pub use Rattle.crash_views.proofs.history_OneShapeGone
pub use Rattle.crash_views.proofs.bank_backup_WrittenLaws
pub use Rattle.crash_views.proofs.bank_Causes
pub use Rattle.crash_views.proofs.bank_Images
pub use Rattle.crash_views.proofs.bank_Laws
pub use Rattle.crash_views.proofs.bank_Marks
pub use Rattle.crash_views.proofs.reshape_geometry_Divisions
pub use Rattle.crash_views.proofs.reshape_geometry_Rows
pub use Rattle.crash_views.proofs.reshape_geometry_Valid
pub use Rattle.crash_views.proofs.raid_layout_Limits
pub use Rattle.crash_views.proofs.raid_layout_Places
pub use Rattle.crash_views.proofs.stripe_list_BufferLaws
pub use Rattle.crash_views.proofs.stripe_list_ListLaws
pub use Rattle.crash_views.proofs.stripe_list_LossLaws
pub use Rattle.crash_views.proofs.stripe_list_Parities
pub use Rattle.crash_views.proofs.stripe_list_PartBytes
pub use Rattle.crash_views.proofs.stripe_list_PutLaws
pub use Rattle.crash_views.proofs.raid_types_Least
pub use Rattle.crash_views.proofs.raid_types_Tabulated
pub use Rattle.crash_views.proofs.raid_parity_Columns
pub use Rattle.crash_views.proofs.raid_parity_Contents
pub use Rattle.crash_views.proofs.raid_parity_Totals
pub use Rattle.crash_views.proofs.stripe_region_laws_RegionLaws
pub use Rattle.crash_views.proofs.stripe_row_Lacks
pub use Rattle.crash_views.proofs.stripe_row_RowBytes
pub use Rattle.crash_views.proofs.stripe_row_Turns
