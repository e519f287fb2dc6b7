pub mod GivenSafe
pub mod MadeSafe
pub use Rattle.crash_safety_laws.proofs.CalledLaws as crash_safety_laws_CalledLaws
pub use Rattle.crash_safety_laws.proofs.Carried as crash_safety_laws_Carried
pub use Rattle.crash_safety_laws.proofs.ChangeSafe as crash_safety_laws_ChangeSafe
pub use Rattle.crash_safety_laws.proofs.ChangeViews as crash_safety_laws_ChangeViews
pub use Rattle.crash_safety_laws.proofs.Drawn as crash_safety_laws_Drawn
pub use Rattle.crash_safety_laws.proofs.FillingSafe as crash_safety_laws_FillingSafe
pub use Rattle.crash_safety_laws.proofs.FitKinds as crash_safety_laws_FitKinds
pub use Rattle.crash_safety_laws.proofs.HeldKept as crash_safety_laws_HeldKept
pub use Rattle.crash_safety_laws.proofs.Kept as crash_safety_laws_Kept
pub use Rattle.crash_safety_laws.proofs.KeptSafe as crash_safety_laws_KeptSafe
pub use Rattle.crash_safety_laws.proofs.LessViews as crash_safety_laws_LessViews
pub use Rattle.crash_safety_laws.proofs.PlannedRoles as crash_safety_laws_PlannedRoles
pub use Rattle.crash_safety_laws.proofs.PlansLose as crash_safety_laws_PlansLose
pub use Rattle.crash_safety_laws.proofs.Risen as crash_safety_laws_Risen
pub use Rattle.crash_safety_laws.proofs.Since as crash_safety_laws_Since
pub use Rattle.crash_safety_laws.proofs.Spent as crash_safety_laws_Spent
pub use Rattle.crash_safety_laws.proofs.Started as crash_safety_laws_Started
pub use Rattle.crash_safety_laws.proofs.Steady as crash_safety_laws_Steady
pub use Rattle.crash_safety_laws.proofs.Stretch as crash_safety_laws_Stretch
pub use Rattle.crash_safety_laws.proofs.UpdateViews as crash_safety_laws_UpdateViews
pub use Rattle.crash_safety_laws.proofs.Without as crash_safety_laws_Without
pub use Rattle.crash_safety_laws.proofs.WriteSafe as crash_safety_laws_WriteSafe
pub use Rattle.crash_safety_laws.proofs.bank_Causes
pub use Rattle.crash_safety_laws.proofs.bank_Laws
pub use Rattle.crash_safety_laws.proofs.bank_Marks
pub use Rattle.crash_safety_laws.proofs.history_GivenLaws
pub use Rattle.crash_safety_laws.proofs.history_GoneCounts
pub use Rattle.crash_safety_laws.proofs.history_LegalLaws
pub use Rattle.crash_safety_laws.proofs.history_OneShapeGone
pub use Rattle.crash_safety_laws.proofs.history_OneShapeLegal
pub use Rattle.crash_safety_laws.proofs.history_SameLaws
pub use Rattle.crash_safety_laws.proofs.history_SettledLaws
pub use Rattle.crash_safety_laws.proofs.history_SoundLaws
pub use Rattle.crash_safety_laws.proofs.raid_layout_Limits
pub use Rattle.crash_safety_laws.proofs.raid_layout_Places
pub use Rattle.crash_safety_laws.proofs.stripe_list_BufferLaws
pub use Rattle.crash_safety_laws.proofs.stripe_list_FullLaws
pub use Rattle.crash_safety_laws.proofs.stripe_list_ListLaws
pub use Rattle.crash_safety_laws.proofs.stripe_list_LossLaws
pub use Rattle.crash_safety_laws.proofs.stripe_list_Parities
pub use Rattle.crash_safety_laws.proofs.stripe_list_PartBytes
pub use Rattle.crash_safety_laws.proofs.stripe_list_PutLaws
pub use Rattle.crash_safety_laws.proofs.raid_types_Least
pub use Rattle.crash_safety_laws.proofs.raid_types_Tabulated
pub use Rattle.crash_safety_laws.proofs.raid_parity_Columns
pub use Rattle.crash_safety_laws.proofs.stripe_region_laws_RegionLaws
pub use Rattle.crash_safety_laws.proofs.stripe_row_Apart
pub use Rattle.crash_safety_laws.proofs.stripe_row_Lacks
pub use Rattle.crash_safety_laws.proofs.stripe_row_Losses
pub use Rattle.crash_safety_laws.proofs.stripe_row_NewRow
pub use Rattle.crash_safety_laws.proofs.stripe_row_RowBytes
pub use Rattle.crash_safety_laws.proofs.stripe_row_Tables
pub use Rattle.crash_safety_laws.proofs.stripe_row_Turns
pub use Rattle.crash_safety_laws.proofs.stripe_row_Written
pub use Rattle.crash_safety_laws.proofs.crash_views_Alike
pub use Rattle.crash_safety_laws.proofs.crash_views_BackupLaws
pub use Rattle.crash_safety_laws.proofs.crash_views_Headers
pub use Rattle.crash_safety_laws.proofs.crash_views_Judged
pub use Rattle.crash_safety_laws.proofs.crash_views_SoundViews
pub use Rattle.crash_safety_laws.proofs.crash_views_Standing
pub use Rattle.crash_safety_laws.proofs.crash_views_Stands
pub use Rattle.crash_safety_laws.proofs.crash_views_Tails
pub use Rattle.crash_safety_laws.proofs.crash_views_UnderWay
pub use Rattle.crash_safety_laws.proofs.crash_views_WindowLaws
pub use Rattle.crash_safety_laws.proofs.sb_update_laws_AddedReads
pub use Rattle.crash_safety_laws.proofs.sb_update_laws_AddedRounds
pub use Rattle.crash_safety_laws.proofs.sb_update_laws_AddingStarts
pub use Rattle.crash_safety_laws.proofs.sb_update_laws_Laws
pub use Rattle.crash_safety_laws.proofs.sb_read_laws_Accepted
pub use Rattle.crash_safety_laws.proofs.sb_read_laws_Following
pub use Rattle.crash_safety_laws.proofs.sb_read_laws_FoundHeld
pub use Rattle.crash_safety_laws.proofs.sb_read_laws_PlanFits
pub use Rattle.crash_safety_laws.proofs.sb_read_laws_RoundReads
pub use Rattle.crash_safety_laws.proofs.sb_read_laws_RoundsRead
pub use Rattle.crash_safety_laws.proofs.sb_read_laws_SaidLists
pub use Rattle.crash_safety_laws.proofs.sb_read_laws_SaidSlots
pub use Rattle.crash_safety_laws.proofs.sb_read_laws_StageReads
pub use Rattle.crash_safety_laws.proofs.sb_read_laws_Tied
pub use Rattle.crash_safety_laws.proofs.sb_read_laws_UpTo
pub use Rattle.crash_safety_laws.proofs.sb_specs_PlannedSb
pub use Rattle.crash_safety_laws.proofs.sb_specs_ReadLists
pub use Rattle.crash_safety_laws.proofs.sb_specs_SlotSets
pub use Rattle.crash_safety_laws.proofs.sb_specs_StoredSlots
pub use Rattle.crash_safety_laws.proofs.sb_specs_UpdateReads
pub use Rattle.crash_safety_laws.proofs.sb_specs_ValidFields
