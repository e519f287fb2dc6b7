pub mod SparesLaws
pub mod RolesNamed
pub mod NamedAll
pub mod RefusingLaws
pub mod SettledSafe
pub mod StillHeld
pub mod MissingLaws
pub mod GivenAway
pub mod GivenMoved
pub mod GivenPlan
pub mod GivingDone
pub mod MadeWhole
pub mod WholeFlushed
pub mod Widest
pub mod Under
pub mod Unused
pub mod FrameLaws
pub mod MarkEnds
pub use Rattle.array_members.proofs.crash_safety_laws_Without
pub use Rattle.array_members.proofs.crash_safety_laws_Carried
pub use Rattle.array_members.proofs.crash_safety_laws_Stretch
pub use Rattle.array_members.proofs.crash_safety_laws_ChangeViews
pub use Rattle.array_members.proofs.crash_safety_laws_Drawn
pub use Rattle.array_members.proofs.crash_safety_laws_KeptSafe
pub use Rattle.array_members.proofs.crash_safety_laws_LessViews
pub use Rattle.array_members.proofs.crash_safety_laws_Since
pub use Rattle.array_members.proofs.crash_safety_laws_Kept
pub use Rattle.array_members.proofs.crash_safety_laws_UpdateViews
pub use Rattle.array_members.proofs.crash_safety_laws_Spent
pub use Rattle.array_members.proofs.crash_views_Alike
pub use Rattle.array_members.proofs.crash_views_WindowLaws
pub use Rattle.array_members.proofs.LackingWrites as array_members_LackingWrites
pub use Rattle.array_members.proofs.SyncedParts as array_members_SyncedParts
pub use Rattle.array_members.proofs.HeldRows as array_members_HeldRows
pub use Rattle.array_members.proofs.Fit as array_members_Fit
pub use Rattle.array_members.proofs.MovedLaws as array_members_MovedLaws
pub use Rattle.array_members.proofs.LackingLaws as array_members_LackingLaws
pub use Rattle.array_members.proofs.LackingLists as array_members_LackingLists
pub use Rattle.array_members.proofs.SafeStretch as array_members_SafeStretch
pub use Rattle.array_members.proofs.PutLists as array_members_PutLists
pub use Rattle.array_members.proofs.FilledParts as array_members_FilledParts
pub use Rattle.array_members.proofs.Stripes as array_members_Stripes
pub use Rattle.array_members.proofs.Elements as array_members_Elements
pub use Rattle.array_members.proofs.LiveLeft as array_members_LiveLeft
pub use Rattle.array_members.proofs.MemberLaws as array_members_MemberLaws
pub use Rattle.array_members.proofs.MarkedLaws as array_members_MarkedLaws
pub use Rattle.array_members.proofs.crash_safety_laws_Risen
pub use Rattle.array_members.proofs.crash_views_Stands
pub use Rattle.array_members.proofs.Still as array_members_Still
pub use Rattle.array_members.proofs.MarkLaws as array_members_MarkLaws
pub use Rattle.array_members.proofs.crash_safety_laws_FitKinds
pub use Rattle.array_members.proofs.crash_safety_laws_PlannedRoles
pub use Rattle.array_members.proofs.crash_safety_laws_HeldKept
pub use Rattle.array_members.proofs.crash_safety_laws_Steady
pub use Rattle.array_members.proofs.crash_views_BackupLaws
pub use Rattle.array_members.proofs.crash_views_UnderWay
pub use Rattle.array_members.proofs.PlacedLaws as array_members_PlacedLaws
pub use Rattle.array_members.proofs.crash_safety_laws_ChangeSafe
pub use Rattle.array_members.proofs.crash_views_Headers
pub use Rattle.array_members.proofs.crash_views_Tails
pub use Rattle.array_members.proofs.crash_safety_laws_CalledLaws
pub use Rattle.array_members.proofs.crash_safety_laws_PlansLose
pub use Rattle.array_members.proofs.AddedMembers as array_members_AddedMembers
pub use Rattle.array_members.proofs.Flushed as array_members_Flushed
pub use Rattle.array_members.proofs.MarkedSafe as array_members_MarkedSafe
pub use Rattle.array_members.proofs.SoundViews as array_members_SoundViews
pub use Rattle.array_members.proofs.crash_safety_laws_Started
pub use Rattle.array_members.proofs.crash_views_SoundViews
pub use Rattle.array_members.proofs.crash_views_Standing
pub use Rattle.array_members.proofs.GivenMembers as array_members_GivenMembers
pub use Rattle.array_members.proofs.AddedRows as array_members_AddedRows
pub use Rattle.array_members.proofs.sb_update_laws_AddedReads
pub use Rattle.array_members.proofs.sb_update_laws_AddedRounds
pub use Rattle.array_members.proofs.sb_update_laws_AddingStarts
pub use Rattle.array_members.proofs.sb_read_laws_StageReads
pub use Rattle.array_members.proofs.sb_read_laws_RoundsRead
pub use Rattle.array_members.proofs.sb_read_laws_Following
pub use Rattle.array_members.proofs.sb_read_laws_RoundReads
pub use Rattle.array_members.proofs.sb_read_laws_UpTo
pub use Rattle.array_members.proofs.sb_read_laws_SaidSlots
pub use Rattle.array_members.proofs.sb_read_laws_Tied
pub use Rattle.array_members.proofs.sb_read_laws_SaidLists
pub use Rattle.array_members.proofs.stripe_row_Losses
pub use Rattle.array_members.proofs.sb_read_laws_PlanFits
pub use Rattle.array_members.proofs.stripe_row_Turns
pub use Rattle.array_members.proofs.stripe_row_RowBytes
pub use Rattle.array_members.proofs.stripe_list_FullLaws
pub use Rattle.array_members.proofs.stripe_list_Parities
pub use Rattle.array_members.proofs.history_GivenLaws
pub use Rattle.array_members.proofs.history_SameLaws
pub use Rattle.array_members.proofs.history_SettledLaws
pub use Rattle.array_members.proofs.stripe_row_NewRow
pub use Rattle.array_members.proofs.stripe_row_Apart
pub use Rattle.array_members.proofs.sb_read_laws_Accepted
pub use Rattle.array_members.proofs.sb_read_laws_FoundHeld
pub use Rattle.array_members.proofs.stripe_row_Written
pub use Rattle.array_members.proofs.sb_update_laws_Laws
pub use Rattle.array_members.proofs.history_SoundLaws
pub use Rattle.array_members.proofs.history_LegalLaws
pub use Rattle.array_members.proofs.history_OneShapeGone
pub use Rattle.array_members.proofs.history_OneShapeLegal
pub use Rattle.array_members.proofs.history_GoneCounts
pub use Rattle.array_members.proofs.stripe_row_Lacks
pub use Rattle.array_members.proofs.stripe_row_Tables
pub use Rattle.raid_layout.proofs.Limits as raid_layout_Limits
pub use Rattle.raid_layout.proofs.Places as raid_layout_Places
pub use Rattle.raid_layout.proofs.raid_types_Least
pub use Rattle.raid_layout.proofs.raid_types_Tabulated
pub use Rattle.sb_update.proofs.bank_Calls
pub use Rattle.sb_update.proofs.bank_Causes
pub use Rattle.sb_update.proofs.bank_Laws
pub use Rattle.sb_update.proofs.bank_Marks
pub use Rattle.sb_update.proofs.reshape_geometry_ClosedForms
pub use Rattle.sb_update.proofs.reshape_geometry_Divisions
pub use Rattle.sb_update.proofs.reshape_geometry_Rows
pub use Rattle.sb_update.proofs.reshape_geometry_Valid
pub use Rattle.sb_update.proofs.sb_codec_SuperblockLaws
pub use Rattle.sb_update.proofs.sb_specs_FeatureBits
pub use Rattle.sb_update.proofs.sb_specs_HeldReads
pub use Rattle.sb_update.proofs.sb_specs_PlannedSb
pub use Rattle.sb_update.proofs.sb_specs_ReadAlike
pub use Rattle.sb_update.proofs.sb_specs_ReadLists
pub use Rattle.sb_update.proofs.sb_specs_Searches
pub use Rattle.sb_update.proofs.sb_specs_SlotSets
pub use Rattle.sb_update.proofs.sb_specs_UpdateReads
pub use Rattle.sb_update.proofs.sb_specs_ValidFields
pub use Rattle.array_members.proofs.WholeLaws as array_members_WholeLaws
pub use Rattle.array_members.proofs.stripe_list_BufferLaws
pub use Rattle.array_members.proofs.stripe_list_ListLaws
pub use Rattle.array_members.proofs.stripe_list_LossLaws
pub use Rattle.array_members.proofs.stripe_list_PartBytes
pub use Rattle.array_members.proofs.stripe_list_PutLaws
pub use Rattle.array_members.proofs.stripe_region_laws_RegionLaws
