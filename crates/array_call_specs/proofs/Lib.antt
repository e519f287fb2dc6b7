pub mod ToldLosses
pub mod StepsLeft
pub mod FoundLaws
pub mod NowLaws
pub mod RecordLaws
pub mod OnlyLaws
pub mod IdleLaws
pub mod ReplyLaws
pub mod LossLaws
pub mod ReadyLaws
pub mod SafeLaws
pub mod KeptLaws
pub mod DegradedLaws
pub mod LedgerLaws
pub mod MadeLaws
pub use Rattle.history_append.proofs.CallLaws as history_append_CallLaws
pub use Rattle.history_append.proofs.LeftLaws as history_append_LeftLaws
pub use Rattle.history_append.proofs.StepLaws as history_append_StepLaws
pub use Rattle.history_append.proofs.LosingLaws as history_append_LosingLaws
pub use Rattle.history_append.proofs.PlainLaws as history_append_PlainLaws
pub use Rattle.history_append.proofs.array_members_LiveLeft
pub use Rattle.history_append.proofs.array_members_Searching
pub use Rattle.history_append.proofs.array_members_Fit
pub use Rattle.history_append.proofs.array_members_LackingLaws
pub use Rattle.history_append.proofs.array_members_AddedRows
pub use Rattle.history_append.proofs.array_members_Flushed
pub use Rattle.history_append.proofs.array_members_LackingLists
pub use Rattle.history_append.proofs.array_members_MarkedSafe
pub use Rattle.history_append.proofs.array_members_MovedLaws
pub use Rattle.history_append.proofs.array_members_SafeStretch
pub use Rattle.history_append.proofs.array_members_HeldRows
pub use Rattle.history_append.proofs.array_members_AddedMembers
pub use Rattle.history_append.proofs.array_members_MarkLaws
pub use Rattle.history_append.proofs.array_members_SoundViews
pub use Rattle.history_append.proofs.array_members_Still
pub use Rattle.history_append.proofs.array_members_MemberLaws
pub use Rattle.history_append.proofs.array_members_LackingWrites
pub use Rattle.history_append.proofs.array_members_GivenMembers
pub use Rattle.history_append.proofs.array_members_Stripes
pub use Rattle.history_append.proofs.array_members_FilledParts
pub use Rattle.history_append.proofs.array_members_PutLists
pub use Rattle.history_append.proofs.crash_safety_laws_Steady
pub use Rattle.history_append.proofs.crash_safety_laws_Since
pub use Rattle.history_append.proofs.crash_safety_laws_Without
pub use Rattle.history_append.proofs.crash_views_Stands
pub use Rattle.history_append.proofs.crash_views_Alike
pub use Rattle.history_append.proofs.crash_views_Judged
pub use Rattle.history_append.proofs.history_laws_OneShapeGrowing
pub use Rattle.history_append.proofs.stripe_list_FullLaws
pub use Rattle.history_append.proofs.history_OneShapeGone
pub use Rattle.history_append.proofs.stripe_row_Losses
pub use Rattle.history_append.proofs.sb_specs_SlotSets
pub use Rattle.history_append.proofs.sb_specs_ValidFields
pub use Rattle.history_append.proofs.sb_specs_Searches
pub use Rattle.history_append.proofs.stripe_row_Apart
pub use Rattle.history_append.proofs.sb_read_laws_Accepted
pub use Rattle.history_append.proofs.sb_read_laws_SaidSlots
pub use Rattle.history_append.proofs.sb_read_laws_FoundHeld
pub use Rattle.history_append.proofs.sb_read_laws_StageReads
pub use Rattle.history_append.proofs.history_OneShapeLegal
pub use Rattle.history_append.proofs.bank_Images
pub use Rattle.history_append.proofs.bank_Laws
pub use Rattle.history_append.proofs.bank_Marks
pub use Rattle.history_append.proofs.history_GoneCounts
pub use Rattle.history_append.proofs.history_LegalLaws
pub use Rattle.history_append.proofs.history_SoundLaws
pub use Rattle.history_append.proofs.raid_gf256_FieldLaws
pub use Rattle.history_append.proofs.history_laws_GrowingLaws
pub use Rattle.history_append.proofs.history_laws_NumberLaws
pub use Rattle.history_append.proofs.history_laws_ReshapedLaws
pub use Rattle.history_append.proofs.raid_layout_Limits
pub use Rattle.history_append.proofs.raid_layout_Places
pub use Rattle.history_append.proofs.raid_parity_Columns
pub use Rattle.history_append.proofs.raid_parity_Contents
pub use Rattle.history_append.proofs.raid_parity_Lacking
pub use Rattle.history_append.proofs.raid_parity_OwnFills
pub use Rattle.history_append.proofs.raid_parity_Refilled
pub use Rattle.history_append.proofs.stripe_region_laws_RegionLaws
pub use Rattle.history_append.proofs.crash_views_Standing
pub use Rattle.history_append.proofs.crash_views_WindowLaws
pub use Rattle.raid_types.proofs.Counted as raid_types_Counted
pub use Rattle.raid_types.proofs.Least as raid_types_Least
pub use Rattle.raid_types.proofs.SectorLaws as raid_types_SectorLaws
pub use Rattle.raid_types.proofs.Tabulated as raid_types_Tabulated
pub use Rattle.history_append.proofs.BearerLaws as history_append_BearerLaws
