pub mod PlainLaws
pub mod LosingLaws
pub mod CallLaws
pub mod LeftLaws
pub mod StepLaws
pub mod BearerLaws
pub use Rattle.array_members.proofs.HeldRows as array_members_HeldRows
pub use Rattle.array_members.proofs.LackingLaws as array_members_LackingLaws
pub use Rattle.array_members.proofs.Fit as array_members_Fit
pub use Rattle.array_members.proofs.Still as array_members_Still
pub use Rattle.array_members.proofs.LackingWrites as array_members_LackingWrites
pub use Rattle.array_members.proofs.MovedLaws as array_members_MovedLaws
pub use Rattle.array_members.proofs.LackingLists as array_members_LackingLists
pub use Rattle.array_members.proofs.MemberLaws as array_members_MemberLaws
pub use Rattle.array_members.proofs.SoundViews as array_members_SoundViews
pub use Rattle.array_members.proofs.Counts as array_members_Counts
pub use Rattle.array_members.proofs.crash_safety_laws_Steady
pub use Rattle.array_members.proofs.crash_views_Judged
pub use Rattle.array_members.proofs.LiveLeft as array_members_LiveLeft
pub use Rattle.array_members.proofs.Searching as array_members_Searching
pub use Rattle.array_members.proofs.AddedRows as array_members_AddedRows
pub use Rattle.array_members.proofs.Flushed as array_members_Flushed
pub use Rattle.array_members.proofs.MarkedSafe as array_members_MarkedSafe
pub use Rattle.array_members.proofs.SafeStretch as array_members_SafeStretch
pub use Rattle.array_members.proofs.AddedMembers as array_members_AddedMembers
pub use Rattle.array_members.proofs.MarkLaws as array_members_MarkLaws
pub use Rattle.array_members.proofs.GivenMembers as array_members_GivenMembers
pub use Rattle.array_members.proofs.Stripes as array_members_Stripes
pub use Rattle.array_members.proofs.FilledParts as array_members_FilledParts
pub use Rattle.array_members.proofs.PutLists as array_members_PutLists
pub use Rattle.array_members.proofs.crash_safety_laws_Since
pub use Rattle.array_members.proofs.crash_safety_laws_Without
pub use Rattle.array_members.proofs.crash_views_Stands
pub use Rattle.array_members.proofs.crash_views_Alike
pub use Rattle.history_laws.proofs.OneShapeGrowing as history_laws_OneShapeGrowing
pub use Rattle.history_laws.proofs.NumberLaws as history_laws_NumberLaws
pub use Rattle.history_laws.proofs.GrowingLaws as history_laws_GrowingLaws
pub use Rattle.array_members.proofs.history_OneShapeLegal
pub use Rattle.array_members.proofs.history_OneShapeGone
pub use Rattle.array_members.proofs.history_SoundLaws
pub use Rattle.array_members.proofs.sb_read_laws_SaidSlots
pub use Rattle.history_laws.proofs.sb_specs_ValidFields
pub use Rattle.array_members.proofs.history_LegalLaws
pub use Rattle.array_members.proofs.stripe_list_FullLaws
pub use Rattle.array_members.proofs.stripe_row_Losses
pub use Rattle.history_laws.proofs.sb_specs_SlotSets
pub use Rattle.history_laws.proofs.sb_specs_Searches
pub use Rattle.array_members.proofs.stripe_row_Apart
pub use Rattle.array_members.proofs.sb_read_laws_Accepted
pub use Rattle.array_members.proofs.sb_read_laws_FoundHeld
pub use Rattle.array_members.proofs.sb_read_laws_StageReads
pub use Rattle.history_laws.proofs.ReshapedLaws as history_laws_ReshapedLaws
pub use Rattle.history_laws.proofs.bank_Images
pub use Rattle.history_laws.proofs.bank_Laws
pub use Rattle.history_laws.proofs.bank_Marks
pub use Rattle.history_laws.proofs.raid_gf256_FieldLaws
pub use Rattle.history_laws.proofs.raid_layout_Limits
pub use Rattle.history_laws.proofs.raid_layout_Places
pub use Rattle.history_laws.proofs.raid_parity_Columns
pub use Rattle.history_laws.proofs.raid_parity_Contents
pub use Rattle.history_laws.proofs.raid_parity_Lacking
pub use Rattle.history_laws.proofs.raid_parity_OwnFills
pub use Rattle.history_laws.proofs.raid_parity_Refilled
pub use Rattle.array_members.proofs.history_GoneCounts
pub use Rattle.array_members.proofs.stripe_region_laws_RegionLaws
pub use Rattle.array_members.proofs.crash_views_Standing
pub use Rattle.array_members.proofs.crash_views_WindowLaws
