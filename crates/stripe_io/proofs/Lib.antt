pub mod ReadParts
pub mod FillingLaws
pub use Rattle.sb_safe_updates.proofs.FrameLaws as sb_safe_updates_FrameLaws
pub mod SyncedStripes
pub mod UnusedReads
pub use Rattle.sb_safe_updates.proofs.RefusingLaws as sb_safe_updates_RefusingLaws
pub use Rattle.sb_safe_updates.proofs.Unused as sb_safe_updates_Unused
pub use Rattle.sb_safe_updates.proofs.array_members_Fit
pub use Rattle.sb_safe_updates.proofs.array_members_Stripes
pub use Rattle.sb_safe_updates.proofs.array_members_HeldRows
pub use Rattle.sb_safe_updates.proofs.array_members_LackingLists
pub use Rattle.sb_safe_updates.proofs.array_members_MovedLaws
pub use Rattle.sb_safe_updates.proofs.array_members_LackingLaws
pub use Rattle.sb_safe_updates.proofs.array_members_SafeStretch
pub use Rattle.sb_safe_updates.proofs.array_members_LackingWrites
pub use Rattle.sb_safe_updates.proofs.crash_safety_laws_Risen
pub use Rattle.sb_safe_updates.proofs.crash_views_Stands
pub use Rattle.sb_safe_updates.proofs.array_members_Elements
pub use Rattle.sb_safe_updates.proofs.crash_views_Alike
pub use Rattle.sb_safe_updates.proofs.crash_views_UnderWay
pub use Rattle.sb_safe_updates.proofs.array_members_SyncedParts
pub mod CallLaws
pub mod RefusedLaws
pub use Rattle.sb_safe_updates.proofs.reshape_geometry_ClosedForms
pub use Rattle.sb_safe_updates.proofs.reshape_geometry_Divisions
pub use Rattle.sb_safe_updates.proofs.reshape_geometry_Valid
pub use Rattle.sb_safe_updates.proofs.raid_layout_Limits
pub use Rattle.sb_safe_updates.proofs.raid_layout_Places
pub use Rattle.sb_safe_updates.proofs.stripe_list_BufferLaws
pub use Rattle.sb_safe_updates.proofs.stripe_list_FullLaws
pub use Rattle.sb_safe_updates.proofs.stripe_list_ListLaws
pub use Rattle.sb_safe_updates.proofs.stripe_list_LossLaws
pub use Rattle.sb_safe_updates.proofs.stripe_region_laws_RegionLaws
pub use Rattle.sb_safe_updates.proofs.stripe_row_Losses
pub use Rattle.sb_safe_updates.proofs.stripe_row_RowBytes
pub use Rattle.sb_safe_updates.proofs.stripe_row_Written
pub use Rattle.sb_safe_updates.proofs.sb_specs_FeatureBits
