pub mod Idle
pub mod Read
pub mod Fitting
pub mod Kept
pub mod Busy
pub mod PlanLaws
pub mod Aside
pub mod Replied
pub mod Stored
pub mod Windows
mod Told
pub use Rattle.array_reply_specs.proofs.Fitting as array_reply_specs_Fitting
pub use Rattle.array_reply_specs.proofs.GoneOn as array_reply_specs_GoneOn
pub use Rattle.array_transition.proofs.Begun as array_transition_Begun
pub use Rattle.array_transition.proofs.array_reshaping_laws_ResyncLaws
pub use Rattle.array_transition.proofs.array_fixed_invariant_Whole
pub use Rattle.array_transition.proofs.array_fixed_laws_PlansKept
pub use Rattle.array_transition.proofs.array_fixed_sync_Lowest
pub use Rattle.array_reply_specs.proofs.array_call_specs_LossLaws
pub use Rattle.array_reply_specs.proofs.array_call_specs_ReadyLaws
pub use Rattle.array_reply_specs.proofs.array_call_specs_ReplyLaws
pub use Rattle.array_reply_specs.proofs.array_call_laws_AdoptingLaws
pub use Rattle.array_reply_specs.proofs.reshape_sb_updates_NewRoles
pub use Rattle.array_reply_specs.proofs.history_append_LosingLaws
pub use Rattle.array_transition.proofs.array_members_Fit
pub use Rattle.array_transition.proofs.array_members_LackingLaws
pub use Rattle.array_transition.proofs.array_members_MovedLaws
pub use Rattle.array_transition.proofs.history_invariant_Marks
pub use Rattle.array_transition.proofs.history_invariant_Tests
pub use Rattle.array_transition.proofs.history_invariant_Growing
pub use Rattle.array_transition.proofs.crash_safety_laws_Without
pub use Rattle.array_transition.proofs.crash_views_Headers
pub use Rattle.array_transition.proofs.crash_views_Alike
pub use Rattle.array_reply_specs.proofs.history_append_PlainLaws
pub use Rattle.array_reply_specs.proofs.history_append_CallLaws
pub use Rattle.array_transition.proofs.crash_safety_laws_PlannedRoles
pub use Rattle.array_transition.proofs.crash_views_Stands
pub use Rattle.array_transition.proofs.history_invariant_Opened
pub use Rattle.array_transition.proofs.history_invariant_Turned
pub use Rattle.array_transition.proofs.sb_read_laws_SaidLists
pub use Rattle.array_transition.proofs.sb_read_laws_SaidSlots
pub use Rattle.array_transition.proofs.stripe_row_Losses
pub use Rattle.array_transition.proofs.history_laws_OneShapeGrowing
pub use Rattle.array_transition.proofs.history_laws_ReshapedLaws
pub use Rattle.array_transition.proofs.history_laws_GrowingLaws
mod Parted
pub use Rattle.array_reply_specs.proofs.bank_Causes
pub use Rattle.array_reply_specs.proofs.raid_types_Tabulated
pub use Rattle.array_transition.proofs.array_reshaping_laws_WriteLaws
pub use Rattle.array_transition.proofs.array_call_specs_RecordLaws
pub use Rattle.array_transition.proofs.array_type_Rest
pub use Rattle.array_transition.proofs.array_type_Alike
