pub mod Answered
pub mod Both
pub mod Checked
pub mod Chosen
pub mod Closed
pub mod Ended
pub mod Entered
pub mod Kept
pub use Rattle.array_grow.proofs.array_reply_specs_Fitting
pub use Rattle.array_grow.proofs.array_reply_specs_GoneOn
pub use Rattle.array_grow.proofs.array_fixed_invariant_Whole
pub use Rattle.array_grow.proofs.array_fixed_laws_PlansKept
pub use Rattle.array_takeover.proofs.array_fixed_sync_NextLaws
pub use Rattle.array_grow.proofs.array_transition_Begun
pub use Rattle.array_grow.proofs.array_call_specs_LossLaws
pub use Rattle.array_grow.proofs.array_call_specs_ReadyLaws
pub use Rattle.array_grow.proofs.array_call_specs_ReplyLaws
pub use Rattle.array_grow.proofs.array_call_laws_AdoptingLaws
pub use Rattle.array_grow.proofs.reshape_sb_updates_NewRoles
pub use Rattle.array_takeover.proofs.TakenFrom as array_takeover_TakenFrom
pub use Rattle.array_grow.proofs.history_append_PlainLaws
pub use Rattle.array_grow.proofs.history_append_CallLaws
pub use Rattle.array_grow.proofs.array_members_MovedLaws
pub use Rattle.array_grow.proofs.crash_safety_laws_PlannedRoles
pub use Rattle.array_grow.proofs.crash_views_Stands
pub use Rattle.array_grow.proofs.history_invariant_Tests
pub use Rattle.array_grow.proofs.history_invariant_Opened
pub use Rattle.array_grow.proofs.history_append_LosingLaws
pub use Rattle.array_grow.proofs.history_invariant_Turned
pub use Rattle.array_grow.proofs.history_invariant_Growing
pub use Rattle.array_grow.proofs.sb_read_laws_SaidLists
pub use Rattle.array_grow.proofs.sb_read_laws_SaidSlots
pub use Rattle.array_grow.proofs.stripe_row_Losses
pub use Rattle.array_grow.proofs.history_laws_OneShapeGrowing
pub use Rattle.array_grow.proofs.history_laws_ReshapedLaws
pub use Rattle.array_grow.proofs.history_laws_GrowingLaws
pub use Rattle.array_grow.proofs.Idle as array_grow_Idle
pub use Rattle.array_grow.proofs.PlanLaws as array_grow_PlanLaws
pub use Rattle.array_grow.proofs.Replied as array_grow_Replied
pub use Rattle.array_grow.proofs.Windows as array_grow_Windows
pub use Rattle.array_grow.proofs.bank_Causes
pub use Rattle.array_grow.proofs.raid_types_Tabulated
pub use Rattle.array_grow.proofs.array_reshaping_laws_WriteLaws
pub use Rattle.array_grow.proofs.Aside as array_grow_Aside
