mod Events
mod Went
mod Ways
mod Plain
mod Refusals
mod Own
mod Moved
mod Begun
mod Taken
mod Ended
mod StepsOf
mod Replies
mod Behind
pub use Rattle.array.proofs.array_reply_specs_Fitting
pub use Rattle.array.proofs.array_reply_specs_GoneOn
pub use Rattle.array.proofs.array_fixed_invariant_Whole
pub use Rattle.array.proofs.array_call_specs_ReadyLaws
pub use Rattle.array.proofs.array_call_specs_ReplyLaws
pub use Rattle.array.proofs.array_call_laws_AdoptingLaws
pub use Rattle.array.proofs.history_invariant_Tests
pub use Rattle.array.proofs.history_invariant_Opened
pub use Rattle.array.proofs.history_append_PlainLaws
pub use Rattle.array.proofs.history_append_LosingLaws
pub use Rattle.array.proofs.history_append_CallLaws
pub use Rattle.array.proofs.history_invariant_Turned
pub use Rattle.array.proofs.history_invariant_Growing
pub use Rattle.array.proofs.Ended as array_Ended
pub use Rattle.array.proofs.stripe_row_Losses
pub use Rattle.array.proofs.history_laws_OneShapeGrowing
pub use Rattle.array.proofs.history_laws_ReshapedLaws
pub use Rattle.array.proofs.history_laws_GrowingLaws
pub use Rattle.array.proofs.array_fixed_laws_PlansKept
pub use Rattle.array.proofs.Closed as array_Closed
pub use Rattle.array.proofs.Kept as array_Kept
pub use Rattle.array.proofs.Both as array_Both
pub use Rattle.array.proofs.array_members_MovedLaws
pub use Rattle.array.proofs.array_grow_Idle
pub use Rattle.array.proofs.array_grow_PlanLaws
pub use Rattle.array.proofs.array_grow_Replied
pub use Rattle.array.proofs.array_grow_Windows
pub use Rattle.array.proofs.Chosen as array_Chosen
pub use Rattle.array.proofs.Entered as array_Entered
pub use Rattle.array.proofs.array_grow_Aside
