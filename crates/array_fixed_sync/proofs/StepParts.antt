-- What a step leaves, by whether a resync was pending.
use Rattle.std.proofs.Common.{◌≡◌, ◌≢◌, ℕ, Bool, true, false, Option, Some, None, Result, Ok, Err, List, is_some, refl, sym, ◌∙◌, ap, subst}
use Rattle.std.specs.Prelude.{IsSome, IsTrue, OnOk, MatchOption, if◌then◌else◌}
use Rattle.std.specs.Option.{option_map_or}
use Rattle.array_fixed_io.specs.raid_types_the_Fault.{Fault}
use Rattle.array_fixed_io.specs.raid_types_the_Fault_TheVariants.{NoMemory}
use Rattle.array_fixed_io.specs.raid_types_the_Who.{Who}
use Rattle.array_fixed_io.specs.sb_specs_the_Members.{Members}
use Rattle.array_fixed_io.specs.history_the_Entry.{Entry}
use Rattle.array_fixed_io.specs.history_the_StepKind.{StepKind}
use Rattle.array_fixed_io.specs.history_the_StepKind_TheVariants.{RebuildTaken, RebuildEnded}
use Rattle.array_fixed_io.specs.array_members_the_Work.{Work}
use Rattle.array_fixed_io.specs.array_members_Lacking.{AreTooMany}
use Rattle.array_fixed_io.specs.array_call_specs_Calls.{IsCausedBy, IsRebuildStepped, by_answer}
use Rattle.array_fixed_io.specs.array_specs_Calls.{IsStepTaken}
use Rattle.array_fixed_sync.specs.Resyncing.{is_at_end, IsUnsynced}
use Rattle.array_fixed_sync.specs.Resyncing as resync
use Rattle.array_fixed_io.specs.array_type_Rebuilding.{rebuilt_role, rebuild_kind, rebuild_events, after_rebuild}
use Rattle.array_fixed_sync.specs.Stepping.{IsUndone, IsStepEntered, next_kind, after_step}
use Rattle.array_fixed_sync.proofs.NextLaws.{of-resync, not-resynced}

-- ---- of a resync

pub resync-entered : {T : Type 0} (who : Who) (old new : List Entry) (work : Work) (members members' : Members) (left : ℕ) (result : Result T Fault) → IsSome work.resync
    → IsStepTaken who old new (resync.next_kind work.resync members) left result → IsStepEntered who old new work members members' left result
resync-entered {T} who old new work members members' left result = by work.resync
  where
    by : (o : Option ℕ) → IsSome o → IsStepTaken who old new (resync.next_kind work.resync members) left result
        → MatchOption o (IsRebuildStepped who old new members' (rebuilt_role members) (rebuild_events (rebuild_kind work members) (rebuilt_role members) left) result)
        (λ mended. IsStepTaken who old new (resync.next_kind work.resync members) left result)
    by None some was = absurd (cc)
    by (Some mended) some was = was

pub taken-short : {T : Type 0} (who : Who) (old new : List Entry) (kind : StepKind) (left : ℕ) (result : Result T Fault) → IsStepTaken who old new kind left result → result ≢ Err NoMemory
taken-short {T} who old new kind left result was = λ same. subst (λ (r : Result T Fault). IsStepTaken who old new kind left r) same was

pub resync-work : {T : Type 0} (work work' : Work) (members : Members) (result : Result T Fault) → IsSome work.resync
    → work' ≡ record work { resync = by_answer result (resync.after_step work.resync members) work.resync } → work' ≡ by_answer result (after_step work members) work
resync-work {T} work work' members (Ok x) some was = was ∙ by work.resync some
  where
    by : (o : Option ℕ) → IsSome o
        → ◌≡◌ {A = Work} (record work { resync = resync.after_step work.resync members })
        (option_map_or (λ mended. record work { resync = resync.after_step work.resync members }) o (after_rebuild (rebuild_kind work members) (rebuilt_role members) work))
    by None some = absurd (cc)
    by (Some mended) some = refl
resync-work work work' members (Err fault) some was = was

pub resync-caused : {T : Type 0} (visible : ℕ) (work : Work) (old new : Members) (result : Result T Fault) → IsSome work.resync → IsCausedBy visible 0 (IsUnsynced (is_at_end work.resync old)) old new result
    → IsCausedBy visible 0 (IsUndone work old) old new result
resync-caused {T} visible work old new result = by work.resync
  where
    by : (o : Option ℕ) → IsSome o → IsCausedBy visible 0 (IsUnsynced (is_at_end work.resync old)) old new result
        → IsCausedBy visible 0 (λ m refusal. MatchOption o (AreTooMany m refusal) (λ mended. IsUnsynced (is_at_end work.resync old) m refusal)) old new result
    by None some was = absurd (cc)
    by (Some mended) some was = was

pub resync-clean : {T E : Type 0} (resync : Option ℕ) (now end before : Bool) (result : Result T E) → IsSome resync → OnOk result (now ≡ end) → OnOk result (now ≡ (if is_some resync then end else before))
resync-clean None now end before result some was = absurd (cc)
resync-clean (Some mended) now end before result some was = was

pub resync-untaken : {T E : Type 0} (Fact : Type 0) (work : Work) (members : Members) (result : Result T E) → IsSome work.resync → OnOk result (next_kind work members ≡ RebuildTaken → Fact)
resync-untaken Fact work members (Ok x) some = not-resynced Fact (next_kind work members) RebuildTaken (of-resync work members some) refl
resync-untaken Fact work members (Err fault) some = tt

pub resync-unended : {T E : Type 0} (Fact : Type 0) (work : Work) (members : Members) (result : Result T E) → IsSome work.resync → OnOk result (next_kind work members ≡ RebuildEnded → Fact)
resync-unended Fact work members (Ok x) some = not-resynced Fact (next_kind work members) RebuildEnded (of-resync work members some) refl
resync-unended Fact work members (Err fault) some = tt

-- ---- of a rebuild

pub rebuild-entered : {T : Type 0} (who : Who) (old new : List Entry) (work : Work) (members members' : Members) (left : ℕ) (result : Result T Fault) → work.resync ≡ None
    → IsRebuildStepped who old new members' (rebuilt_role members) (rebuild_events (rebuild_kind work members) (rebuilt_role members) left) result → IsStepEntered who old new work members members' left result
rebuild-entered {T} who old new work members members' left result synced was =
    subst (λ (o : Option ℕ). MatchOption o (IsRebuildStepped who old new members' (rebuilt_role members) (rebuild_events (rebuild_kind work members) (rebuilt_role members) left) result)
    (λ mended. IsStepTaken who old new (resync.next_kind work.resync members) left result)) (sym synced) was

pub rebuild-work : {T : Type 0} (work work' : Work) (members : Members) (result : Result T Fault) → work.resync ≡ None
    → work' ≡ by_answer result (after_rebuild (rebuild_kind work members) (rebuilt_role members) work) work → work' ≡ by_answer result (after_step work members) work
rebuild-work {T} work work' members result synced was =
    was ∙ ap (λ (o : Option ℕ). by_answer result (option_map_or (λ mended. record work { resync = resync.after_step work.resync members }) o (after_rebuild (rebuild_kind work members) (rebuilt_role members) work)) work) (sym synced)

pub rebuild-clean : {T E : Type 0} (resync : Option ℕ) (now end before : Bool) (result : Result T E) → resync ≡ None → now ≡ before → OnOk result (now ≡ (if is_some resync then end else before))
rebuild-clean None now end before (Ok x) synced was = was
rebuild-clean (Some mended) now end before (Ok x) synced was = absurd (cc)
rebuild-clean resync now end before (Err fault) synced was = tt

pub rebuild-unflushed : {T E : Type 0} (Fact : Type 0) (resync : Option ℕ) (members : Members) (result : Result T E) → resync ≡ None → OnOk result (IsTrue (is_at_end resync members) → Fact)
rebuild-unflushed Fact resync members (Ok x) synced =
    λ end. absurd (let end_is : is_at_end resync members ≡ true = end in let none : is_at_end resync members ≡ false = ap (λ (o : Option ℕ). is_at_end o members) synced in never end_is none)
  where
    never : {b : Bool} → b ≡ true → b ≡ false → ⊥
    never on off = let both : true ≡ false = sym on ∙ off in cc
rebuild-unflushed Fact resync members (Err fault) synced = tt
