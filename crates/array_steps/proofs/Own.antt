-- The next step without a reshape: of a resync or a rebuild.
use Rattle.std.proofs.Common.{◌≡◌, inl, inr, ℕ, ◌<◌, Bool, true, false, not, cond, Option, Some, None, Ok, Err, List, [], ◌∷◌, refl, sym, ◌∙◌, ap, subst}
use Rattle.std.proofs.lemmas.List.Elements.{All-weaker}
use Rattle.std.specs.Prelude.{nat_lt, is_some, MatchOption}
use Rattle.std.specs.Option.{option_map_or}
use Rattle.array.specs.raid_types_the_Fault_TheVariants.{Refused as IsRefusedWith}
use Rattle.array.specs.raid_types_the_Refusal.{Refusal}
use Rattle.array.specs.raid_types_the_Who.{Who}
use Rattle.array.specs.bank_the_Operation.{Operation}
use Rattle.array.specs.bank_Given.{Given, IsFaulted}
use Rattle.array.specs.sb_specs_the_Members.{Members}
use Rattle.array.specs.sb_specs_Reading.{is_reshaping, list_length}
use Rattle.array.specs.history_the_Entry.{Entry}
use Rattle.array.specs.history_the_Event.{Event}
use Rattle.array.specs.history_the_Event_TheVariants.{Lost, Rebuilt, Step, Refused}
use Rattle.array.specs.history_the_LostCause_TheVariants.{Fault as ByFault}
use Rattle.array.specs.history_the_StepKind.{StepKind}
use Rattle.array.specs.history_the_StepKind_TheVariants.{Finished, RebuildTaken, RebuildStripe, RebuildEnded, ResyncStripe, ResyncEnded}
use Rattle.array.specs.array_members_the_Work.{Work}
use Rattle.array.specs.stripe_row_Rows.{reading_of}
use Rattle.array.specs.array_members_Placed.{is_unassigned}
use Rattle.array.specs.array_members_Rebuilding.{Held}
use Rattle.array.specs.array_members_Status.{stripes_of, rebuilt_of, left_of}
use Rattle.array.specs.array_call_specs_Calls.{AreHeldOrSpare, AreStepsFewer, IsBehind, IsBehindAll, IsLossBy, IsRebuildStepped, IsRefusedFor, WasSpare}
use Rattle.array.specs.array_specs_Parts.{RunningParts, still_left}
use Rattle.array.specs.array_specs_Calls.{IsStepTaken}
use Rattle.array.specs.array_fixed_laws_Steps.{IsStepped, IsClosable}
use Rattle.array.specs.array_fixed_sync_Rebuilding.{first_recovering, rebuilt_role, rebuild_kind, rebuild_events}
use Rattle.array.specs.array_fixed_sync_Resyncing.{is_at_end}
use Rattle.array.specs.array_fixed_sync_Resyncing as resync
use Rattle.array.specs.array_fixed_sync_Stepping.{IsUndone, IsHeldOrDue, IsStepEntered}
use Rattle.array.proofs.array_fixed_sync_NextLaws.{due-may}
use Rattle.array.specs.history_invariant_Recorded.{IsCallGoing}
use Rattle.array.specs.array_reply_specs_Going.{is_finish}
use Rattle.array.specs.Calls.{running_left, MayEndSteps}
use Rattle.array_steps.specs.Steps.{IsHolderFailed, IsStepDone, IsStepRefused}
use Rattle.array_steps.proofs.Events.{IsOfStep, IsStepEntries, entries-behind, entries-lost}
use Rattle.array_steps.proofs.Went.{epoch-of, long-same}
use Rattle.array_steps.proofs.Ways.{same-holder, way-same}
use Rattle.array_steps.proofs.Plain.{fewer-as, IsPlainStep, plain-done, plain-refused}
use Rattle.array_steps.proofs.Refusals.{own-ends, own-cause}
use Rattle.array.proofs.Answered.{left-still}
use Rattle.array.proofs.Closed.{given-vacant}

-- the slot that a role is given has none of those that held one
due-failed : (work : Work) (m : Members) (f g : ℕ → ℕ) (Was : ℕ → Type 0) → 0 < left_of work m → (event : Event) → IsLossBy (IsHeldOrDue work m) Was f g event → IsHolderFailed m f g event
due-failed work m f g Was some (Lost role ByFault) loss = λ slot here. by slot here loss.0 loss.1 loss.2
  where
    none-held : (slot : ℕ) → is_unassigned (reading_of m) (rebuilt_role m) ≡ true → Held m (rebuilt_role m) slot → ⊥
    none-held slot vacant held = absurd (let clash : false ≡ true = sym (ap (λ (o : Option ℕ). not (is_some o)) held) ∙ vacant in cc)

    by : (slot : ℕ) → Held m role slot → (had : ℕ) → IsHeldOrDue work m role had → IsFaulted had f g → IsFaulted slot f g
    by slot here had (inl held) failed = subst (λ (s : ℕ). IsFaulted s f g) (same-holder m role had slot held here) failed
    by slot here had (inr (kind, (is, spare))) failed = absurd (none-held slot (given-vacant work m some kind) (subst (λ (r : ℕ). Held m r slot) is here))
due-failed work m f g Was some (Lost role cause) loss = tt
due-failed work m f g Was some event loss = tt

own-did : {B : Type 0} (tells : Type 0) (given : B → Given) (tape : B → List Operation) (faults : B → ℕ → ℕ) (old new : RunningParts B)
    → IsStepped tells (given old.parts.bank) (tape old.parts.bank) (tape new.parts.bank) (IsHeldOrDue old.parts.work old.parts.members) (faults old.parts.bank) (faults new.parts.bank) old new
    → AreHeldOrSpare old.parts.members new.parts.members → given new.parts.bank ≡ given old.parts.bank → is_reshaping old.parts.members.newest ≡ false → is_reshaping new.parts.members.newest ≡ false
    → 0 < left_of old.parts.work old.parts.members → IsPlainStep tells given tape faults (IsHeldOrDue old.parts.work old.parts.members) old new
own-did tells given tape faults old new was held given_is still later some = record {
  long = long-same old new was.same;
  held = held;
  had = due-may old.parts.work old.parts.members;
  losses = was.losses;
  grows = was.grows;
  never_falls = was.never_falls;
  given_is = given_is;
  epoch = epoch-of old new was.same;
  active = λ still. later;
  ahead = was.same.ahead;
  kept = way-same (faults old.parts.bank) (faults new.parts.bank) old new was.same (later ∙ sym still)
      (λ none. (
        was.failed,
        (
          was.losses.more,
          was.losses.grown,
          All-weaker (λ e. IsLossBy (IsHeldOrDue old.parts.work old.parts.members) (WasSpare old.parts.members) (faults old.parts.bank) (faults new.parts.bank) e.event)
              (λ e. IsHolderFailed old.parts.members (faults old.parts.bank) (faults new.parts.bank) e.event)
              (λ e loss. due-failed old.parts.work old.parts.members (faults old.parts.bank) (faults new.parts.bank) (WasSpare old.parts.members) some e.event loss) was.losses.more was.losses.failed,
        ),
      ))
      (λ active. absurd (let clash : true ≡ false = sym active ∙ still in cc));
  ended = was.ended;
}

of-kind : (kind : StepKind) (left : ℕ) → is_finish (Step kind left) ≡ false → IsOfStep left (Step kind left)
of-kind Finished left none = absurd (cc)
of-kind kind left none = refl

pub step-entries : (who : Who) (old new : List Entry) (kind : StepKind) (left : ℕ) → is_finish (Step kind left) ≡ false → IsBehind who old new (Step kind left) → IsStepEntries who old new left
step-entries who old new kind left none was = entries-behind who old new left was.roles was.spares was.end (Step kind left) [] was.is (of-kind kind left none, tt) refl tt

rebuild-entries : (who : Who) (old new : List Entry) (work : Work) (members : Members) (left : ℕ) → IsBehindAll who old new (rebuild_events (rebuild_kind work members) (rebuilt_role members) left) → IsStepEntries who old new left
rebuild-entries who old new work members left was = by (first_recovering members) was
  where
    ended : IsBehindAll who old new (rebuild_events RebuildEnded (rebuilt_role members) left) → IsStepEntries who old new left
    ended is = entries-behind who old new left is.0 is.1 is.2 (Step RebuildEnded left) (Rebuilt (rebuilt_role members) ∷ []) is.3 (refl, (tt, tt)) refl (refl, tt)

    built : IsBehindAll who old new (rebuild_events RebuildStripe (rebuilt_role members) left) → IsStepEntries who old new left
    built is = entries-behind who old new left is.0 is.1 is.2 (Step RebuildStripe left) [] is.3 (refl, tt) refl tt

    taken : IsBehindAll who old new (rebuild_events RebuildTaken (rebuilt_role members) left) → IsStepEntries who old new left
    taken is = entries-behind who old new left is.0 is.1 is.2 (Step RebuildTaken left) [] is.3 (refl, tt) refl tt

    at : (b : Bool) → IsBehindAll who old new (rebuild_events (cond b RebuildStripe RebuildEnded) (rebuilt_role members) left) → IsStepEntries who old new left
    at true is = built is
    at false is = ended is

    by : (o : Option ℕ) → IsBehindAll who old new (rebuild_events (option_map_or (λ role. cond (nat_lt (rebuilt_of work role) (stripes_of members)) RebuildStripe RebuildEnded) o RebuildTaken) (rebuilt_role members) left) → IsStepEntries who old new left
    by None is = taken is
    by (Some role) is = at (nat_lt (rebuilt_of work role) (stripes_of members)) is

own-entries : {T : Type 0} (who : Who) (old new : List Entry) (work : Work) (members members' : Members) (left : ℕ) (x : T) → IsStepEntered {T = T} who old new work members members' left (Ok x) → IsStepEntries who old new left
own-entries {T = T} who old new work members members' left x = by work.resync
  where
    rebuilt : IsRebuildStepped {T = T} who old new members' (rebuilt_role members) (rebuild_events (rebuild_kind work members) (rebuilt_role members) left) (Ok x) → IsStepEntries who old new left
    rebuilt (inl done) = rebuild-entries who old new work members left done
    rebuilt (inr lost) = entries-lost who old new left (rebuilt_role members) lost.0

    mended : (b : Bool) → IsBehind who old new (Step (cond b ResyncEnded ResyncStripe) left) → IsStepEntries who old new left
    mended true was = step-entries who old new ResyncEnded left refl was
    mended false was = step-entries who old new ResyncStripe left refl was

    by : (o : Option ℕ) → MatchOption o (IsRebuildStepped {T = T} who old new members' (rebuilt_role members) (rebuild_events (rebuild_kind work members) (rebuilt_role members) left) (Ok x))
        (λ n. IsStepTaken {T = T} who old new (resync.next_kind work.resync members) left (Ok x)) → IsStepEntries who old new left
    by None was = rebuilt was
    by (Some n) was = mended (is_at_end work.resync members) was

own-behind : (T : Type 0) (who : Who) (old new : List Entry) (work : Work) (members members' : Members) (left : ℕ) (refusal : Refusal)
    → IsStepEntered {T = T} who old new work members members' left (Err (IsRefusedWith refusal)) → IsBehind who old new (Refused refusal)
own-behind T who old new work members members' left refusal = by work.resync
  where
    by : (o : Option ℕ) → MatchOption o (IsBehind who old new (Refused refusal)) (λ n. IsBehind who old new (Refused refusal)) → IsBehind who old new (Refused refusal)
    by None was = was
    by (Some n) was = was

module _ {B : Type 0} (tells : Type 0) (given : B → Given) (tape : B → List Operation) (faults : B → ℕ → ℕ) (who : Who) (old new : RunningParts B) (goes : IsCallGoing old.parts.entries who)
    (still : is_reshaping old.parts.members.newest ≡ false) (later : is_reshaping new.parts.members.newest ≡ false)
    (was : IsStepped tells (given old.parts.bank) (tape old.parts.bank) (tape new.parts.bank) (IsHeldOrDue old.parts.work old.parts.members) (faults old.parts.bank) (faults new.parts.bank) old new)
    (held : AreHeldOrSpare old.parts.members new.parts.members) (given_is : given new.parts.bank ≡ given old.parts.bank) (some : 0 < left_of old.parts.work old.parts.members) where
  pub own-done : {T : Type 0} (x : T) → IsStepEntered {T = T} who old.parts.entries new.parts.entries old.parts.work old.parts.members new.parts.members (still_left new.parts.work new.parts.members new.ahead) (Ok x)
      → AreStepsFewer old.parts.entries new.parts.entries (still_left old.parts.work old.parts.members old.ahead) (still_left new.parts.work new.parts.members new.ahead) → IsClosable new → IsStepDone tells given tape faults who old new false
  own-done x entered fewer closes =
      plain-done tells given tape faults who old new (IsHeldOrDue old.parts.work old.parts.members) (own-did tells given tape faults old new was held given_is still later some)
      (subst (λ (n : ℕ). IsStepEntries who old.parts.entries new.parts.entries n) (sym (left-still new later))
      (own-entries who old.parts.entries new.parts.entries old.parts.work old.parts.members new.parts.members (still_left new.parts.work new.parts.members new.ahead) x entered))
      goes (later ∙ sym still)
      (fewer-as old.parts.entries new.parts.entries (still_left old.parts.work old.parts.members old.ahead) (still_left new.parts.work new.parts.members new.ahead) (running_left old) (running_left new) (left-still old still) (left-still new later) fewer) (λ none. closes)

  pub own-refused : (T : Type 0) (refusal : Refusal) → IsStepEntered {T = T} who old.parts.entries new.parts.entries old.parts.work old.parts.members new.parts.members (still_left new.parts.work new.parts.members new.ahead) (Err (IsRefusedWith refusal))
      → IsRefusedFor (list_length old.parts.members.newest) 0 (IsUndone old.parts.work old.parts.members) old.parts.members new.parts.members refusal → MayEndSteps new refusal → IsStepRefused tells given tape faults who old new refusal
  own-refused T refusal entered caused right =
      plain-refused tells given tape faults who old new (IsHeldOrDue old.parts.work old.parts.members) refusal (own-did tells given tape faults old new was held given_is still later some)
      (own-behind T who old.parts.entries new.parts.entries old.parts.work old.parts.members new.parts.members (still_left new.parts.work new.parts.members new.ahead) refusal entered) goes
      (own-ends (list_length old.parts.members.newest) old.parts.work old.parts.members new.parts.members refusal caused)
      (own-cause (list_length old.parts.members.newest) old.parts.work old.parts.members new.parts.members refusal old.parts.backup (faults old.parts.bank) (faults new.parts.bank) caused) right
