-- A step by which the active reshape ends.
use Rattle.std.proofs.Common.{◌≡◌, ◌⊎◌, inl, inr, ℕ, ◌*◌, ◌≤◌, ◌||◌, ◌++◌, min, Bool, true, false, List, [], ◌∷◌, refl, sym, ◌∙◌, ap, arith}
use Rattle.std.proofs.Math.Nat.{min-le_right}
use Rattle.std.proofs.lemmas.Bool.Decides.{nat_tests}
use Rattle.std.specs.Prelude.{nat_lt, if◌then◌else◌, IsTrue}
use Rattle.std.specs.List.{list_any}
use Rattle.array.specs.raid_types_Shapes.{data_disks}
use Rattle.array.specs.raid_types_the_Who.{Who}
use Rattle.array.specs.bank_the_Operation.{Operation}
use Rattle.array.specs.bank_Given.{Given}
use Rattle.array.specs.sb_codec_the_Sb.{Sb}
use Rattle.array.specs.sb_specs_the_Members.{Members}
use Rattle.array.specs.sb_specs_Reading.{is_reshaping, shape_of, final_shape, list_length}
use Rattle.array.specs.sb_specs_Reads.{has_spare}
use Rattle.array.specs.history_the_Entry.{Entry}
use Rattle.array.specs.history_the_Event.{Event}
use Rattle.array.specs.history_the_Event_TheVariants.{Lost, SpareLost, Resized, Step}
use Rattle.array.specs.history_the_LostCause_TheVariants.{Fault}
use Rattle.array.specs.history_the_StepKind_TheVariants.{Finished}
use Rattle.array.specs.history_Flat.{length_of}
use Rattle.array.specs.history_Plain.{entries_of}
use Rattle.array.specs.history_append_Losing.{losses_of}
use Rattle.array.proofs.history_append_CallLaws.{losses-are, length-losses}
use Rattle.array.specs.array_members_Placed.{AreStillHeld}
use Rattle.array.specs.array_members_Rebuilding.{Held}
use Rattle.array.specs.reshape_request_Left.{phases_of}
use Rattle.array.specs.reshape_request_the_PhasesLeft.{PhasesLeft}
use Rattle.array.specs.history_invariant_Recorded.{MayGoOn, IsCallGoing}
use Rattle.array.specs.array_specs_Parts.{RunningParts, still_left}
use Rattle.array.specs.array_fixed_laws_Steps.{IsClosable}
use Rattle.array.specs.array_transition_Ended.{ended_length, WasSpareOrDropped, AreSparesOrDropped, IsReshapeEnded}
use Rattle.array.specs.array_reply_specs_Replies.{IsRefusalToldBy}
use Rattle.array.specs.array_reply_specs_Going.{is_finish, may_drop, MayBeDropped, AreHeldBehind}
use Rattle.array.specs.Calls.{running_left}
use Rattle.array_steps.specs.Steps.{is_turn, TellsLeft, IsStepDone}
use Rattle.array_steps.proofs.Events.{EachOf, each-behind, each-losses, each-entry, each-own, count-one, IsNoStep, going-more}
use Rattle.array_steps.proofs.Went.{epoch-itself, losses-along}
use Rattle.array.proofs.array_fixed_laws_PlansKept.{aim-ended}
use Rattle.array_steps.proofs.Ways.{turn-told}
use Rattle.array_steps.proofs.Begun.{losses-long}
use Rattle.array.proofs.Answered.{left-still}

-- ---- what is entered

each-rest : (P : Event → Type 0) (roles spares before size : ℕ) → P (Resized size) → EachOf P (losses_of roles spares) → EachOf P (ended_length before size ++ losses_of roles spares)
each-rest P roles spares before size resized losses = by (nat_lt before size)
  where
    by : (b : Bool) → EachOf P ((if b then Resized size ∷ [] else []) ++ losses_of roles spares)
    by true = (resized, losses)
    by false = losses

-- an end is told among them
finish-told : (p : Event → Bool) → ((left : ℕ) → p (Step Finished left) ≡ true) → (who : Who) (end left : ℕ) (xs ys : List Event) → list_any (λ e. p e.event) (entries_of who end (xs ++ Step Finished left ∷ ys)) ≡ true
finish-told p is who end left [] ys = ap (λ (b : Bool). b || list_any (λ e. p e.event) (entries_of who end ys)) (is left)
finish-told p is who end left (x ∷ xs) ys = right (p x) (list_any (λ e. p e.event) (entries_of who end (xs ++ Step Finished left ∷ ys))) (finish-told p is who end left xs ys)
  where
    right : (a b : Bool) → b ≡ true → (a || b) ≡ true
    right true b is = refl
    right false b is = is

-- ---- the length of the list

ended-length : (who : Who) (end left roles spares late late_spares n size : ℕ) → (nat_lt n size ≡ false → size ≡ n)
    → size ≡ length_of n (entries_of who end (losses_of roles spares ++ Step Finished left ∷ (ended_length n size ++ losses_of late late_spares)))
ended-length who end left roles spares late late_spares n size same =
    by (nat_lt n size) same ∙ sym (length-losses who end (losses_of roles spares) (Step Finished left ∷ (ended_length n size ++ losses_of late late_spares)) (losses-are roles spares) n)
  where
    by : (b : Bool) → (b ≡ false → size ≡ n) → size ≡ length_of n (entries_of who end (Step Finished left ∷ ((if b then Resized size ∷ [] else []) ++ losses_of late late_spares)))
    by true is = sym (losses-long who end late late_spares size)
    by false is = is refl ∙ sym (losses-long who end late late_spares n)

-- it is no shorter than before
no-shorter : (old new : Sb) → list_length new ≡ data_disks (final_shape old) * old.size → nat_lt (list_length old) (list_length new) ≡ false → list_length new ≡ list_length old
no-shorter old new is none = least (data_disks (shape_of old)) (data_disks (final_shape old)) old.size (list_length new) is none
  where
    least : (a b size n : ℕ) → n ≡ b * size → nat_lt (min a b * size) n ≡ false → n ≡ min a b * size
    least a b size n long none =
        let low : min a b ≤ b = min-le_right a b in
        let within : min a b * size ≤ b * size = times (min a b) b size low in
        let over : n ≤ min a b * size = not-less (min a b * size) n none in omega (arith, within, over, long)
      where
        times : (x y k : ℕ) → x ≤ y → x * k ≤ y * k
        times x y k le = grind (arith, le)

        not-less : (x y : ℕ) → nat_lt x y ≡ false → y ≤ x
        not-less x y is = grind (arith, nat_tests, is)

-- ---- it ends

dropped-behind : (old new : Members) (entries : List Entry) → IsTrue (list_any (λ e. may_drop e.event) entries) → AreStillHeld old new → AreSparesOrDropped old new → AreHeldBehind old new entries
dropped-behind old new entries told held spares = record { roles = λ role slot has. inl (inl (held role slot has)); spares = λ slot is. by slot (spares slot is) }
  where
    by : (slot : ℕ) → (has_spare old.spares slot ≡ true) ⊎ ((role : ℕ) × ((final_shape old.newest).disks ≤ role) × Held old role slot) → (has_spare old.spares slot ≡ true) ⊎ MayBeDropped old entries slot
    by slot (inl was) = inl was
    by slot (inr (role, past, had)) = inr (told, role, had)

module _ {B : Type 0} (tells : Type 0) (given : B → Given) (tape : B → List Operation) (faults : B → ℕ → ℕ) (who : Who) (old new : RunningParts B) where
  pub finish-done : IsCallGoing old.parts.entries who → is_reshaping old.parts.members.newest ≡ true
      → IsReshapeEnded tells (given old.parts.bank) (tape old.parts.bank) (tape new.parts.bank) (faults old.parts.bank) (faults new.parts.bank) who old new → given new.parts.bank ≡ given old.parts.bank
      → IsClosable new → IsStepDone tells given tape faults who old new true
  finish-done goes before_active was given_is closes = record {
    inner = inner;
    is = was.entered.is;
    own = each-own MayGoOn who end events (each MayGoOn (λ role. tt) (λ slot. tt) tt tt);
    told = each-entry (TellsLeft (running_left new)) who end events (each (TellsLeft (running_left new)) (λ role. tt) (λ slot. tt) (sym (left-still new was.over.still)) tt);
    one = inl (count-one who end (losses_of roles spares) (Step Finished left) (ended_length before size ++ losses_of late late_spares) (each-losses IsNoStep (λ role. refl) (λ slot. refl) roles spares) refl
        (each-rest IsNoStep late late_spares before size refl (each-losses IsNoStep (λ role. refl) (λ slot. refl) late late_spares)));
    over_told = sym finished;
    left = λ over. absurd (cc);
    next_open = λ over some kept. absurd (cc);
    going = going-more inner goes was.entered.is (each-own MayGoOn who end events (each MayGoOn (λ role. tt) (λ slot. tt) tt tt));
    closable = λ none. closes;
    went = record {
      more = inner;
      grown = was.entered.is;
      sized = ended-length who end left roles spares late late_spares before size (no-shorter old.parts.members.newest new.parts.members.newest was.long);
      held = dropped-behind old.parts.members new.parts.members inner drops was.held was.spares;
      losses = losses-along old.parts.members (faults old.parts.bank) (faults new.parts.bank) (Held old.parts.members) (WasSpareOrDropped old.parts.members) (λ role slot has. inl has)
          (λ slot was. elim was [ inl spare ↦ inl spare | inr (role, past, had) ↦ inr (role, had) ]) old.parts.entries new.parts.entries inner was.entered.is was.losses;
      refusals = record {
        more = inner;
        grown = was.entered.is;
        told = each-entry told who end events (each told (λ role. tt) (λ slot. tt) tt tt);
      };
      grows = was.grows;
      never_falls = was.never_falls;
      given_is = given_is;
      same = epoch-itself old new was.same;
      active = λ still none. was.over.still;
      ahead = λ empty none. ap (λ (p : PhasesLeft). phases_of p) was.ahead ∙ empty;
    };
    kept = record {
      aim = aim-ended old new before_active was.over.still was.over.shape was.ahead;
      size = was.over.size;
      limit = was.same.limit;
      unturned = turn-told old.parts.entries new.parts.entries inner was.entered.is turns;
      roles = λ still. turn-told old.parts.entries new.parts.entries inner was.entered.is turns;
      failed = λ still. turn-told old.parts.entries new.parts.entries inner was.entered.is turns;
      lost = λ active. turn-told old.parts.entries new.parts.entries inner was.entered.is turns;
    };
    ended = was.ended;
  }
    where
      end : ℕ
      end = was.entered.end

      roles : ℕ
      roles = was.entered.roles

      spares : ℕ
      spares = was.entered.spares

      late : ℕ
      late = was.entered.late

      late_spares : ℕ
      late_spares = was.entered.late_spares

      before : ℕ
      before = list_length old.parts.members.newest

      size : ℕ
      size = list_length new.parts.members.newest

      left : ℕ
      left = still_left new.parts.work new.parts.members new.ahead

      events : List Event
      events = losses_of roles spares ++ Step Finished left ∷ (ended_length before size ++ losses_of late late_spares)

      inner : List Entry
      inner = entries_of who end events

      told : Event → Type 0
      told = IsRefusalToldBy old.parts.backup (faults old.parts.bank) (faults new.parts.bank)

      each : (P : Event → Type 0) → ((role : ℕ) → P (Lost role Fault)) → ((slot : ℕ) → P (SpareLost slot)) → P (Step Finished left) → P (Resized size) → EachOf P events
      each P role spare step resized = each-behind P role spare roles spares (Step Finished left ∷ (ended_length before size ++ losses_of late late_spares))
          (step, each-rest P late late_spares before size resized (each-losses P role spare late late_spares))

      finished : list_any (λ e. is_finish e.event) inner ≡ true
      finished = finish-told is_finish (λ n. refl) who end left (losses_of roles spares) (ended_length before size ++ losses_of late late_spares)

      drops : list_any (λ e. may_drop e.event) inner ≡ true
      drops = finish-told may_drop (λ n. refl) who end left (losses_of roles spares) (ended_length before size ++ losses_of late late_spares)

      turns : list_any (λ e. is_turn e.event) inner ≡ true
      turns = finish-told is_turn (λ n. refl) who end left (losses_of roles spares) (ended_length before size ++ losses_of late late_spares)
