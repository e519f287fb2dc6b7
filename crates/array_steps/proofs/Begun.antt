-- A step by which a reshape begins, or can't.
use Rattle.std.proofs.Common.{◌≡◌, inl, inr, ℕ, ◌+◌, ◌*◌, ◌&&◌, ◌||◌, ◌++◌, min, Bool, true, false, not, Some, None, List, [], ◌∷◌, refl, sym, ◌∙◌, ap, subst, arith}
use Rattle.std.proofs.lemmas.Bool.{cases_lt, and_parts}
use Rattle.std.proofs.lemmas.Bool.Decides.{nat_tests}
use Rattle.std.proofs.lemmas.List.{get_or_past}
use Rattle.std.proofs.lemmas.List.Elements.{All-nil, All-cons}
use Rattle.std.specs.Prelude.{nat_lt, IsSome}
use Rattle.array.specs.raid_types_Search.{tabulate}
use Rattle.array.specs.raid_types_Shapes.{data_disks, has_slot}
use Rattle.array.specs.raid_types_the_Refusal.{Refusal}
use Rattle.array.specs.raid_types_the_Who.{Who}
use Rattle.array.specs.raid_types_the_Shape.{Shape}
use Rattle.array.specs.raid_types_the_Role_TheVariants.{Missing}
use Rattle.array.specs.raid_types_the_Phase.{Phase}
use Rattle.array.specs.raid_types_the_Phase_TheVariants.{Reshape}
use Rattle.array.proofs.raid_types_Tabulated.{length-tabulate, get_or-tabulate}
use Rattle.array.specs.bank_the_Operation.{Operation}
use Rattle.array.specs.bank_Given.{Given, NeverFalls}
use Rattle.array.specs.sb_codec_the_Sb.{Sb}
use Rattle.array.specs.sb_specs_the_Change.{Change}
use Rattle.array.specs.sb_specs_the_Give.{Give}
use Rattle.array.specs.sb_specs_the_Members.{Members}
use Rattle.array.specs.sb_specs_Outcome.{planned_state}
use Rattle.array.specs.sb_specs_Reading.{is_reshaping, shape_of, list_length, role_count, holder}
use Rattle.array.specs.sb_specs_Reads.{has_spare}
use Rattle.array.specs.sb_specs_Update.{give_of, planned_role, is_planned_spare}
use Rattle.array.proofs.sb_read_laws_SaidLists.{role-holder}
use Rattle.array.proofs.sb_read_laws_SaidSlots.{has-slots_below}
use Rattle.array.specs.history_the_Entry.{Entry}
use Rattle.array.specs.history_the_Event.{Event}
use Rattle.array.specs.history_the_Event_TheVariants.{Resized, Step, Refused}
use Rattle.array.specs.history_the_StepKind_TheVariants.{Begun}
use Rattle.array.specs.history_Flat.{length_of}
use Rattle.array.specs.history_Plain.{entries_of}
use Rattle.array.specs.history_append_Losing.{losses_of}
use Rattle.array.proofs.history_append_PlainLaws.{one}
use Rattle.array.proofs.crash_safety_laws_PlannedRoles.{planned-holds}
use Rattle.array.proofs.crash_views_Stands.{final-still}
use Rattle.array.specs.array_members_Moving.{Grows}
use Rattle.array.specs.array_members_Placed.{AreStillHeld}
use Rattle.array.specs.array_members_Rebuilding.{Held, MayHold}
use Rattle.array.specs.array_call_specs_Calls.{AreHeldOrSpare, AreSparesFewer, IsLossBy, WasSpare}
use Rattle.array.proofs.array_call_specs_LossLaws.{behind-alone}
use Rattle.array.specs.reshape_sb_updates_Beginning.{beginning, goes_back}
use Rattle.array.proofs.reshape_sb_updates_NewRoles.{new-or}
use Rattle.array.specs.reshape_begin_end_Begun.{begun_plan}
use Rattle.array.specs.reshape_request_the_PhasesLeft.{PhasesLeft}
use Rattle.array.specs.reshape_request_Left.{IsAtStartOf, phases_of}
use Rattle.array.specs.history_invariant_Recorded.{MayGoOn, IsCallGoing}
use Rattle.array.specs.array_specs_Parts.{RunningParts, left_in}
use Rattle.array.specs.array_transition_Begun.{is_resize, begun_length, IsReshapeBegun, IsGivenBack, IsBeginRefused}
use Rattle.array.specs.array_reply_specs_Replies.{EndsRunningSteps, IsRefusalBy, IsRefusalToldBy}
use Rattle.array.specs.array_reply_specs_Going.{is_finish}
use Rattle.array.specs.Calls.{running_left, MayEndSteps}
use Rattle.array_steps.specs.Steps.{TellsLeft, IsStepDone, IsStepRefused}
use Rattle.array_steps.proofs.Events.{EachOf, each-losses, each-entry, each-own, any-none, count-one, IsNoStep, long-kept, going-more}
use Rattle.array_steps.proofs.Went.{epoch-itself, held-behind, held-same, losses-along}
use Rattle.array.proofs.array_fixed_laws_PlansKept.{aim-begun}
use Rattle.array_steps.proofs.Ways.{turn-told, TellsNoLoss, way-members}
use Rattle.array_steps.proofs.Plain.{open-moving, plain-refused}
use Rattle.array_steps.proofs.Refusals.{faulted-in}
use Rattle.array.proofs.Answered.{left-moving, left-still}

-- ---- the slots that the plan of a begin gives roles: those that had them, and spares

module _ (old : Members) (to : Shape) where
  abbrev ch : Change
  ch = beginning old to

  abbrev first : ℕ
  first = (shape_of old.newest).disks

  gets-may : (role slot : ℕ) → planned_role old.roles (give_of ch.gives slot) slot ≡ Some role → MayHold old role slot
  gets-may role slot has = elim (new-or old.spares first to.disks slot) [
    | inl same ↦ inl (role-holder slot old.roles role (ap (λ (g : Give). planned_role old.roles g slot) (sym same) ∙ has))
    | inr (other, new) ↦ inr new.spare
  ]

  plan-may : (role slot : ℕ) → Held (begun_plan old to) role slot → MayHold old role slot
  plan-may role slot held = elim (cases_lt role (role_count ch.shared)) [
    | inl below ↦ gets-may role slot
        (planned-holds old.roles ch.gives old.lost role slot (ap holder (sym (get_or-tabulate (role_count ch.shared) (planned_state old.roles ch.gives old.lost) role Missing below)) ∙ held)).2
    | inr past ↦ absurd (
        let none = get_or_past (tabulate (role_count ch.shared) (planned_state old.roles ch.gives old.lost)) role Missing (let long = length-tabulate (role_count ch.shared) (planned_state old.roles ch.gives old.lost) in omega (arith, past, long)) in
        let both = ap holder (sym none) ∙ held in cc)
  ]

  kept-spare : (slot : ℕ) → is_planned_spare old.spares None (give_of ch.gives slot) slot ≡ true → has_spare old.spares slot ≡ true
  kept-spare slot is = elim (new-or old.spares first to.disks slot) [
    | inl same ↦ only (has_spare old.spares slot) (ap (λ (g : Give). is_planned_spare old.spares None g slot) (sym same) ∙ is)
    | inr (other, new) ↦ new.spare
  ]
    where
      only : (b : Bool) → (b || false) ≡ true → b ≡ true
      only true e = refl
      only false e = absurd (cc)

  plan-spare : (slot : ℕ) → has_spare (begun_plan old to).spares slot ≡ true → has_spare old.spares slot ≡ true
  plan-spare slot is =
      let parts = and_parts (nat_lt slot 32) (not (has_slot old.lost slot) && is_planned_spare old.spares None (give_of ch.gives slot) slot)
      (sym (has-slots_below (λ s. not (has_slot old.lost s) && is_planned_spare old.spares None (give_of ch.gives s) s) slot 32) ∙ is) in
      kept-spare slot (and_parts (not (has_slot old.lost slot)) (is_planned_spare old.spares None (give_of ch.gives slot) slot) parts.1).1

  begun-held : (new : Members) → AreStillHeld (begun_plan old to) new → AreSparesFewer (begun_plan old to) new → AreHeldOrSpare old new
  begun-held new held fewer = record { roles = λ role slot has. plan-may role slot (held role slot has); spares = λ slot spare. plan-spare slot (fewer slot spare) }

-- ---- the length of the list

-- a reshape to no fewer data disks leaves it
begun-long : (old new : Sb) (to : Shape) → IsAtStartOf old to new → is_reshaping old ≡ false → goes_back (shape_of old) to ≡ false → list_length new ≡ list_length old
begun-long old new to start still forward =
    (λ i. min (data_disks (start.shape i)) (data_disks (start.final i)) * start.size i)
    ∙ ap (λ (n : ℕ). n * old.size) (least (data_disks (shape_of old)) (data_disks to) forward)
    ∙ ap (λ (s : Shape). min (data_disks (shape_of old)) (data_disks s) * old.size) (sym (final-still old still))
  where
    least : (a b : ℕ) → nat_lt b a ≡ false → min a b ≡ min a a
    least a b is = grind (arith, nat_tests, is)

-- no length is changed
abbrev NoResize : Event → Type 0
NoResize event = is_resize event ≡ false

pub losses-long : (who : Who) (end roles spares n : ℕ) → length_of n (entries_of who end (losses_of roles spares)) ≡ n
losses-long who end roles spares n =
    long-kept (entries_of who end (losses_of roles spares))
    (any-none is_resize NoResize (λ event is. is) (entries_of who end (losses_of roles spares)) (each-entry NoResize who end (losses_of roles spares) (each-losses NoResize (λ role. refl) (λ slot. refl) roles spares))) n

begun-length : (who : Who) (end left roles spares n size : ℕ) (back : Bool) → (back ≡ false → size ≡ n) → size ≡ length_of n (entries_of who end (Step Begun left ∷ begun_length back size ++ losses_of roles spares))
begun-length who end left roles spares n size true same = sym (losses-long who end roles spares size)
begun-length who end left roles spares n size false same = same refl ∙ sym (losses-long who end roles spares n)

-- ---- what is entered

each-begun : (P : Event → Type 0) (left roles spares size : ℕ) (back : Bool) → P (Step Begun left) → P (Resized size) → EachOf P (losses_of roles spares) → EachOf P (Step Begun left ∷ begun_length back size ++ losses_of roles spares)
each-begun P left roles spares size true step resized losses = (step, (resized, losses))
each-begun P left roles spares size false step resized losses = (step, losses)

each-rest : (P : Event → Type 0) (roles spares size : ℕ) (back : Bool) → P (Resized size) → EachOf P (losses_of roles spares) → EachOf P (begun_length back size ++ losses_of roles spares)
each-rest P roles spares size true resized losses = (resized, losses)
each-rest P roles spares size false resized losses = losses

-- it ends no reshape
abbrev IsUnfinished : Event → Type 0
IsUnfinished event = is_finish event ≡ false

-- ---- it begins

module _ {B : Type 0} (tells : Type 0) (given : B → Given) (tape : B → List Operation) (faults : B → ℕ → ℕ) (who : Who) (old new : RunningParts B) where
  pub begin-done : (to : Shape) (behind : PhasesLeft) → phases_of old.ahead ≡ Reshape to ∷ phases_of behind → is_reshaping old.parts.members.newest ≡ false → IsCallGoing old.parts.entries who
      → IsReshapeBegun tells (given old.parts.bank) (tape old.parts.bank) (tape new.parts.bank) (faults old.parts.bank) (faults new.parts.bank) who to behind old new → given new.parts.bank ≡ given old.parts.bank
      → IsStepDone tells given tape faults who old new false
  begin-done to behind next still goes was given_is = record {
    inner = inner;
    is = was.entered.is;
    own = each-own MayGoOn who end events (each-begun MayGoOn left roles spares size back tt tt (each-losses MayGoOn (λ role. tt) (λ slot. tt) roles spares));
    told = each-entry (TellsLeft (running_left new)) who end events
        (each-begun (TellsLeft (running_left new)) left roles spares size back (sym runs) tt (each-losses (TellsLeft (running_left new)) (λ role. tt) (λ slot. tt) roles spares));
    one = inl (count-one who end [] (Step Begun left) (begun_length back size ++ losses_of roles spares) tt refl (each-rest IsNoStep roles spares size back refl (each-losses IsNoStep (λ role. refl) (λ slot. refl) roles spares)));
    over_told = sym (any-none is_finish IsUnfinished (λ event is. is) inner
        (each-entry IsUnfinished who end events (each-begun IsUnfinished left roles spares size back refl refl (each-losses IsUnfinished (λ role. refl) (λ slot. refl) roles spares))));
    left = λ none. record { one = λ quiet. fewer; some = λ quiet. let one = fewer in omega (arith, one) };
    next_open = λ none some kept. open-moving new who was.start.active going;
    going = going;
    closable = λ none. absurd (let active = was.start.active in let both : true ≡ false = sym active ∙ none in cc);
    went = record {
      more = inner;
      grown = was.entered.is;
      sized = begun-length who end left roles spares (list_length old.parts.members.newest) size back (λ forward. begun-long old.parts.members.newest new.parts.members.newest to was.start still forward);
      held = held-behind old.parts.members new.parts.members inner (begun-held old.parts.members to new.parts.members was.held was.spares);
      losses = losses-along old.parts.members (faults old.parts.bank) (faults new.parts.bank) (Held (begun_plan old.parts.members to)) (WasSpare (begun_plan old.parts.members to)) (plan-may old.parts.members to)
          (λ slot is. inl (plan-spare old.parts.members to slot is)) old.parts.entries new.parts.entries inner was.entered.is was.losses;
      refusals = record {
        more = inner;
        grown = was.entered.is;
        told = each-entry told who end events (each-begun told left roles spares size back tt tt (each-losses told (λ role. tt) (λ slot. tt) roles spares));
      };
      grows = was.grows;
      never_falls = was.never_falls;
      given_is = given_is;
      same = epoch-itself old new was.same;
      active = λ none begun. absurd (let clash : true ≡ false = begun in cc);
      ahead = λ none unplanned. absurd (let clash : ◌≡◌ {A = List Phase} [] (Reshape to ∷ phases_of behind) = sym none ∙ next in cc);
    };
    kept = record {
      aim = aim-begun old new to (phases_of behind) still was.start.active was.start.final next (ap (λ (p : PhasesLeft). phases_of p) was.ahead);
      size = was.start.size;
      limit = was.same.limit;
      unturned = turn-told old.parts.entries new.parts.entries inner was.entered.is refl;
      roles = λ before. turn-told old.parts.entries new.parts.entries inner was.entered.is refl;
      failed = λ before. turn-told old.parts.entries new.parts.entries inner was.entered.is refl;
      lost = λ before. turn-told old.parts.entries new.parts.entries inner was.entered.is refl;
    };
    ended = was.ended;
  }
    where
      end : ℕ
      end = was.entered.end

      roles : ℕ
      roles = was.entered.roles

      spares : ℕ
      spares = was.entered.spares

      back : Bool
      back = goes_back (shape_of old.parts.members.newest) to

      size : ℕ
      size = list_length new.parts.members.newest

      left : ℕ
      left = left_in new.parts.work new.parts.members new.course new.ahead

      events : List Event
      events = Step Begun left ∷ begun_length back size ++ losses_of roles spares

      inner : List Entry
      inner = entries_of who end events

      told : Event → Type 0
      told = IsRefusalToldBy old.parts.backup (faults old.parts.bank) (faults new.parts.bank)

      runs : running_left new ≡ left
      runs = left-moving new was.start.active

      going : IsCallGoing new.parts.entries who
      going = going-more inner goes was.entered.is
          (each-own MayGoOn who end events (each-begun MayGoOn left roles spares size back tt tt (each-losses MayGoOn (λ role. tt) (λ slot. tt) roles spares)))

      fewer : running_left new + 1 ≡ running_left old
      fewer = ap (λ (n : ℕ). n + 1) runs ∙ was.left ∙ sym (left-still old still)

  -- ---- it doesn't

  begin-ends : (before now : ℕ → ℕ) (to : Shape) (refusal : Refusal) → IsBeginRefused before now to refusal old new → EndsRunningSteps refusal
  begin-ends before now to refusal (inl (inl unbegun, same)) = subst EndsRunningSteps (sym unbegun.2) tt
  begin-ends before now to refusal (inl (inr unbegun, same)) = let few = unbegun.1 in subst EndsRunningSteps (sym unbegun.2) (omega (arith, few))
  begin-ends before now to refusal (inr failed) = subst EndsRunningSteps (sym failed.1) tt

  begin-cause : (before now : ℕ → ℕ) (to : Shape) (refusal : Refusal) → IsSome old.parts.backup → IsBeginRefused before now to refusal old new → IsRefusalBy old.parts.backup before now refusal
  begin-cause before now to refusal some (inl (inl unbegun, same)) = subst (IsRefusalBy old.parts.backup before now) (sym unbegun.2) tt
  begin-cause before now to refusal some (inl (inr unbegun, same)) = subst (IsRefusalBy old.parts.backup before now) (sym unbegun.2) tt
  begin-cause before now to refusal some (inr failed) = subst (IsRefusalBy old.parts.backup before now) (sym failed.1) (faulted-in old.parts.backup before now some failed.2)

  pub begin-refused : (to : Shape) (refusal : Refusal) → IsCallGoing old.parts.entries who → IsSome old.parts.backup → IsGivenBack tells (given old.parts.bank) (tape old.parts.bank) (tape new.parts.bank) who refusal old new
      → IsBeginRefused (faults old.parts.bank) (faults new.parts.bank) to refusal old new → MayEndSteps new refusal → Grows tells (tape old.parts.bank) (tape new.parts.bank) → NeverFalls (faults old.parts.bank) (faults new.parts.bank)
      → given new.parts.bank ≡ given old.parts.bank → IsStepRefused tells given tape faults who old new refusal
  begin-refused to refusal goes some back caused right grows rises given_is =
      plain-refused tells given tape faults who old new (Held old.parts.members) refusal
      (record {
        long = ap (λ (m : Members). list_length m.newest) back.members;
        held = held-same old.parts.members new.parts.members back.members;
        had = λ role slot has. inl has;
        losses = record {
          more = entries_of who back.end (Refused refusal ∷ []);
          grown = back.entered;
          failed = All-cons (λ e. IsLossBy (Held old.parts.members) (WasSpare old.parts.members) (faults old.parts.bank) (faults new.parts.bank) e.event) (one who back.end (Refused refusal)) [] tt (All-nil (λ e. IsLossBy (Held old.parts.members) (WasSpare old.parts.members) (faults old.parts.bank) (faults new.parts.bank) e.event));
        };
        grows = grows;
        never_falls = rises;
        given_is = given_is;
        epoch = epoch-itself old new back.same;
        active = λ still. ap (λ (m : Members). is_reshaping m.newest) back.members ∙ still;
        ahead = back.ahead;
        kept = way-members (faults old.parts.bank) (faults new.parts.bank) old new (entries_of who back.end (Refused refusal ∷ [])) back.entered (All-cons (λ e. TellsNoLoss e.event) (one who back.end (Refused refusal)) [] tt (All-nil (λ e. TellsNoLoss e.event))) back.members back.ahead back.same.limit;
        ended = back.ended;
      })
      (behind-alone who back.end (Refused refusal) refl back.entered) goes (begin-ends (faults old.parts.bank) (faults new.parts.bank) to refusal caused)
      (begin-cause (faults old.parts.bank) (faults new.parts.bank) to refusal some caused) right
