-- A running array keeps what it keeps over a request to grow, planned or refused.
use Rattle.std.proofs.Common.{◌≡◌, inl, ◌*◌, ◌≤◌, ◌==◌, ℕ, Bool, true, false, cond, Option, None, Ok, Err, List, [], ◌∷◌, ◌++◌, refl, sym, ◌∙◌, ap, subst, arith}
use Rattle.std.specs.Prelude.{if◌then◌else◌}
use Rattle.array_call_specs.specs.raid_types_the_Fault.{Fault}
use Rattle.array_call_specs.specs.raid_types_the_Fault_TheVariants.{Refused as IsRefusedWith, NoMemory}
use Rattle.array_call_specs.specs.raid_types_the_Who.{Who}
use Rattle.array_call_specs.specs.raid_types_the_Shape.{Shape}
use Rattle.array_call_specs.specs.raid_types_the_Phase.{Phase}
use Rattle.array_call_specs.specs.raid_types_the_Phase_TheVariants.{Reshape, UpTo6, DownTo5}
use Rattle.bank.specs.raid_types_the_Wish.{Wish}
use Rattle.bank.specs.Given.{Given}
use Rattle.bank.specs.declared.bank.Operation.{Operation}
use Rattle.history_append.specs.reshape_plan_Plans.{AreSound, phases_steps, phases_to, largest_window, target, wished_level, is_same_shape, taken_up, before_down}
use Rattle.array_open.specs.sb_specs_the_Members.{Members}
use Rattle.array_open.specs.sb_specs_Reading.{is_reshaping, shape_of, final_shape, list_length}
use Rattle.array_open.specs.sb_specs_Reads.{has_spare}
use Rattle.history_append.specs.history_the_Entry.{Entry}
use Rattle.history_append.specs.history_the_Event.{Event}
use Rattle.history_append.specs.history_the_Event_TheVariants.{Planned, Refused}
use Rattle.history_append.specs.history_the_Request_TheVariants.{Grow as AsksGrow}
use Rattle.history_append.specs.history_Flat.{next_number, visible_of}
use Rattle.history_append.specs.history_Plain.{entries_of}
use Rattle.history_append.specs.history_World.{World}
use Rattle.array_open.specs.array_members_the_Work.{Work}
use Rattle.array_open.specs.array_members_Placed.{AreWhole}
use Rattle.array_open.specs.array_members_Rebuilding.{Held}
use Rattle.array_open.proofs.array_members_MovedLaws.{grows-none}
use Rattle.array_open.specs.reshape_request_Asked.{Asked, grow_refusal}
use Rattle.array_open.specs.reshape_request_Left.{phases_of}
use Rattle.array_open.specs.array_specs_Parts.{RunningParts, visible_in, left_in, still_left}
use Rattle.array_open.specs.array_specs_Calls.{moving_world}
use Rattle.array_open.specs.array_reply_specs_Going.{HasRunOn}
use Rattle.array_open.specs.array_reply_specs_Replies.{IsAnsweredWith}
use Rattle.array_open.proofs.array_fixed_laws_PlansKept.{AddNoPlan, add-nothing}
use Rattle.array_open.specs.array_grow_Planned.{asked_in, HasWideBackup, IsAsBefore, IsGrowAnswered, IsGrowJudged, IsGrowPlanned}
use Rattle.array_open.specs.array_grow_Plans.{GoesTo}
use Rattle.array_open.specs.array_grow_Replied.{IsGrowReplied}
use Rattle.array_open.proofs.array_grow_Idle.{planned-alone, planned-whole}
use Rattle.array_open.proofs.array_grow_PlanLaws.{begin-backed}
use Rattle.array_open.proofs.array_grow_Replied.{grow-replied, grow-went}
use Rattle.array_open.proofs.array_grow_Windows.{some-window}
use Rattle.array_open.specs.array_Calls.{running_left}
use Rattle.array_open.specs.array_State.{IsStillNow, IsOneReshape, AreBacked, IsWithin, IsBackupAside, IsAtRest, IsInReshape}
use Rattle.array_open.proofs.array_Closed.{closed-kept}
use Rattle.array_open.proofs.array_Kept.{GoesOn, LeavesAhead, rest-kept, reshape-kept}

-- a refusal is no plan
add-refused : (T tells : Type 0) (world : World) (a : Asked) (wish : Wish) (who : Who) (old new : List Entry) (event : Event) (fault : Fault) → IsGrowAnswered {T = T} tells world a wish who old new event (Err fault) → AddNoPlan old new
add-refused T tells world a wish who old new event (IsRefusedWith refusal) is = record { more = entries_of who is.end (Refused refusal ∷ []); grown = is.is; none = refl }
add-refused T tells world a wish who old new event NoMemory is = add-nothing is

-- where its history changed alone
pub history-leaves : {B : Type 0} (old new : RunningParts B) → IsAsBefore old new → new.ahead ≡ old.ahead → LeavesAhead old new
history-leaves old new before ahead = record {
  shape = ap (λ (m : Members). shape_of m.newest) before.members;
  final = ap (λ (m : Members). final_shape m.newest) before.members;
  size = ap (λ (m : Members). m.newest.size) before.members;
  ahead = ahead;
  held = λ role slot has. inl (subst (λ (m : Members). Held m role slot) before.members has);
  spares = λ slot backup is. subst (λ (m : Members). has_spare m.spares slot ≡ true) before.members is;
}

-- ---- the phases of a wish

-- at most one of them is a reshape
planned-one : (now : Shape) (level : ℕ) (to : Shape) → IsOneReshape (phases_to now level to)
planned-one now level to = by (level == now.level) (level == 6) (is_same_shape (taken_up now) to) (is_same_shape now (before_down to))
  where
    by : (a b c d : Bool) → IsOneReshape (cond a (Reshape to ∷ []) (cond b (UpTo6 (taken_up now) ∷ cond c [] (Reshape to ∷ [])) (cond d [] (Reshape (before_down to) ∷ []) ++ DownTo5 to ∷ [])))
    by true b c d = tt
    by false true true d = tt
    by false true false d = tt
    by false false c true = tt
    by false false c false = tt

narrower : (given : Given) (backup : Option ℕ) (small large : ℕ) → small ≤ large → HasWideBackup given backup large → HasWideBackup given backup small
narrower given backup small large le wide some =
    let found = wide (omega (arith, some, le)) in
    let room = found.3 in
    (found.0, found.1, found.2, omega (arith, room, le))

-- the backup and the buffer that have room for the largest window have it for each
backed-all : (given : Given) (room : ℕ) (backup : Option ℕ) (now : Shape) (size : ℕ) (phases : List Phase) → AreSound now size phases → HasWideBackup given backup (largest_window now size phases)
    → 512 * largest_window now size phases ≤ room → AreBacked given room backup now size phases
backed-all given room backup now size [] sound backed wide = tt
backed-all given room backup now size (Reshape to ∷ more) sound backed wide =
    let found = begin-backed given backup now to size more (some-window now to size sound.0) backed in (
      record { slot = found.0; is = found.1; known = found.2; room = found.3; wide = omega (arith, wide) },
      backed-all given room backup to size more sound.2 (narrower given backup (largest_window to size more) (largest_window now size (Reshape to ∷ more)) (omega arith) backed) (omega (arith, wide)),
    )
backed-all given room backup now size (UpTo6 to ∷ more) sound backed wide =
    backed-all given room backup to size more sound.2 (narrower given backup (largest_window to size more) (largest_window now size (UpTo6 to ∷ more)) (omega arith) backed) (omega (arith, wide))
backed-all given room backup now size (DownTo5 to ∷ more) sound backed wide =
    backed-all given room backup to size more sound.2 (narrower given backup (largest_window to size more) (largest_window now size (DownTo5 to ∷ more)) (omega arith) backed) (omega (arith, wide))

module _ {B : Type 0} {tells : Type 0} (given : B → Given) (tape : B → List Operation) (old new : RunningParts B) (before : IsAsBefore old new) where
  -- ---- refused

  pub history-on : AddNoPlan old.parts.entries new.parts.entries → GoesOn tells given tape old new
  history-on added = record {
    given_is = ap given before.bank;
    grows = grows-none (λ t. ap tape before.bank);
    uuid = before.uuid;
    slots = before.given;
    first = before.first;
    backup = before.backup;
    added = added;
  }

  module _ (T : Type 0) (world : World) (a : Asked) (wish : Wish) (who : Who) (event : Event) (fault : Fault) (answered : IsGrowAnswered {T = T} tells world a wish who old.parts.entries new.parts.entries event (Err fault)) (ahead : new.ahead ≡ old.ahead) where
    pub rest-refused : (window : ℕ) → IsStillNow new → IsWithin tells (given new.parts.bank) (tape new.parts.bank) new → IsAtRest tells (given old.parts.bank) (tape old.parts.bank) window old → IsAtRest tells (given new.parts.bank) (tape new.parts.bank) window new
    rest-refused window now within was =
        let added = add-refused T tells world a wish who old.parts.entries new.parts.entries event fault answered in
        rest-kept given tape window old new (history-on added) (history-leaves old new before ahead) now within
        (closed-kept old new (ap (λ (w : Work). w.resync) before.work) ahead (λ whole. subst AreWhole before.members whole) added was.closed) was

    pub reshape-refused : is_reshaping new.parts.members.newest ≡ true → IsWithin tells (given new.parts.bank) (tape new.parts.bank) new → IsInReshape tells (given old.parts.bank) (tape old.parts.bank) old → IsInReshape tells (given new.parts.bank) (tape new.parts.bank) new
    reshape-refused active within was =
        reshape-kept given tape old new (history-on (add-refused T tells world a wish who old.parts.entries new.parts.entries event fault answered)) (ap (λ (m : Members). shape_of m.newest) before.members) (ap (λ (m : Members). final_shape m.newest) before.members) ahead active within was

  -- ---- planned

  module _ (wish : Wish) (left window room : ℕ) (none : grow_refusal (asked_in (given old.parts.bank) old) wish ≡ None)
      (planned : IsGrowPlanned tells (given new.parts.bank) (moving_world (given new.parts.bank) (tape new.parts.bank) new) wish left new)
      (goes : GoesTo tells (moving_world (given new.parts.bank) (tape new.parts.bank) new) old new)
      (wide : 512 * largest_window (shape_of old.parts.members.newest) old.parts.members.newest.size (phases_of new.ahead) ≤ room) (was : IsAtRest tells (given old.parts.bank) (tape old.parts.bank) window old) where
    abbrev shape : Shape
    shape = shape_of new.parts.members.newest

    abbrev size : ℕ
    size = new.parts.members.newest.size

    aside-still : IsBackupAside new
    aside-still slot is =
        let apart = was.aside slot (sym before.backup ∙ is) in (
          subst (λ (m : Members). has_spare m.spares slot ≡ false) (sym before.members) apart.0,
          λ role held. apart.1 role (subst (λ (m : Members). Held m role slot) before.members held),
        )

    pub rest-planned : IsStillNow new → IsWithin tells (given new.parts.bank) (tape new.parts.bank) new → IsAtRest tells (given new.parts.bank) (tape new.parts.bank) room new
    rest-planned now within =
        let alone = planned-alone (asked_in (given old.parts.bank) old) wish (phases_of old.ahead) refl none in
        record {
          now = now;
          within = within;
          one = subst IsOneReshape (sym planned.ahead) (planned-one shape (wished_level shape wish) (target shape wish));
          next = backed-all (given new.parts.bank) room new.parts.backup shape size (phases_of new.ahead) planned.sound planned.backed
              (subst (λ (m : Members). 512 * largest_window (shape_of m.newest) m.newest.size (phases_of new.ahead) ≤ room) (sym before.members) wide);
          aside = aside-still;
          plans = goes (was.closed alone.0 alone.1 (planned-whole (asked_in (given old.parts.bank) old) wish none));
          closed = λ synced empty whole. absurd (
              let none : phases_steps shape size (phases_of new.ahead) ≡ 0 = ap (λ (l : List Phase). phases_steps shape size l) empty in
              let some = planned.some in
              let is = planned.left_is in
              omega (arith, none, some, is));
        }

-- ---- the reply

-- an array at rest has no steps of a reshape left
left-rest : {B : Type 0} (array : RunningParts B) → is_reshaping array.parts.members.newest ≡ false → running_left array ≡ still_left array.parts.work array.parts.members array.ahead
left-rest array still =
    ap (λ (b : Bool). if b then left_in array.parts.work array.parts.members array.course array.ahead else still_left array.parts.work array.parts.members array.ahead) still

module _ {B : Type 0} (T tells : Type 0) (given : B → Given) (tape : B → List Operation) (faults : B → ℕ → ℕ) (old new : RunningParts B) (wish : Wish) (who : Who)
    (number : who.number ≡ next_number who.caller old.parts.entries) (visible : visible_of (list_length old.parts.members.newest) old.parts.entries ≡ visible_in old) where
  abbrev asked : Asked
  asked = asked_in (given old.parts.bank) old

  abbrev world : World
  world = moving_world (given old.parts.bank) (tape old.parts.bank) old

  pub replied-planned : (plan : T) → is_reshaping new.parts.members.newest ≡ false
      → IsGrowAnswered {T = T} tells (moving_world (given old.parts.bank) (tape old.parts.bank) old) (asked_in (given old.parts.bank) old) wish who old.parts.entries new.parts.entries
      (Planned (still_left new.parts.work new.parts.members new.ahead) wish) (Ok plan)
      → IsGrowJudged {T = T} (asked_in (given old.parts.bank) old) wish (Ok plan)
      → IsAnsweredWith (list_length old.parts.members.newest) (AsksGrow wish) who old.parts.entries new.parts.entries (Planned (running_left new) wish)
  replied-planned plan still answered judged =
      subst (λ (n : ℕ). IsAnsweredWith (list_length old.parts.members.newest) (AsksGrow wish) who old.parts.entries new.parts.entries (Planned n wish)) (sym (left-rest new still))
      (grow-replied tells world asked (list_length old.parts.members.newest) wish who old.parts.entries new.parts.entries (still_left new.parts.work new.parts.members new.ahead) (Ok plan) number visible answered judged)

  module _ (U : Type 0) (event : Event) (left : ℕ) (fault : Fault)
      (answered : IsGrowAnswered {T = T} tells (moving_world (given old.parts.bank) (tape old.parts.bank) old) (asked_in (given old.parts.bank) old) wish who old.parts.entries new.parts.entries event (Err fault))
      (judged : IsGrowJudged {T = T} (asked_in (given old.parts.bank) old) wish (Err fault)) where
    pub replied-refused : IsGrowReplied {T = U} (list_length old.parts.members.newest) wish who old.parts.entries new.parts.entries left (Err fault)
    replied-refused = by fault answered judged
      where
        by : (fault : Fault) → IsGrowAnswered {T = T} tells world asked wish who old.parts.entries new.parts.entries event (Err fault) → IsGrowJudged {T = T} asked wish (Err fault)
            → IsGrowReplied {T = U} (list_length old.parts.members.newest) wish who old.parts.entries new.parts.entries left (Err fault)
        by (IsRefusedWith refusal) is because =
            grow-replied {T = T} tells world asked (list_length old.parts.members.newest) wish who old.parts.entries new.parts.entries left (Err (IsRefusedWith refusal)) number visible is because
        by NoMemory is because = is

    pub went-refused : IsAsBefore old new → new.ahead ≡ old.ahead → HasRunOn tells given tape faults old new
    went-refused before ahead = by fault answered judged
      where
        by : (fault : Fault) → IsGrowAnswered {T = T} tells world asked wish who old.parts.entries new.parts.entries event (Err fault) → IsGrowJudged {T = T} asked wish (Err fault) → HasRunOn tells given tape faults old new
        by (IsRefusedWith refusal) is because = grow-went tells given tape faults old new before {T = T} world asked wish who left (Err (IsRefusedWith refusal)) is because ahead
        by NoMemory is because = grow-went tells given tape faults old new before {T = T} world asked wish who left (Err NoMemory) is because ahead
