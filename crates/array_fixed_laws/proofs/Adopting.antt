-- An array without an active reshape that is taken over from its superblocks keeps its record, and has no plan.
use Rattle.std.proofs.Common.{◌≡◌, inl, ℕ, ◌<◌, ◌≤◌, true, false, Option, None, List, [], ◌∷◌, length, refl, sym, ◌∙◌, subst, arith}
use Rattle.std.proofs.lemmas.List.Elements.{All-nil, All-cons}
use Rattle.array_fixed_invariant.specs.raid_types_Shapes.{has_slot}
use Rattle.array_fixed_invariant.specs.raid_types_the_Who.{Who}
use Rattle.array_fixed_invariant.specs.bank_the_Operation.{Operation}
use Rattle.array_fixed_invariant.specs.bank_Given.{Given}
use Rattle.array_fixed_invariant.specs.bank_Whole.{HasWholeSectors}
use Rattle.array_fixed_invariant.specs.sb_specs_the_Members.{Members}
use Rattle.array_fixed_invariant.specs.sb_specs_Reading.{Scope, shape_of, list_length}
use Rattle.array_fixed_invariant.specs.stripe_row_Rows.{reading_of}
use Rattle.array_fixed_invariant.specs.history_the_Entry.{Entry}
use Rattle.array_fixed_invariant.specs.history_the_Event.{Event}
use Rattle.array_fixed_invariant.specs.history_the_Event_TheVariants.{Lost}
use Rattle.array_fixed_invariant.specs.history_the_LostCause_TheVariants.{Absent, Recovering}
use Rattle.array_fixed_invariant.specs.history_OneShape.{opening_in}
use Rattle.array_fixed_invariant.specs.history_Plain.{entries_of}
use Rattle.array_fixed_invariant.specs.array_members_Status.{left_of}
use Rattle.array_fixed_invariant.proofs.array_members_Still.{count-still}
use Rattle.array_fixed_invariant.proofs.history_append_PlainLaws.{one}
use Rattle.array_fixed_invariant.proofs.history_append_StepLaws.{used-more}
use Rattle.array_fixed_invariant.specs.array_call_specs_Adopting.{opener, found_losses, found_work, IsAdoptable}
use Rattle.array_fixed_invariant.proofs.array_call_laws_AbsentLaws.{AreAbsent, absents-are, absents-legal, absents-length, absents-limit, absents-told, absents-missing, absents-spares}
use Rattle.array_fixed_invariant.specs.reshape_request_the_PhasesLeft.{PhasesLeft}
use Rattle.array_fixed_invariant.specs.history_invariant_Safe.{world_in}
use Rattle.array_fixed_invariant.specs.Still.{IsStill}
use Rattle.array_fixed_invariant.proofs.Adopting.{stands-adopted}
use Rattle.array_specs.specs.Parts.{still_left}
use Rattle.array_fixed_laws.specs.Plain.{MayTellPlainly, AreToldPlainly, IsPlainKept}
use Rattle.array_fixed_laws.specs.Ready.{IsReady}

abbrev pub planless : PhasesLeft
planless = record { next = None; last = None }

-- the losses that an opening finds tell no refusal
absents-plainly : (who : Who) (end : ℕ) (xs : List Event) → AreAbsent xs → AreToldPlainly (entries_of who end xs)
absents-plainly who end [] are = All-nil (λ e. MayTellPlainly e.event)
absents-plainly who end (Lost role Absent ∷ xs) are = All-cons (λ e. MayTellPlainly e.event) (one who end (Lost role Absent)) (entries_of who end xs) tt (absents-plainly who end xs are)
absents-plainly who end (Lost role Recovering ∷ xs) are = All-cons (λ e. MayTellPlainly e.event) (one who end (Lost role Recovering)) (entries_of who end xs) tt (absents-plainly who end xs are)
absents-plainly who end (event ∷ xs) are = absurd are

found-plainly : (m : Members) (first : ℕ) → AreToldPlainly (entries_of opener first (found_losses (reading_of m)))
found-plainly m first = absents-plainly opener first (found_losses (reading_of m)) (absents-are (reading_of m) (shape_of m.newest).disks)

-- the history of the opening says what one of one shape does
begins-plain : {tells : Type 0} {given : Given} {tape : List Operation} {scope : Scope} {members : Members} (first : ℕ) → IsAdoptable tells given tape scope members → (tells → first ≡ length tape)
    → tells → IsPlainKept (world_in given tape scope first) members (entries_of opener first (found_losses (reading_of members)))
begins-plain {given = given} {tape = tape} {scope = scope} {members = members} first is first_is t =
    subst (λ (n : ℕ). IsPlainKept (world_in given tape scope n) members (entries_of opener n losses)) (sym (first_is t)) (record {
      told = λ role lt missing. absents-told (reading_of members) opener (length tape) disks role (let same = count-still members.newest is.still in omega (arith, lt, same)) missing;
      only = record {
        gone = λ role gone. absents-missing (reading_of members) opener (length tape) disks role gone;
        spares = λ slot is. absurd (let clash : true ≡ false = sym is ∙ absents-spares opener (length tape) slot losses (absents-are (reading_of members) disks) in cc);
      };
      used = λ role slot may. used-more (opening_in (world_in given tape scope (length tape))) [] (entries_of opener (length tape) losses) slot (is.used t role slot may);
      disks = is.disks t;
      tolerated = is.tolerated t;
      legal = λ fills. absents-legal (opening_in (world_in given tape scope (length tape))) (reading_of members) disks (length tape) (omega arith) (is.absent t);
    })
  where
    disks : ℕ
    disks = (shape_of members.newest).disks

    losses : List Event
    losses = found_losses (reading_of members)

pub begins-ready : {tells : Type 0} {given : Given} {tape : List Operation} {scope : Scope} {first : ℕ} {entries : List Entry} {members : Members}
    {faults : ℕ → ℕ} {room rows buffer far_rows far_buffer : ℕ} → IsAdoptable tells given tape scope members
    → (tells → HasWholeSectors given tape) → length members.own ≡ 32 → ((slot : ℕ) → slot < given.slots → has_slot scope.given slot ≡ false → 0 < faults slot)
    → entries ≡ entries_of opener first (found_losses (reading_of members)) → (tells → first ≡ length tape) → 0 < room → 128 ≤ rows → 1048576 ≤ buffer → 128 ≤ far_rows → 1048576 ≤ far_buffer
    → IsReady tells given tape scope first entries members (found_work members) planless None faults 0 room rows buffer far_rows far_buffer
begins-ready {tells = tells} {given = given} {tape = tape} {scope = scope} {first = first} {members = members} {faults = faults} {room = room} {rows = rows} {buffer = buffer} {far_rows = far_rows} {far_buffer = far_buffer}
    is has long failed entries_are first_is room_left rows_fit buffer_fits far_rows_fit far_buffer_fits =
    subst (λ (l : List Entry). IsReady tells given tape scope first l members (found_work members) planless None faults 0 room rows buffer far_rows far_buffer) (sym entries_are) (record {
      kept = subst (λ (n : ℕ). IsStill tells given tape scope first (entries_of opener first losses) members (found_work members) n) none (stands-adopted first is has long first_is);
      sized = absents-length opener first (list_length members.newest) losses are;
      limited = absents-limit opener first None losses are;
      planned = tt;
      failed = failed;
      room_left = room_left;
      rows_fit = rows_fit;
      buffer_fits = buffer_fits;
      far_rows_fit = far_rows_fit;
      far_buffer_fits = far_buffer_fits;
      plain = λ t keeps. begins-plain first is first_is t;
      plainly = λ keeps. found-plainly members first;
      ahead_told = inl refl;
    })
  where
    losses : List Event
    losses = found_losses (reading_of members)

    are : AreAbsent losses
    are = absents-are (reading_of members) (shape_of members.newest).disks

    none : left_of (found_work members) members ≡ still_left (found_work members) members planless
    none = omega arith
