-- What callers' calls leave, one after another, and from what each kind of call says.
use Rattle.std.proofs.Common.{◌≡◌, ◌⊎◌, inl, inr, ℕ, ◌*◌, min, true, false, Option, List, [], ◌∷◌, ◌++◌, Result, Ok, Err, refl, sym, ◌∙◌, ap, subst, arith, append_assoc, append-nil}
use Rattle.std.proofs.lemmas.Bool.Decides.{nat_tests}
use Rattle.std.proofs.lemmas.List.Sums.{fold-append}
use Rattle.std.specs.Prelude.{IsTrue}
use Rattle.std.specs.List.{list_any}
use Rattle.array_call_specs.specs.raid_types_Shapes.{data_disks}
use Rattle.array_call_specs.specs.raid_types_the_Who.{Who}
use Rattle.array_call_specs.specs.raid_types_the_Fault.{Fault}
use Rattle.array_call_specs.specs.raid_types_the_Fault_TheVariants.{Refused as IsRefusedWith, NoMemory as WantsMemory}
use Rattle.array_call_specs.specs.raid_types_the_Refusal_TheVariants.{SlotFault}
use Rattle.array_call_specs.specs.raid_types_the_Status.{Status}
use Rattle.bank.specs.declared.bank.Operation.{Operation}
use Rattle.bank.specs.Given.{Given, NeverFalls}
use Rattle.array_open.specs.sb_specs_the_Members.{Members}
use Rattle.array_open.specs.sb_specs_Reading.{is_reshaping, shape_of, final_shape, list_length}
use Rattle.array_open.specs.sb_specs_Reads.{has_spare}
use Rattle.history_append.specs.history_the_Entry.{Entry}
use Rattle.history_append.specs.history_the_Event.{Event}
use Rattle.history_append.specs.history_the_Event_TheVariants.{Added, Refused, Shown}
use Rattle.history_append.specs.history_the_Request.{Request}
use Rattle.history_append.specs.history_the_Request_TheVariants.{Add as AsksAdd}
use Rattle.history_append.specs.history_Flat.{length_of, length_after}
use Rattle.history_append.specs.history_Legal.{call_before}
use Rattle.history_append.specs.history_Reshaped.{is_planned}
use Rattle.history_append.specs.history_World.{World}
use Rattle.history_append.proofs.PlainLaws.{one}
use Rattle.array_open.specs.array_members_Moving.{Grows}
use Rattle.array_open.specs.array_members_Placed.{AreStillHeld}
use Rattle.array_open.specs.array_members_Rebuilding.{Held}
use Rattle.array_open.specs.array_call_specs_Calls.{AreSparesFewer, WasSpare, AreLossesBy, IsAddedFor, IsEntered}
use Rattle.array_open.specs.reshape_request_the_PhasesLeft.{PhasesLeft}
use Rattle.array_open.specs.reshape_request_Left.{phases_of}
use Rattle.array_open.specs.array_specs_Parts.{RunningParts}
use Rattle.array_open.specs.array_specs_Calls.{IsSameReshape, IsCalled}
use Rattle.array_open.specs.array_specs_Adding.{IsAddCalled}
use Rattle.array_open.specs.array_reply_specs_Replies.{HasToldBy}
use Rattle.array_open.specs.array_reply_specs_Going.{is_begin, IsSameEpoch, HasRunOn}
use Rattle.array_reply_specs.proofs.GoneOn.{has-told-wider, told-then}
use Rattle.array_requests.specs.Going.{is_added, AreLossesSince, GoesItsWay, HasGoneOn}
use Rattle.array_requests.proofs.Leaving.{call-leaves}
use Rattle.array_requests.proofs.Plain.{IsCallEntered, IsCallAnswered, inside-of}
use Rattle.array_requests.proofs.Held.{any-right, none-left, none-right, may-then, spares-then, losses-later, since-append, since-wider, held-behind, losses-behind, held-kept, losses-of}
use Rattle.array_requests.proofs.Told.{told-none, told-entered}
use Rattle.array_requests.proofs.Ways.{way-none, way-then, way-plain, way-same}

module _ {B : Type 0} (tells : Type 0) (given : B → Given) (tape : B → List Operation) (faults : B → ℕ → ℕ) where
  -- nothing
  pub gone-none : (array : RunningParts B) → HasGoneOn tells given tape faults array array
  gone-none array = record {
    more = [];
    grown = sym (append-nil array.parts.entries);
    sized = refl;
    held = record { roles = λ role slot had. inl (inl had); spares = λ slot spare. inl spare };
    losses = tt;
    refusals = told-none array.parts.backup (faults array.parts.bank) (faults array.parts.bank) refl;
    grows = record { more = λ t. ([], sym (append-nil (tape array.parts.bank))) };
    never_falls = λ s. omega arith;
    given_is = refl;
    same = record { uuid = refl; given = refl; first = refl; backup = refl };
    active = λ still none. still;
    ahead = λ empty none. empty;
    way = way-none array;
  }

  pub gone-same : (old new : RunningParts B) → new ≡ old → HasGoneOn tells given tape faults old new
  gone-same old new same = subst (λ (a : RunningParts B). HasGoneOn tells given tape faults old a) (sym same) (gone-none old)

  -- one after another
  pub gone-then : (old mid new : RunningParts B) → HasGoneOn tells given tape faults old mid → HasGoneOn tells given tape faults mid new → HasGoneOn tells given tape faults old new
  gone-then old mid new one two = record {
    more = one.more ++ two.more;
    grown = two.grown ∙ ap (λ (l : List Entry). l ++ two.more) one.grown ∙ append_assoc old.parts.entries one.more two.more;
    sized = two.sized ∙ ap (λ (n : ℕ). length_of n two.more) one.sized ∙ sym (fold-append (λ (n : ℕ) (e : Entry). length_after n e.event) (list_length old.parts.members.newest) one.more two.more);
    held = record {
      roles = λ role slot had. may-then old.parts.members mid.parts.members one.more one.held two.more role slot (two.held.roles role slot had);
      spares = λ slot spare. spares-then old.parts.members mid.parts.members one.more one.held two.more slot (two.held.spares slot spare);
    };
    losses = since-append old.parts.members (faults old.parts.bank) (faults new.parts.bank) [] one.more two.more
        (since-wider old.parts.members (faults old.parts.bank) (faults mid.parts.bank) (faults new.parts.bank) [] one.more one.never_falls two.never_falls one.losses)
        (subst (λ (l : List Entry). AreLossesSince old.parts.members (faults old.parts.bank) (faults new.parts.bank) l two.more) (append-nil one.more)
        (losses-later old.parts.members mid.parts.members (faults old.parts.bank) (faults mid.parts.bank) (faults new.parts.bank) one.more one.held one.never_falls two.never_falls [] two.more two.losses));
    refusals = told-then (has-told-wider (λ s. omega arith) one.never_falls two.never_falls old.parts.backup one.refusals)
        (subst (λ (b : Option ℕ). HasToldBy b (faults old.parts.bank) (faults new.parts.bank) mid.parts.entries new.parts.entries) one.same.backup
        (has-told-wider one.never_falls two.never_falls (λ s. omega arith) mid.parts.backup two.refusals));
    grows = record {
      more = λ t. let first = one.grows.more t in let next = two.grows.more t in (
        first.0 ++ next.0,
        next.1 ∙ ap (λ (l : List Operation). l ++ next.0) (first.1) ∙ append_assoc (tape old.parts.bank) (first.0) (next.0),
      );
    };
    never_falls = λ s. let low = one.never_falls s in let high = two.never_falls s in omega (arith, low, high);
    given_is = two.given_is ∙ one.given_is;
    same = record { uuid = two.same.uuid ∙ one.same.uuid; given = two.same.given ∙ one.same.given; first = two.same.first ∙ one.same.first; backup = two.same.backup ∙ one.same.backup };
    active = λ still none. two.active (one.active still (none-left is_begin one.more two.more none)) (none-right is_begin one.more two.more none);
    ahead = λ empty none. two.ahead (one.ahead empty (none-left is_planned one.more two.more none)) (none-right is_planned one.more two.more none);
    way = way-then old mid new one.more two.more one.way two.way;
  }

  -- steps
  pub gone-run : (old new : RunningParts B) → (was : HasRunOn tells given tape faults old new) → GoesItsWay old new was.more → HasGoneOn tells given tape faults old new
  gone-run old new was way = record {
    more = was.more;
    grown = was.grown;
    sized = was.sized;
    held = held-behind old.parts.members new.parts.members was.more was.held;
    losses = losses-behind old.parts.members (faults old.parts.bank) (faults new.parts.bank) [] was.more was.never_falls was.losses;
    refusals = was.refusals;
    grows = was.grows;
    never_falls = was.never_falls;
    given_is = was.given_is;
    same = was.same;
    active = was.active;
    ahead = was.ahead;
    way = way;
  }

-- ---- one call

-- the list is as long as the shapes and the size say
pub long-same : {B tells : Type 0} {before after : World} (old new : RunningParts B) → IsSameReshape tells old new before after → list_length new.parts.members.newest ≡ list_length old.parts.members.newest
long-same old new same i = min (data_disks (same.array.shape i)) (data_disks (same.final i)) * same.array.size i

pub epoch-of : {B tells : Type 0} {before after : World} (old new : RunningParts B) → IsSameReshape tells old new before after → IsSameEpoch old new
epoch-of old new same = record { uuid = same.array.uuid; given = same.array.given; first = same.array.first; backup = same.array.backup }

module _ {B : Type 0} (tells : Type 0) (given : B → Given) (tape : B → List Operation) (faults : B → ℕ → ℕ) (old new : RunningParts B) where
  -- What a call did that neither begins nor ends a reshape, beside what it entered: each spare was one, or was added.
  pub record IsPlainCall : Type 0 where
    pub long : list_length new.parts.members.newest ≡ list_length old.parts.members.newest
    pub held : AreStillHeld old.parts.members new.parts.members
    pub losses : AreLossesBy (Held old.parts.members) (WasSpare old.parts.members) (faults old.parts.bank) (faults new.parts.bank) old.parts.entries new.parts.entries
    pub grows : Grows tells (tape old.parts.bank) (tape new.parts.bank)
    pub never_falls : NeverFalls (faults old.parts.bank) (faults new.parts.bank)
    pub given_is : given new.parts.bank ≡ given old.parts.bank
    pub epoch : IsSameEpoch old new
    pub size : new.parts.members.newest.size ≡ old.parts.members.newest.size
    pub shape : shape_of new.parts.members.newest ≡ shape_of old.parts.members.newest
    pub final : final_shape new.parts.members.newest ≡ final_shape old.parts.members.newest
    pub active : is_reshaping new.parts.members.newest ≡ is_reshaping old.parts.members.newest
    pub ahead : new.ahead ≡ old.ahead

  pub plain-called : IsCalled tells (given old.parts.bank) (tape old.parts.bank) (tape new.parts.bank) (faults old.parts.bank) (faults new.parts.bank) old new → given new.parts.bank ≡ given old.parts.bank
      → is_reshaping new.parts.members.newest ≡ is_reshaping old.parts.members.newest → IsPlainCall
  plain-called was given_is active = record {
    long = long-same old new was.same;
    held = was.held;
    losses = was.losses;
    grows = was.grows;
    never_falls = was.never_falls;
    given_is = given_is;
    epoch = epoch-of old new was.same;
    size = was.same.array.size;
    shape = was.same.array.shape;
    final = was.same.final;
    active = active;
    ahead = was.same.ahead;
  }

  pub plain-added : {slot : ℕ} → IsAddCalled tells (given old.parts.bank) (tape old.parts.bank) (tape new.parts.bank) (faults old.parts.bank) (faults new.parts.bank) slot old new → given new.parts.bank ≡ given old.parts.bank
      → is_reshaping new.parts.members.newest ≡ is_reshaping old.parts.members.newest → IsPlainCall
  plain-added was given_is active = record {
    long = long-same old new was.same;
    held = was.held;
    losses = was.losses;
    grows = was.grows;
    never_falls = was.never_falls;
    given_is = given_is;
    epoch = epoch-of old new was.same;
    size = was.same.array.size;
    shape = was.same.array.shape;
    final = was.same.final;
    active = active;
    ahead = was.same.ahead;
  }

  -- each spare was one, or these entries tell it added
  abbrev pub AreSparesTold : List Entry → Type 0
  AreSparesTold more = (slot : ℕ) → has_spare new.parts.members.spares slot ≡ true → (has_spare old.parts.members.spares slot ≡ true) ⊎ IsTrue (list_any (λ e. is_added slot e.event) more)

  gone-plain : (more : List Entry) → new.parts.entries ≡ old.parts.entries ++ more → ((n : ℕ) → length_of n more ≡ n) → IsPlainCall → AreSparesTold more
      → HasToldBy old.parts.backup (faults old.parts.bank) (faults new.parts.bank) old.parts.entries new.parts.entries → HasGoneOn tells given tape faults old new
  gone-plain more grown leaves did spares told = record {
    more = more;
    grown = grown;
    sized = did.long ∙ sym (leaves (list_length old.parts.members.newest));
    held = held-kept old.parts.members new.parts.members more did.held spares;
    losses = losses-of old.parts.members (faults old.parts.bank) (faults new.parts.bank) old.parts.entries new.parts.entries more did.never_falls grown did.losses;
    refusals = told;
    grows = did.grows;
    never_falls = did.never_falls;
    given_is = did.given_is;
    same = did.epoch;
    active = λ still none. did.active ∙ still;
    ahead = λ empty none. ap (λ (p : PhasesLeft). phases_of p) did.ahead ∙ empty;
    way = way-plain old new more did.size did.active did.shape did.final did.ahead;
  }

  gone-entered : {size : ℕ} {request : Request} {who : Who} {event : Event} → (was : IsCallEntered size request who old.parts.entries new.parts.entries event) → IsPlainCall
      → AreSparesTold (was.inner ++ one who was.end event ∷ []) → HasToldBy old.parts.backup (faults old.parts.bank) (faults new.parts.bank) old.parts.entries new.parts.entries → HasGoneOn tells given tape faults old new
  gone-entered {size = size} {request = request} {who = who} {event = event} was did spares told =
      gone-plain (was.inner ++ one who was.end event ∷ []) was.is
      (call-leaves was.inner (one who was.end event) size (old.parts.entries ++ was.inner) (call_before (old.parts.entries ++ was.inner) (one who was.end event)) request (inside-of was.inner was.own) was.fits.answers)
      did spares told

  -- a call whose spares were spares before
  pub gone-answered : {T : Type 0} (size : ℕ) (request : Request) (who : Who) (event : Event) (result : Result T Fault) → IsCallAnswered size request who old.parts.entries new.parts.entries event result → IsPlainCall
      → AreSparesFewer old.parts.members new.parts.members → HasToldBy old.parts.backup (faults old.parts.bank) (faults new.parts.bank) old.parts.entries new.parts.entries → HasGoneOn tells given tape faults old new
  gone-answered size request who event (Ok x) was did fewer told = gone-entered was did (λ slot spare. inl (fewer slot spare)) told
  gone-answered size request who event (Err (IsRefusedWith refusal)) was did fewer told = gone-entered was did (λ slot spare. inl (fewer slot spare)) told
  gone-answered size request who event (Err WantsMemory) was did fewer told =
      gone-plain [] (was ∙ sym (append-nil old.parts.entries)) (λ n. refl) did (λ slot spare. inl (fewer slot spare)) told

  -- ---- a slot that was to be made a spare

  -- its entry tells it
  added-last : {size slot : ℕ} {who : Who} (was : IsCallEntered size (AsksAdd slot) who old.parts.entries new.parts.entries (Added slot)) → IsTrue (list_any (λ e. is_added slot e.event) (was.inner ++ one who was.end (Added slot) ∷ []))
  added-last {slot = slot} {who = who} was = any-right (is_added slot) was.inner (one who was.end (Added slot) ∷ []) (same slot)
    where
      same : (n : ℕ) → list_any (λ e. is_added n e.event) (one who was.end (Added n) ∷ []) ≡ true
      same n = grind (arith, nat_tests)

  pub gone-added : {T : Type 0} (size slot : ℕ) (who : Who) (bank : Given) (backup : Option ℕ) (result : Result T Fault) → IsCallAnswered size (AsksAdd slot) who old.parts.entries new.parts.entries (Added slot) result → IsPlainCall
      → ((s : ℕ) → has_spare new.parts.members.spares s ≡ true → (has_spare old.parts.members.spares s ≡ true) ⊎ (s ≡ slot))
      → IsAddedFor bank backup slot old.parts.members new.parts.members (faults old.parts.bank) (faults new.parts.bank) result
      → HasToldBy old.parts.backup (faults old.parts.bank) (faults new.parts.bank) old.parts.entries new.parts.entries → HasGoneOn tells given tape faults old new
  gone-added size slot who bank backup (Ok x) was did spares added told = gone-entered was did (λ s is. of s (spares s is)) told
    where
      of : (s : ℕ) → (has_spare old.parts.members.spares s ≡ true) ⊎ (s ≡ slot) → (has_spare old.parts.members.spares s ≡ true) ⊎ IsTrue (list_any (λ e. is_added s e.event) (was.inner ++ one who was.end (Added slot) ∷ []))
      of s (inl spare) = inl spare
      of s (inr at) = inr (subst (λ (n : ℕ). IsTrue (list_any (λ e. is_added n e.event) (was.inner ++ one who was.end (Added slot) ∷ []))) (sym at) (added-last was))
  gone-added size slot who bank backup (Err (IsRefusedWith (SlotFault failed))) was did spares added told = gone-entered was did (λ s is. of s is (spares s is)) told
    where
      of : (s : ℕ) → has_spare new.parts.members.spares s ≡ true → (has_spare old.parts.members.spares s ≡ true) ⊎ (s ≡ slot)
          → (has_spare old.parts.members.spares s ≡ true) ⊎ IsTrue (list_any (λ e. is_added s e.event) (was.inner ++ one who was.end (Refused (SlotFault failed)) ∷ []))
      of s is (inl spare) = inl spare
      of s is (inr at) = absurd (let none : has_spare new.parts.members.spares slot ≡ false = added.3 in let there : has_spare new.parts.members.spares slot ≡ true = subst (λ (n : ℕ). has_spare new.parts.members.spares n ≡ true) at is in cc)
  gone-added size slot who bank backup (Err (IsRefusedWith refusal)) was did spares added told =
      gone-entered was did (λ s is. inl (subst (λ (m : Members). has_spare m.spares s ≡ true) added.1 is)) told
  gone-added size slot who bank backup (Err WantsMemory) was did spares added told =
      gone-plain [] (was ∙ sym (append-nil old.parts.entries)) (λ n. refl) did (λ s is. inl (subst (λ (m : Members). has_spare m.spares s ≡ true) added is)) told

  -- ---- a status

  pub gone-shown : {tape' : List Operation} {who : Who} {status : Status} → IsEntered tells tape' who old.parts.entries new.parts.entries (Shown status ∷ []) → new.parts.bank ≡ old.parts.bank → new.parts.members ≡ old.parts.members
      → IsSameEpoch old new → new.ahead ≡ old.ahead → HasGoneOn tells given tape faults old new
  gone-shown {who = who} {status = status} was bank members epoch ahead = record {
    more = one who was.end (Shown status) ∷ [];
    grown = was.is;
    sized = ap (λ (m : Members). list_length m.newest) members;
    held = record {
      roles = λ role slot has. inl (inl (subst (λ (m : Members). Held m role slot) members has));
      spares = λ slot spare. inl (subst (λ (m : Members). has_spare m.spares slot ≡ true) members spare);
    };
    losses = (tt, tt);
    refusals = told-entered old.parts.backup (faults old.parts.bank) (faults new.parts.bank) was tt;
    grows = record { more = λ t. ([], ap tape bank ∙ sym (append-nil (tape old.parts.bank))) };
    never_falls = λ s. let is : faults new.parts.bank s ≡ faults old.parts.bank s = ap (λ (b : B). faults b s) bank in omega (arith, is);
    given_is = ap given bank;
    same = epoch;
    active = λ still none. ap (λ (m : Members). is_reshaping m.newest) members ∙ still;
    ahead = λ empty none. ap (λ (p : PhasesLeft). phases_of p) ahead ∙ empty;
    way = way-same old new (one who was.end (Shown status) ∷ []) members ahead;
  }
