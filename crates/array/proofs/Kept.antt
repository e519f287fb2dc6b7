-- What a running array keeps over a call.
use Rattle.std.proofs.Common.{◌≡◌, ◌⊎◌, inl, inr, ℕ, ◌*◌, ◌≤◌, ◌==◌, Bool, true, false, List, [], ◌∷◌, ◌++◌, Option, Some, refl, sym, ◌∙◌, ap, subst, arith}
use Rattle.std.proofs.lemmas.Bool.{cases_lt}
use Rattle.std.proofs.lemmas.Bool.Decides.{nat_tests}
use Rattle.std.proofs.lemmas.List.Folds.{list_any-append}
use Rattle.std.specs.List.{list_any}
use Rattle.std.specs.Prelude.{if◌then◌else◌, Result, Ok, Err, OnOk, OnErr, IsTrue, MatchOption, ⊤}
use Rattle.array_grow.specs.raid_types_the_Fault.{Fault}
use Rattle.array_grow.specs.raid_types_the_Fault_TheVariants.{Refused as IsRefusedWith, NoMemory}
use Rattle.array_grow.specs.raid_types_the_Refusal.{Refusal}
use Rattle.array_grow.specs.raid_types_the_Refusal_TheVariants.{NoSuchSlot, SlotFault, SlotTaken}
use Rattle.array_grow.specs.raid_types_the_Shape.{Shape}
use Rattle.array_grow.specs.raid_types_the_Phase.{Phase}
use Rattle.array_grow.specs.raid_types_the_Phase_TheVariants.{Reshape, UpTo6, DownTo5}
use Rattle.array_grow.specs.raid_types_the_Who.{Who}
use Rattle.array_grow.specs.bank_Given.{Given}
use Rattle.array_grow.specs.bank_the_Operation.{Operation}
use Rattle.array_takeover.specs.reshape_plan_Plans.{phase_window, last_shape}
use Rattle.array_takeover.specs.sb_specs_the_Members.{Members}
use Rattle.array_takeover.specs.sb_specs_Reading.{Reading, is_backup, is_reshaping, shape_of, final_shape}
use Rattle.array_takeover.specs.sb_specs_Reads.{has_spare}
use Rattle.array_takeover.specs.history_the_Entry.{Entry}
use Rattle.array_takeover.specs.history_the_Epoch.{Epoch}
use Rattle.array_takeover.specs.history_the_Event_TheVariants.{Refused}
use Rattle.array_takeover.specs.history_Epochs.{world_of}
use Rattle.array_takeover.specs.history_Growing.{grown}
use Rattle.array_takeover.specs.history_Plain.{entries_of}
use Rattle.array_takeover.specs.history_Reshaped.{open_plans}
use Rattle.array_takeover.specs.history_World.{World}
use Rattle.array_grow.specs.array_members_Moving.{Grows}
use Rattle.array_grow.proofs.array_members_MovedLaws.{grows-none}
use Rattle.array_grow.specs.array_members_Rebuilding.{Held, MayHold}
use Rattle.array_grow.specs.array_members_Placed.{AreWhole}
use Rattle.array_grow.specs.array_members_the_Work.{Work}
use Rattle.array_grow.specs.array_call_specs_Kept.{scope_in}
use Rattle.array_grow.specs.array_call_specs_Calls.{AreHeldOrSpare, IsAddedFor, IsUnaddable}
use Rattle.array_grow.proofs.history_invariant_Growing.{reading-grown}
use Rattle.array_grow.proofs.history_invariant_Tests.{neither}
use Rattle.array_takeover.specs.reshape_request_the_PhasesLeft.{PhasesLeft}
use Rattle.array_takeover.specs.reshape_request_Left.{phases_of}
use Rattle.array_grow.specs.array_specs_Adding.{IsAddCalled}
use Rattle.array_grow.specs.array_specs_Parts.{RunningParts}
use Rattle.array_grow.specs.array_specs_Calls.{moving_world, IsCalled, IsSameReshape}
use Rattle.array_grow.specs.array_specs_Plans.{aim_of, ArePlansKept, turns_shape, KeepsShape}
use Rattle.array_grow.specs.array_fixed_laws_Steps.{IsStepped}
use Rattle.array_grow.specs.array_reshaping_laws_Resyncing.{IsResyncCalled}
use Rattle.array_grow.specs.array_transition_Begun.{IsBackupAt, IsReshapeBegun, IsGivenBack}
use Rattle.array_grow.specs.array_transition_Ended.{IsReshapeEnded}
use Rattle.array_grow.proofs.array_fixed_laws_PlansKept.{AddNoPlan, add-nothing, plans-kept, plans-closed, aim-begun, aim-ended}
use Rattle.array_takeover.specs.TakenOver.{IsTakeoverNext, IsLevelTaken, IsUntouched}
use Rattle.array_takeover.proofs.TakenFrom.{WasSpareOrHeld, taken-roles, taken-spares}
use Rattle.array_grow.specs.Stored.{IsStoredBy}
use Rattle.array.specs.State.{IsStillNow, AreTakeovers, IsOneReshape, AreBacked, IsNextBacked, IsWithin, IsBackupAside, AreClosedIdle, IsAtRest, IsInReshape}
use Rattle.array.proofs.Closed.{closed-kept, closed-ended, closed-taken}
use Rattle.array.proofs.Entered.{add-begun, begun-turns, add-ended, add-taken}
use Rattle.array_grow.proofs.Aside.{not-so}

-- ---- the history

-- its world over its bank
abbrev pub world_over : {B : Type 0} → (B → Given) → (B → List Operation) → RunningParts B → World
world_over given tape array = moving_world (given array.parts.bank) (tape array.parts.bank) array

-- What each call leaves: the same array over a bank on which more was done, and more entries, none of which is a plan.
pub record GoesOn {B : Type 0} (tells : Type 0) (given : B → Given) (tape : B → List Operation) (old new : RunningParts B) : Type 0 where
  pub given_is : given new.parts.bank ≡ given old.parts.bank
  pub grows : Grows tells (tape old.parts.bank) (tape new.parts.bank)
  pub uuid : new.parts.uuid ≡ old.parts.uuid
  pub slots : new.parts.given ≡ old.parts.given
  pub first : new.parts.first ≡ old.parts.first
  pub backup : new.parts.backup ≡ old.parts.backup
  pub added : AddNoPlan old.parts.entries new.parts.entries

module _ {B : Type 0} {tells : Type 0} (given : B → Given) (tape : B → List Operation) (old new : RunningParts B) (on : GoesOn tells given tape old new) (within : IsWithin tells (given old.parts.bank) (tape old.parts.bank) old) where
  world-on : (t : tells) → world_over given tape new ≡ grown (world_over given tape old) (on.grows.more t).0
  world-on t = λ i. record {
    start = (on.given_is i).start;
    tape = (on.grows.more t).1 i;
    scope = scope_in (on.given_is i) (on.uuid i) (on.slots i) (on.backup i);
    first = on.first i;
  }

  -- the plans that are open go where they went
  pub plans-on : aim_of new ≡ aim_of old → ArePlansKept tells (world_over given tape old) old → ArePlansKept tells (world_over given tape new) new
  plans-on aim was =
      subst (λ (g : Given). ArePlansKept tells (moving_world g (tape new.parts.bank) new) new) (sym on.given_is)
      (plans-kept {B = B} (given old.parts.bank) {old = old} {new = new} on.grows (record { uuid = on.uuid; given = on.slots; first = on.first; backup = on.backup; aim = aim }) on.added within.begun within.ends was)

  -- where it hadn't kept its shape, it hasn't
  pub turned-on : (tells → KeepsShape (world_over given tape old) old.parts.entries → ⊥) → tells → KeepsShape (world_over given tape new) new.parts.entries → ⊥
  turned-on was t keeps =
      let ops = (on.grows.more t).0 in
      let world = world_over given tape old in
      let later : KeepsShape (grown world ops) (old.parts.entries ++ on.added.more) =
      subst (λ (w : World). KeepsShape w (old.parts.entries ++ on.added.more)) (world-on t) (subst (λ (l : List Entry). KeepsShape (world_over given tape new) l) on.added.grown keeps) in
      was t (record {
        found = subst (λ (o : Option Reading). MatchOption o ⊤ (λ r. is_reshaping r.newest ≡ false)) (reading-grown world ops old.parts.first (within.begun t)) later.found;
        none = (neither (list_any (λ e. turns_shape e.event) old.parts.entries) (list_any (λ e. turns_shape e.event) on.added.more)
            (sym (list_any-append (λ e. turns_shape e.event) old.parts.entries on.added.more) ∙ later.none)).0;
      })

-- the parts of an array whose bank and history are handed out
abbrev pub handed : {B : Type 0} → RunningParts B → B → Epoch → RunningParts B
handed old bank epoch = record old { parts = record old.parts { bank = bank; uuid = epoch.uuid; given = epoch.given; first = epoch.first; entries = epoch.entries.items } }

-- in a reshape they don't keep its shape
pub turned-out : {B tells : Type 0} {P : Type 0} (given : B → Given) (tape : B → List Operation) (old : RunningParts B) (bank : B) (epoch : Epoch) → given bank ≡ given old.parts.bank → Grows tells (tape old.parts.bank) (tape bank)
    → epoch.uuid ≡ old.parts.uuid → epoch.given ≡ old.parts.given → epoch.first ≡ old.parts.first → AddNoPlan old.parts.entries epoch.entries.items → IsInReshape tells (given old.parts.bank) (tape old.parts.bank) old
    → tells → KeepsShape (world_of (given bank) (tape bank) old.parts.backup epoch) epoch.entries.items → P
turned-out given tape old bank epoch given_is grows uuid slots first added was t keeps =
    absurd (turned-on given tape old (handed old bank epoch) (record { given_is = given_is; grows = grows; uuid = uuid; slots = slots; first = first; backup = refl; added = added }) was.within was.turned t keeps)

-- the aim of an array that is in the same shapes
pub aim-same : {B : Type 0} (old new : RunningParts B) → is_reshaping new.parts.members.newest ≡ is_reshaping old.parts.members.newest → final_shape new.parts.members.newest ≡ final_shape old.parts.members.newest
    → shape_of new.parts.members.newest ≡ shape_of old.parts.members.newest → new.ahead ≡ old.ahead → aim_of new ≡ aim_of old
aim-same old new active final shape ahead = λ i. last_shape (if active i then final i else shape i) (phases_of (ahead i))

-- ---- the phases ahead

-- takeovers alone have at most one reshape, and need no backup
takeovers-one : (phases : List Phase) → AreTakeovers phases → IsOneReshape phases
takeovers-one [] are = tt
takeovers-one (Reshape to ∷ more) are = absurd are
takeovers-one (UpTo6 to ∷ more) are = takeovers-one more are
takeovers-one (DownTo5 to ∷ more) are = takeovers-one more are

takeovers-backed : (given : Given) (window : ℕ) (backup : Option ℕ) (now : Shape) (size : ℕ) (phases : List Phase) → AreTakeovers phases → AreBacked given window backup now size phases
takeovers-backed given window backup now size [] are = tt
takeovers-backed given window backup now size (Reshape to ∷ more) are = absurd are
takeovers-backed given window backup now size (UpTo6 to ∷ more) are = takeovers-backed given window backup to size more are
takeovers-backed given window backup now size (DownTo5 to ∷ more) are = takeovers-backed given window backup to size more are

-- of the same array with the same phases ahead
backed-same : (window : ℕ) {given given' : Given} {backup backup' : Option ℕ} {now now' : Shape} {size size' : ℕ} {phases phases' : List Phase} → given' ≡ given → backup' ≡ backup → now' ≡ now → size' ≡ size → phases' ≡ phases
    → AreBacked given window backup now size phases → AreBacked given' window backup' now' size' phases'
backed-same window {given = given} {given' = given'} {backup = backup} {backup' = backup'} {now = now} {now' = now'} {size = size} {size' = size'} {phases = phases} {phases' = phases'} given_is backup_is now_is size_is phases_is was =
    subst (λ (g : Given). AreBacked g window backup' now' size' phases') (sym given_is)
    (subst (λ (b : Option ℕ). AreBacked given window b now' size' phases') (sym backup_is)
    (subst (λ (s : Shape). AreBacked given window backup s size' phases') (sym now_is)
    (subst (λ (n : ℕ). AreBacked given window backup now n phases') (sym size_is)
    (subst (λ (l : List Phase). AreBacked given window backup now size l) (sym phases_is) was))))

-- a phase that is the first one ahead is the one that stands before those behind it
pub first-same : {phases : List Phase} {phase first : Phase} {more rest : List Phase} → phases ≡ phase ∷ more → phases ≡ first ∷ rest → phases ≡ phase ∷ rest
first-same {phases = phases} {phase = phase} {first = first} {more = more} {rest = rest} a b =
    let both : ◌≡◌ {A = List Phase} (first ∷ rest) (phase ∷ more) = sym b ∙ a in
    let same : first ≡ phase = cc in
    b ∙ ap (λ (p : Phase). p ∷ rest) same

pub first-taken : {phases : List Phase} {first : Phase} {more rest : List Phase} (to : Shape) → IsTakeoverNext phases to more → phases ≡ first ∷ rest → IsTakeoverNext phases to rest
first-taken to (inl up) b = inl (first-same up b)
first-taken to (inr down) b = inr (first-same down b)

pub first-of : {phases more : List Phase} (to : Shape) → IsTakeoverNext phases to more → (phase : Phase) × (rest : List Phase) × (phases ≡ phase ∷ rest)
first-of {more = more} to (inl up) = (UpTo6 to, more, up)
first-of {more = more} to (inr down) = (DownTo5 to, more, down)

-- the reshape that is the next phase has a backup that serves it, and a buffer
pub backup-serves : {B : Type 0} {tells : Type 0} {given : Given} {tape : List Operation} {window : ℕ} (array : RunningParts B) (to : Shape) (more : List Phase) → phases_of array.ahead ≡ Reshape to ∷ more
    → IsAtRest tells given tape window array
    → (slot : ℕ) × (array.parts.backup ≡ Some slot) × IsBackupAt given array.parts.members to slot
    × (512 * phase_window (shape_of array.parts.members.newest) array.parts.members.newest.size (Reshape to) ≤ window)
backup-serves {given = given} {window = window} array to more next was =
    let m = array.parts.members in
    let can = (subst (λ (l : List Phase). AreBacked given window array.parts.backup (shape_of m.newest) m.newest.size l) next was.next).0 in
    let apart = was.aside can.slot can.is in
    (can.slot, can.is, record { known = can.known; apart = apart.0; own = apart.1; room = can.room }, can.wide)

-- ---- without a reshape

-- What a call leaves as it was besides, as far as what is ahead asks for it.
pub record LeavesAhead {B : Type 0} (old new : RunningParts B) : Type 0 where
  pub shape : shape_of new.parts.members.newest ≡ shape_of old.parts.members.newest
  pub final : final_shape new.parts.members.newest ≡ final_shape old.parts.members.newest
  pub size : new.parts.members.newest.size ≡ old.parts.members.newest.size
  pub ahead : new.ahead ≡ old.ahead
  pub held : (role slot : ℕ) → Held new.parts.members role slot → MayHold old.parts.members role slot
  pub spares : (slot : ℕ) → old.parts.backup ≡ Some slot → has_spare new.parts.members.spares slot ≡ true → has_spare old.parts.members.spares slot ≡ true

clash : {P : Type 0} {b : Bool} → b ≡ false → b ≡ true → P
clash off on = absurd (let both : true ≡ false = sym on ∙ off in cc)

module _ {B : Type 0} {tells : Type 0} (given : B → Given) (tape : B → List Operation) (window : ℕ) (old new : RunningParts B) (on : GoesOn tells given tape old new) (leaves : LeavesAhead old new) where
  next-kept : IsNextBacked (given old.parts.bank) window old → IsNextBacked (given new.parts.bank) window new
  next-kept = backed-same window on.given_is on.backup leaves.shape leaves.size (ap phases_of leaves.ahead)

  aside-kept : IsBackupAside old → IsBackupAside new
  aside-kept was slot is =
      let before : old.parts.backup ≡ Some slot = sym on.backup ∙ is in
      let apart = was slot before in
      (not-so (has_spare new.parts.members.spares slot) (λ spare. clash apart.0 (leaves.spares slot before spare)), λ role held. none role apart (leaves.held role slot held))
    where
      none : (role : ℕ) → (has_spare old.parts.members.spares slot ≡ false) × ((role : ℕ) → Held old.parts.members role slot → ⊥) → MayHold old.parts.members role slot → ⊥
      none role apart (inl held) = apart.1 role held
      none role apart (inr spare) = clash apart.0 spare

  pub rest-kept : IsStillNow new → IsWithin tells (given new.parts.bank) (tape new.parts.bank) new → AreClosedIdle new → IsAtRest tells (given old.parts.bank) (tape old.parts.bank) window old → IsAtRest tells (given new.parts.bank) (tape new.parts.bank) window new
  rest-kept now within closed was = record {
    now = now;
    within = within;
    one = subst (λ (a : PhasesLeft). IsOneReshape (phases_of a)) (sym leaves.ahead) was.one;
    next = next-kept was.next;
    aside = aside-kept was.aside;
    closed = closed;
    plans = plans-on given tape old new on was.within
        (aim-same old new (now.still ∙ sym was.now.still) leaves.final leaves.shape leaves.ahead) was.plans;
  }

-- ---- in one

module _ {B : Type 0} {tells : Type 0} (given : B → Given) (tape : B → List Operation) (old new : RunningParts B) (on : GoesOn tells given tape old new)
    (shape : shape_of new.parts.members.newest ≡ shape_of old.parts.members.newest) (final : final_shape new.parts.members.newest ≡ final_shape old.parts.members.newest) (ahead : new.ahead ≡ old.ahead) where
  pub reshape-kept : is_reshaping new.parts.members.newest ≡ true → IsWithin tells (given new.parts.bank) (tape new.parts.bank) new → IsInReshape tells (given old.parts.bank) (tape old.parts.bank) old → IsInReshape tells (given new.parts.bank) (tape new.parts.bank) new
  reshape-kept active within was = record {
    active = active;
    within = within;
    last = subst (λ (a : PhasesLeft). AreTakeovers (phases_of a)) (sym ahead) was.last;
    turned = turned-on given tape old new on was.within was.turned;
    plans = plans-on given tape old new on was.within (aim-same old new (active ∙ sym was.active) final shape ahead) was.plans;
  }

-- ---- what each call leaves

module _ {B : Type 0} {tells : Type 0} (given : B → Given) (tape : B → List Operation) (window : ℕ) (old new : RunningParts B) (given_is : given new.parts.bank ≡ given old.parts.bank)
    (added : AddNoPlan old.parts.entries new.parts.entries) where
  goes-same : {before after : World} → Grows tells (tape old.parts.bank) (tape new.parts.bank) → IsSameReshape tells old new before after → GoesOn tells given tape old new
  goes-same grows same = record {
    given_is = given_is;
    grows = grows;
    uuid = same.array.uuid;
    slots = same.array.given;
    first = same.array.first;
    backup = same.array.backup;
    added = added;
  }

  leaves-same : {before after : World} → IsSameReshape tells old new before after → ((role slot : ℕ) → Held new.parts.members role slot → MayHold old.parts.members role slot)
      → ((slot : ℕ) → old.parts.backup ≡ Some slot → has_spare new.parts.members.spares slot ≡ true → has_spare old.parts.members.spares slot ≡ true) → LeavesAhead old new
  leaves-same same held spares = record { shape = same.array.shape; final = same.final; size = same.array.size; ahead = same.ahead; held = held; spares = spares }

  -- by which slots may be lost
  pub rest-called : {f g : ℕ → ℕ} → IsCalled tells (given old.parts.bank) (tape old.parts.bank) (tape new.parts.bank) f g old new → (AreWhole new.parts.members → AreWhole old.parts.members) → IsStillNow new → IsWithin tells (given new.parts.bank) (tape new.parts.bank) new
      → IsAtRest tells (given old.parts.bank) (tape old.parts.bank) window old → IsAtRest tells (given new.parts.bank) (tape new.parts.bank) window new
  rest-called did whole now within was =
      rest-kept given tape window old new (goes-same did.grows did.same) (leaves-same did.same (λ role slot has. inl (did.held role slot has)) (λ slot backup is. did.spares slot is)) now within
      (closed-kept old new (ap (λ (w : Work). w.resync) did.work) did.same.ahead whole added was.closed) was

  pub reshape-called : {f g : ℕ → ℕ} → IsCalled tells (given old.parts.bank) (tape old.parts.bank) (tape new.parts.bank) f g old new → is_reshaping new.parts.members.newest ≡ true → IsWithin tells (given new.parts.bank) (tape new.parts.bank) new
      → IsInReshape tells (given old.parts.bank) (tape old.parts.bank) old → IsInReshape tells (given new.parts.bank) (tape new.parts.bank) new
  reshape-called did = reshape-kept given tape old new (goes-same did.grows did.same) did.same.array.shape did.same.final did.same.ahead

  -- by which roles may be given to spares
  pub rest-stepped : {Had : ℕ → ℕ → Type 0} {f g : ℕ → ℕ} → IsStepped tells (given old.parts.bank) (tape old.parts.bank) (tape new.parts.bank) Had f g old new → AreHeldOrSpare old.parts.members new.parts.members
      → IsStillNow new → IsWithin tells (given new.parts.bank) (tape new.parts.bank) new → AreClosedIdle new → IsAtRest tells (given old.parts.bank) (tape old.parts.bank) window old → IsAtRest tells (given new.parts.bank) (tape new.parts.bank) window new
  rest-stepped did held = rest-kept given tape window old new (goes-same did.grows did.same) (leaves-same did.same held.roles (λ slot backup is. held.spares slot is))

  -- by which the work may be another
  pub reshape-stepped : {f g : ℕ → ℕ} → IsResyncCalled tells (given old.parts.bank) (tape old.parts.bank) (tape new.parts.bank) f g old new → is_reshaping new.parts.members.newest ≡ true → IsWithin tells (given new.parts.bank) (tape new.parts.bank) new
      → IsInReshape tells (given old.parts.bank) (tape old.parts.bank) old → IsInReshape tells (given new.parts.bank) (tape new.parts.bank) new
  reshape-stepped did = reshape-kept given tape old new (record {
    given_is = given_is;
    grows = did.grows;
    uuid = did.same.array.uuid;
    slots = did.same.array.given;
    first = did.same.array.first;
    backup = did.same.array.backup;
    added = added;
  }) did.same.array.shape did.same.final did.same.ahead

  -- by which nothing is done on the bank, and the members are the same
  pub rest-alone : {before after : World} → new.parts.bank ≡ old.parts.bank → IsSameReshape tells old new before after → new.parts.members ≡ old.parts.members → new.parts.work ≡ old.parts.work → IsStillNow new → IsWithin tells (given new.parts.bank) (tape new.parts.bank) new
      → IsAtRest tells (given old.parts.bank) (tape old.parts.bank) window old → IsAtRest tells (given new.parts.bank) (tape new.parts.bank) window new
  rest-alone bank same members work now within was = rest-kept given tape window old new (goes-same (grows-none (λ t. ap tape bank)) same)
      (leaves-same same (λ role slot has. inl (subst (λ (m : Members). Held m role slot) members has)) (λ slot backup is. subst (λ (m : Members). has_spare m.spares slot ≡ true) members is)) now within
      (closed-kept old new (ap (λ (w : Work). w.resync) work) same.ahead (λ whole. subst AreWhole members whole) added was.closed) was

  pub reshape-alone : {before after : World} → new.parts.bank ≡ old.parts.bank → IsSameReshape tells old new before after → is_reshaping new.parts.members.newest ≡ true → IsWithin tells (given new.parts.bank) (tape new.parts.bank) new
      → IsInReshape tells (given old.parts.bank) (tape old.parts.bank) old → IsInReshape tells (given new.parts.bank) (tape new.parts.bank) new
  reshape-alone bank same = reshape-kept given tape old new (goes-same (grows-none (λ t. ap tape bank)) same) same.array.shape same.final same.ahead

-- ---- a slot that is made a spare isn't the backup

module _ (given : Given) (backup : Option ℕ) (slot : ℕ) (old new : Members) (before after : ℕ → ℕ) where
  taken : backup ≡ Some slot → ((refusal : Refusal) → IsUnaddable given backup slot old refusal → ⊥) → ⊥
  taken is none = elim (cases_lt slot given.slots) [
    | inl lt ↦ none (SlotTaken slot) (refl, lt, inl (subst (λ (o : Option ℕ). IsTrue (is_backup o slot)) (sym is) (itself slot)))
    | inr le ↦ none (NoSuchSlot slot) (refl, le)
  ]
    where
      itself : (n : ℕ) → (n == n) ≡ true
      itself n = grind (arith, nat_tests)

  pub no-backup : {T : Type 0} (result : Result T Fault) → IsAddedFor given backup slot old new before after result → backup ≡ Some slot → has_spare new.spares slot ≡ true → has_spare old.spares slot ≡ true
  no-backup (Ok x) caused is has = absurd (taken is caused.0)
  no-backup (Err (IsRefusedWith (SlotFault failed))) caused is has = absurd (taken is caused.1)
  no-backup (Err (IsRefusedWith refusal)) caused is has = subst (λ (m : Members). has_spare m.spares slot ≡ true) caused.1 has
  no-backup (Err NoMemory) caused is has = subst (λ (m : Members). has_spare m.spares slot ≡ true) caused has

module _ {B : Type 0} {tells : Type 0} (given : B → Given) (tape : B → List Operation) (window : ℕ) (old new : RunningParts B) (given_is : given new.parts.bank ≡ given old.parts.bank)
    (added : AddNoPlan old.parts.entries new.parts.entries) {slot : ℕ} {f g : ℕ → ℕ} (did : IsAddCalled tells (given old.parts.bank) (tape old.parts.bank) (tape new.parts.bank) f g slot old new) where
  pub rest-added : {T : Type 0} (result : Result T Fault) → IsAddedFor (given old.parts.bank) old.parts.backup slot old.parts.members new.parts.members f g result → (AreWhole new.parts.members → AreWhole old.parts.members)
      → IsStillNow new → IsWithin tells (given new.parts.bank) (tape new.parts.bank) new
      → IsAtRest tells (given old.parts.bank) (tape old.parts.bank) window old → IsAtRest tells (given new.parts.bank) (tape new.parts.bank) window new
  rest-added result caused whole now within was = rest-kept given tape window old new (goes-same given tape window old new given_is added did.grows did.same)
      (leaves-same given tape window old new given_is added did.same (λ role s has. inl (did.held role s has)) (λ s backup has. by s backup has (did.spares s has))) now within
      (closed-kept old new did.work.resync did.same.ahead whole added was.closed) was
    where
      by : (s : ℕ) → old.parts.backup ≡ Some s → has_spare new.parts.members.spares s ≡ true → (has_spare old.parts.members.spares s ≡ true) ⊎ (s ≡ slot) → has_spare old.parts.members.spares s ≡ true
      by s backup has (inl was) = was
      by s backup has (inr is) =
          subst (λ (n : ℕ). has_spare old.parts.members.spares n ≡ true) (sym is)
          (no-backup (given old.parts.bank) old.parts.backup slot old.parts.members new.parts.members f g result caused (backup ∙ ap (λ (n : ℕ). Some n) is)
          (subst (λ (n : ℕ). has_spare new.parts.members.spares n ≡ true) is has))

  pub reshape-added : is_reshaping new.parts.members.newest ≡ true → IsWithin tells (given new.parts.bank) (tape new.parts.bank) new → IsInReshape tells (given old.parts.bank) (tape old.parts.bank) old
      → IsInReshape tells (given new.parts.bank) (tape new.parts.bank) new
  reshape-added = reshape-kept given tape old new (goes-same given tape window old new given_is added did.grows did.same) did.same.array.shape did.same.final did.same.ahead

-- ---- the bank alone

module _ {B : Type 0} {tells : Type 0} (given : B → Given) (tape : B → List Operation) (window : ℕ) (old new : RunningParts B) (given_is : given new.parts.bank ≡ given old.parts.bank)
    (tape_is : tells → tape new.parts.bank ≡ tape old.parts.bank) (same : new ≡ record old { parts = record old.parts { bank = new.parts.bank } }) where
  looks-on : GoesOn tells given tape old new
  looks-on = record {
    given_is = given_is;
    grows = grows-none tape_is;
    uuid = ap (λ p. p.parts.uuid) same;
    slots = ap (λ p. p.parts.given) same;
    first = ap (λ p. p.parts.first) same;
    backup = ap (λ p. p.parts.backup) same;
    added = add-nothing (ap (λ p. p.parts.entries) same);
  }

  pub rest-looked : IsStillNow new → IsWithin tells (given new.parts.bank) (tape new.parts.bank) new → IsAtRest tells (given old.parts.bank) (tape old.parts.bank) window old → IsAtRest tells (given new.parts.bank) (tape new.parts.bank) window new
  rest-looked now within was = rest-kept given tape window old new looks-on (record {
    shape = ap (λ p. shape_of p.parts.members.newest) same;
    final = ap (λ p. final_shape p.parts.members.newest) same;
    size = ap (λ p. p.parts.members.newest.size) same;
    ahead = ap (λ p. p.ahead) same;
    held = λ role slot has. inl (subst (λ p. Held p.parts.members role slot) same has);
    spares = λ slot backup is. subst (λ p. has_spare p.parts.members.spares slot ≡ true) same is;
  }) now within
      (closed-kept old new (ap (λ p. p.parts.work.resync) same) (ap (λ p. p.ahead) same) (λ whole. subst (λ p. AreWhole p.parts.members) same whole) (add-nothing (ap (λ p. p.parts.entries) same)) was.closed) was

  pub reshape-looked : is_reshaping new.parts.members.newest ≡ true → IsWithin tells (given new.parts.bank) (tape new.parts.bank) new → IsInReshape tells (given old.parts.bank) (tape old.parts.bank) old
      → IsInReshape tells (given new.parts.bank) (tape new.parts.bank) new
  reshape-looked = reshape-kept given tape old new looks-on (ap (λ p. shape_of p.parts.members.newest) same) (ap (λ p. final_shape p.parts.members.newest) same) (ap (λ p. p.ahead) same)

-- ---- room for steps

-- what is stored is the same
stored-same : {B : Type 0} {world : World} {array : RunningParts B} {n : ℕ} → IsStoredBy world array → IsStoredBy world (record array { parts = record array.parts { steps = n } })
stored-same was = record { begun = was.begun; ends = was.ends; unlost = was.unlost; window = was.window; gone = was.gone; stored = was.stored }

module _ {B : Type 0} {tells : Type 0} (given : B → Given) (tape : B → List Operation) (window n : ℕ) (old new : RunningParts B) where
  -- where room is made, and where memory is short for it
  pub roomy-rest : {T E : Type 0} (result : Result T E) → OnOk result (new ≡ record old { parts = record old.parts { steps = n } }) → OnErr result (new ≡ old)
      → IsAtRest tells (given old.parts.bank) (tape old.parts.bank) window old → IsAtRest tells (given new.parts.bank) (tape new.parts.bank) window new
  roomy-rest (Ok x) same none was = subst (λ p. IsAtRest tells (given p.parts.bank) (tape p.parts.bank) window p) (sym same) (record {
    now = record { still = was.now.still; course = was.now.course };
    within = record { begun = was.within.begun; ends = was.within.ends; sized = was.within.sized; limited = was.within.limited; told = was.within.told; stored = λ t. stored-same (was.within.stored t) };
    one = was.one;
    next = was.next;
    aside = was.aside;
    plans = was.plans;
    closed = was.closed;
  })
  roomy-rest (Err x) none same was = subst (λ p. IsAtRest tells (given p.parts.bank) (tape p.parts.bank) window p) (sym same) was

  pub roomy-reshape : {T E : Type 0} (result : Result T E) → OnOk result (new ≡ record old { parts = record old.parts { steps = n } }) → OnErr result (new ≡ old)
      → IsInReshape tells (given old.parts.bank) (tape old.parts.bank) old → IsInReshape tells (given new.parts.bank) (tape new.parts.bank) new
  roomy-reshape (Ok x) same none was = subst (λ p. IsInReshape tells (given p.parts.bank) (tape p.parts.bank) p) (sym same) (record {
    active = was.active;
    within = record { begun = was.within.begun; ends = was.within.ends; sized = was.within.sized; limited = was.within.limited; told = was.within.told; stored = λ t. stored-same (was.within.stored t) };
    last = was.last;
    turned = was.turned;
    plans = was.plans;
  })
  roomy-reshape (Err x) none same was = subst (λ p. IsInReshape tells (given p.parts.bank) (tape p.parts.bank) p) (sym same) was

-- ---- a reshape begins and ends

-- it begins: the plans that are open go to its shape
pub reshape-begun : {B tells : Type 0} {f g : ℕ → ℕ} {who : Who} {behind : PhasesLeft} (given : B → Given) (tape : B → List Operation) (window : ℕ) (to : Shape) (old new : RunningParts B) → given new.parts.bank ≡ given old.parts.bank
    → phases_of old.ahead ≡ Reshape to ∷ phases_of behind → IsReshapeBegun tells (given old.parts.bank) (tape old.parts.bank) (tape new.parts.bank) f g who to behind old new
    → IsWithin tells (given new.parts.bank) (tape new.parts.bank) new → IsAtRest tells (given old.parts.bank) (tape old.parts.bank) window old → IsInReshape tells (given new.parts.bank) (tape new.parts.bank) new
reshape-begun {behind = behind} given tape window to old new given_is next did within was = record {
  active = did.start.active;
  within = within;
  last = subst (λ (a : PhasesLeft). AreTakeovers (phases_of a)) (sym did.ahead) (subst IsOneReshape next was.one);
  turned = λ t. begun-turns (world_over given tape new) did.entered;
  plans = plans-on given tape old new (record {
    given_is = given_is;
    grows = did.grows;
    uuid = did.same.uuid;
    slots = did.same.given;
    first = did.same.first;
    backup = did.same.backup;
    added = add-begun did.entered;
  }) was.within (aim-begun old new to (phases_of behind) was.now.still did.start.active did.start.final next (ap phases_of did.ahead)) was.plans;
}

-- it couldn't
pub rest-back : {B tells : Type 0} {who : Who} {refusal : Refusal} (given : B → Given) (tape : B → List Operation) (window : ℕ) (to : Shape) (more : List Phase) (old new : RunningParts B) → given new.parts.bank ≡ given old.parts.bank
    → phases_of old.ahead ≡ Reshape to ∷ more → Grows tells (tape old.parts.bank) (tape new.parts.bank) → IsGivenBack tells (given old.parts.bank) (tape old.parts.bank) (tape new.parts.bank) who refusal old new → IsStillNow new → IsWithin tells (given new.parts.bank) (tape new.parts.bank) new
    → IsAtRest tells (given old.parts.bank) (tape old.parts.bank) window old → IsAtRest tells (given new.parts.bank) (tape new.parts.bank) window new
rest-back {who = who} {refusal = refusal} given tape window to more old new given_is next grows back now within = rest-kept given tape window old new
    (record {
      given_is = given_is;
      grows = grows;
      uuid = back.same.uuid;
      slots = back.same.given;
      first = back.same.first;
      backup = back.same.backup;
      added = record { more = entries_of who back.end (Refused refusal ∷ []); grown = back.entered; none = refl };
    })
    (record {
      shape = ap (λ (m : Members). shape_of m.newest) back.members;
      final = ap (λ (m : Members). final_shape m.newest) back.members;
      size = ap (λ (m : Members). m.newest.size) back.members;
      ahead = back.ahead;
      held = λ role slot has. inl (subst (λ (m : Members). Held m role slot) back.members has);
      spares = λ slot backup is. subst (λ (m : Members). has_spare m.spares slot ≡ true) back.members is;
    })
    now within (λ synced none whole. absurd (let e : ◌≡◌ {A = List Phase} [] (Reshape to ∷ more) = sym none ∙ (ap phases_of back.ahead ∙ next) in cc))

-- it ends: the array has its shape
pub rest-ended : {B tells : Type 0} {f g : ℕ → ℕ} {who : Who} (given : B → Given) (tape : B → List Operation) (window : ℕ) (old new : RunningParts B) → given new.parts.bank ≡ given old.parts.bank
    → IsReshapeEnded tells (given old.parts.bank) (tape old.parts.bank) (tape new.parts.bank) f g who old new → IsBackupAside old → IsStillNow new → IsWithin tells (given new.parts.bank) (tape new.parts.bank) new
    → IsInReshape tells (given old.parts.bank) (tape old.parts.bank) old → IsAtRest tells (given new.parts.bank) (tape new.parts.bank) window new
rest-ended given tape window old new given_is did apart now within was = record {
  now = now;
  within = within;
  one = takeovers-one (phases_of new.ahead) last;
  next = takeovers-backed (given new.parts.bank) window new.parts.backup (shape_of new.parts.members.newest) new.parts.members.newest.size (phases_of new.ahead) last;
  aside = λ slot is. (not-so (has_spare new.parts.members.spares slot) (λ spare. spared slot (apart slot (before slot is)) (did.spares slot spare)), λ role held. (apart slot (before slot is)).1 role (did.held role slot held));
  closed = closed-ended new did.entered;
  plans = plans-on given tape old new (record {
    given_is = given_is;
    grows = did.grows;
    uuid = did.same.uuid;
    slots = did.same.given;
    first = did.same.first;
    backup = did.same.backup;
    added = add-ended did.entered;
  }) was.within (aim-ended old new was.active now.still did.over.shape did.ahead) was.plans;
}
  where
    last : AreTakeovers (phases_of new.ahead)
    last = subst (λ (a : PhasesLeft). AreTakeovers (phases_of a)) (sym did.ahead) was.last

    before : (slot : ℕ) → new.parts.backup ≡ Some slot → old.parts.backup ≡ Some slot
    before slot is = sym did.same.backup ∙ is

    spared : (slot : ℕ) → (has_spare old.parts.members.spares slot ≡ false) × ((role : ℕ) → Held old.parts.members role slot → ⊥)
        → (has_spare old.parts.members.spares slot ≡ true) ⊎ ((role : ℕ) × ((final_shape old.parts.members.newest).disks ≤ role) × Held old.parts.members role slot) → ⊥
    spared slot alone (inl was) = clash alone.0 was
    spared slot alone (inr dropped) = alone.1 dropped.0 dropped.2

-- ---- the level is taken over

-- the same phases are ahead behind the takeover, at most one of which is a reshape
one-behind : (phases more : List Phase) (to : Shape) → IsTakeoverNext phases to more → IsOneReshape phases → IsOneReshape more
one-behind phases more to (inl up) was = subst IsOneReshape up was
one-behind phases more to (inr down) was = subst IsOneReshape down was

backed-behind : (given : Given) (window : ℕ) (backup : Option ℕ) (now : Shape) (size : ℕ) (phases more : List Phase) (to : Shape) → IsTakeoverNext phases to more → AreBacked given window backup now size phases
    → AreBacked given window backup to size more
backed-behind given window backup now size phases more to (inl up) was = subst (λ (l : List Phase). AreBacked given window backup now size l) up was
backed-behind given window backup now size phases more to (inr down) was = subst (λ (l : List Phase). AreBacked given window backup now size l) down was

-- they lead to the same shape
lead-behind : (now to : Shape) (phases more : List Phase) → IsTakeoverNext phases to more → last_shape to more ≡ last_shape now phases
lead-behind now to phases more (inl up) = sym (ap (λ (l : List Phase). last_shape now l) up)
lead-behind now to phases more (inr down) = sym (ap (λ (l : List Phase). last_shape now l) down)

pub aim-taken : {B : Type 0} (old new : RunningParts B) (to : Shape) (behind : PhasesLeft) → is_reshaping old.parts.members.newest ≡ false → is_reshaping new.parts.members.newest ≡ false → shape_of new.parts.members.newest ≡ to
    → new.ahead ≡ behind → IsTakeoverNext (phases_of old.ahead) to (phases_of behind) → aim_of new ≡ aim_of old
aim-taken old new to behind before after shape ahead next =
    (λ i. last_shape (if after i then final_shape new.parts.members.newest else shape i) (phases_of (ahead i)))
    ∙ lead-behind (shape_of old.parts.members.newest) to (phases_of old.ahead) (phases_of behind) next
    ∙ sym (λ i. last_shape (if before i then final_shape old.parts.members.newest else shape_of old.parts.members.newest) (phases_of old.ahead))

pub rest-taken : {B tells : Type 0} {f g : ℕ → ℕ} {who : Who} {behind : PhasesLeft} (given : B → Given) (tape : B → List Operation) (window : ℕ) (to : Shape) (old new : RunningParts B) → given new.parts.bank ≡ given old.parts.bank
    → IsTakeoverNext (phases_of old.ahead) to (phases_of behind)
    → IsLevelTaken tells (given old.parts.bank) (tape old.parts.bank) (tape new.parts.bank) f g who to behind old new → IsStillNow new → IsWithin tells (given new.parts.bank) (tape new.parts.bank) new
    → IsAtRest tells (given old.parts.bank) (tape old.parts.bank) window old → IsAtRest tells (given new.parts.bank) (tape new.parts.bank) window new
rest-taken {behind = behind} given tape window to old new given_is next did now within was = record {
  now = now;
  within = within;
  one = subst (λ (a : PhasesLeft). IsOneReshape (phases_of a)) (sym did.ahead) (one-behind (phases_of old.ahead) (phases_of behind) to next was.one);
  next = backed-same window given_is did.same.backup did.newest.shape did.newest.size (ap phases_of did.ahead)
      (backed-behind (given old.parts.bank) window old.parts.backup (shape_of old.parts.members.newest) old.parts.members.newest.size (phases_of old.ahead) (phases_of behind) to next was.next);
  aside = λ slot is. (
    not-so (has_spare new.parts.members.spares slot) (λ spare. spared slot (apart slot is) (taken-spares old.parts.members to did.slot did.chosen new.parts.members did.spares slot spare)),
    λ role held. held-none role slot (apart slot is) (taken-roles old.parts.members to did.slot did.chosen new.parts.members did.held role slot held),
  );
  closed = closed-taken new did.entered;
  plans = plans-on given tape old new (record {
    given_is = given_is;
    grows = did.grows;
    uuid = did.same.uuid;
    slots = did.same.given;
    first = did.same.first;
    backup = did.same.backup;
    added = add-taken did.entered;
  }) was.within (aim-taken old new to behind was.now.still now.still did.newest.shape did.ahead next) was.plans;
}
  where
    apart : (slot : ℕ) → new.parts.backup ≡ Some slot → (has_spare old.parts.members.spares slot ≡ false) × ((role : ℕ) → Held old.parts.members role slot → ⊥)
    apart slot is = was.aside slot (sym did.same.backup ∙ is)

    spared : (slot : ℕ) → (has_spare old.parts.members.spares slot ≡ false) × ((role : ℕ) → Held old.parts.members role slot → ⊥) → WasSpareOrHeld old.parts.members slot → ⊥
    spared slot alone (inl spare) = clash alone.0 spare
    spared slot alone (inr (role, held)) = alone.1 role held

    held-none : (role slot : ℕ) → (has_spare old.parts.members.spares slot ≡ false) × ((role : ℕ) → Held old.parts.members role slot → ⊥) → MayHold old.parts.members role slot → ⊥
    held-none role slot alone (inl held) = alone.1 role held
    held-none role slot alone (inr spare) = clash alone.0 spare

-- it isn't
pub rest-untaken : {B tells : Type 0} {who : Who} {refusal : Refusal} (given : B → Given) (tape : B → List Operation) (window : ℕ) (old new : RunningParts B) → IsUntouched tells (tape old.parts.bank) who refusal old new → IsStillNow new
    → IsWithin tells (given new.parts.bank) (tape new.parts.bank) new
    → IsAtRest tells (given old.parts.bank) (tape old.parts.bank) window old → IsAtRest tells (given new.parts.bank) (tape new.parts.bank) window new
rest-untaken {who = who} {refusal = refusal} given tape window old new did now within was = rest-kept given tape window old new
    (record {
      given_is = ap given did.bank;
      grows = grows-none (λ t. ap tape did.bank);
      uuid = did.same.uuid;
      slots = did.same.given;
      first = did.same.first;
      backup = did.same.backup;
      added = added;
    })
    (record {
      shape = ap (λ (m : Members). shape_of m.newest) did.members;
      final = ap (λ (m : Members). final_shape m.newest) did.members;
      size = ap (λ (m : Members). m.newest.size) did.members;
      ahead = did.ahead;
      held = λ role slot has. inl (subst (λ (m : Members). Held m role slot) did.members has);
      spares = λ slot backup is. subst (λ (m : Members). has_spare m.spares slot ≡ true) did.members is;
    })
    now within (closed-kept old new (ap (λ (w : Work). w.resync) did.work) did.ahead (λ whole. subst AreWhole did.members whole) added was.closed) was
  where
    added : AddNoPlan old.parts.entries new.parts.entries
    added = record { more = entries_of who did.end (Refused refusal ∷ []); grown = did.entered; none = refl }

-- ---- at first

-- an array that has no plan
pub rest-first : {B tells : Type 0} (given : Given) (tape : List Operation) (window : ℕ) (array : RunningParts B) → IsStillNow array → IsWithin tells given tape array → phases_of array.ahead ≡ [] → open_plans array.parts.entries ≡ []
    → IsBackupAside array → IsAtRest tells given tape window array
rest-first given tape window array now within none unplanned aside = record {
  now = now;
  within = within;
  one = subst IsOneReshape (sym none) tt;
  next = subst (λ (l : List Phase). AreBacked given window array.parts.backup (shape_of array.parts.members.newest) array.parts.members.newest.size l) (sym none) tt;
  aside = aside;
  plans = plans-closed _ (moving_world given tape array) array unplanned;
  closed = λ synced ahead whole. unplanned;
}

pub reshape-first : {B tells : Type 0} (given : Given) (tape : List Operation) (array : RunningParts B) → is_reshaping array.parts.members.newest ≡ true → IsWithin tells given tape array → phases_of array.ahead ≡ []
    → open_plans array.parts.entries ≡ [] → (tells → KeepsShape (moving_world given tape array) array.parts.entries → ⊥) → IsInReshape tells given tape array
reshape-first given tape array active within none unplanned turned = record {
  active = active;
  within = within;
  last = subst AreTakeovers (sym none) tt;
  turned = turned;
  plans = plans-closed _ (moving_world given tape array) array unplanned;
}
