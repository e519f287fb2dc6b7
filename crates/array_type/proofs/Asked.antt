-- What calls ask of members that are placed, and what they enter, where the array doesn't move otherwise.
use Rattle.std.proofs.Common.{◌≡◌, inl, ℕ, ◌+◌, ◌-◌, ◌*◌, ◌/◌, ◌<◌, ◌≤◌, ◌++◌, ◌∷◌, List, [], Result, Ok, Err, length, refl, sym, ◌∙◌, subst, arith, length-append, Fits, w64, append-nil}
use Rattle.std.proofs.Math.Nat.{div-le_self, le_trans}
use Rattle.std.proofs.lemmas.List.Elements.{All-nil}
use Rattle.array_state.specs.raid_types_the_Shape.{Shape}
use Rattle.array_state.specs.raid_types_the_Who.{Who}
use Rattle.array_state.specs.raid_types_the_Fault.{Fault}
use Rattle.array_state.specs.raid_types_the_Fault_TheVariants.{NoMemory, Refused as IsRefusedWith}
use Rattle.array_state.specs.raid_types_the_Refusal.{Refusal}
use Rattle.array_state.specs.raid_types_Sectors.{IsWhole}
use Rattle.sb_election.specs.bank_Given.{Given}
use Rattle.sb_election.specs.bank_the_Operation.{Operation}
use Rattle.array_parts.specs.reshape_plan_Plans.{AreSound}
use Rattle.sb_election.specs.sb_specs_the_Members.{Members}
use Rattle.sb_election.specs.sb_specs_Reading.{shape_of, role_count}
use Rattle.sb_election.proofs.sb_specs_ValidFields.{few-roles}
use Rattle.array_parts.specs.history_the_Entry.{Entry}
use Rattle.array_parts.specs.history_the_Event.{Event}
use Rattle.array_parts.specs.history_the_Event_TheVariants.{Step}
use Rattle.array_parts.specs.history_the_StepKind.{StepKind}
use Rattle.array_parts.specs.history_Plain.{entries_of}
use Rattle.array_parts.specs.array_members_Moving.{IsMoved}
use Rattle.array_parts.specs.array_members_Placed.{IsPlaced}
use Rattle.array_parts.specs.array_members_Rebuilding.{Held}
use Rattle.array_parts.specs.array_members_Status.{stripes_of}
use Rattle.array_reshaping_laws.specs.crash_safety_laws_Steady.{AreUnlost}
use Rattle.array_parts.proofs.array_members_Fit.{short, disks-within, force-disks}
use Rattle.array_parts.proofs.array_members_MovedLaws.{grows-none, moved-same}
use Rattle.array_parts.proofs.array_members_Still.{count-still}
use Rattle.array_state.specs.history_append_Losing.{losses_of}
use Rattle.array_parts.specs.reshape_request_the_PhasesLeft.{PhasesLeft}
use Rattle.array_parts.specs.reshape_request_Left.{phases_of}
use Rattle.array_reshaping_laws.specs.array_call_specs_Calls.{IsBehind, IsBehindAll, IsLossBy, IsEndOf, AreLossesBy}
use Rattle.array_reshaping_laws.specs.array_fixed_invariant_Still.{AreAtRest}
use Rattle.array_reshaping_laws.specs.array_specs_Calls.{IsCalled}
use Rattle.array_reshaping_laws.specs.array_specs_Parts.{RunningParts}
use Rattle.array_reshaping_laws.specs.array_fixed_laws_Steps.{IsStepped}
use Rattle.array_reshaping_laws.proofs.array_specs_Called.{called}
use Rattle.array_reshaping_laws.proofs.array_fixed_laws_StepLaws.{stepped, shapes-same}

-- ---- roles

pub known-at : {given : Given} {m : Members} {shape : Shape} → IsPlaced given m → shape ≡ shape_of m.newest → shape.disks ≤ length m.roles
known-at {given = given} {m = m} {shape = shape} placed is = disks-within given m placed shape (inl is)

pub few-at : {given : Given} {m : Members} {shape : Shape} → IsPlaced given m → shape ≡ shape_of m.newest → shape.disks ≤ 32
few-at {m = m} {shape = shape} placed is = le_trans (force-disks m.newest placed.fit shape (inl is)) (le_trans (few-roles m.newest placed.fit.valid) (omega arith))

pub known-behind : {given : Given} {old new : Members} {shape : Shape} → IsMoved given old new → shape ≡ shape_of old.newest → shape.disks ≤ length new.roles
known-behind moved is = known-at moved.placed (is ∙ sym moved.shape)

pub role-at : {given : Given} {m : Members} {role : ℕ} → IsPlaced given m → role < role_count m.newest → role < length m.roles
role-at {role = role} placed lt = subst (λ (n : ℕ). role < n) (sym placed.roles) lt

pub role-of-shape : {given : Given} {m : Members} {shape : Shape} {role : ℕ} → AreAtRest given m → shape ≡ shape_of m.newest → role < role_count m.newest → role < shape.disks
role-of-shape {m = m} {role = role} here is lt = subst (λ (s : Shape). role < s.disks) (sym is) (subst (λ (n : ℕ). role < n) (count-still m.newest here.still) lt)

pub role-behind : {given : Given} {old new : Members} {role : ℕ} → AreAtRest given old → IsMoved given old new → role < role_count old.newest → role < length new.roles
role-behind here moved lt = le_trans (role-of-shape here refl lt) (known-behind moved refl)

-- ---- the phases ahead

pub sound-behind : {given : Given} {old new : Members} (ahead : PhasesLeft) → IsMoved given old new → AreSound (shape_of old.newest) old.newest.size (phases_of ahead) → AreSound (shape_of new.newest) new.newest.size (phases_of ahead)
sound-behind {old = old} {new = new} ahead moved sound =
    subst (λ (n : ℕ). AreSound (shape_of new.newest) n (phases_of ahead)) (sym moved.size)
    (subst (λ (s : Shape). AreSound s old.newest.size (phases_of ahead)) (sym moved.shape) sound)

-- ---- counts

pub next-stripe : {given : Given} {m : Members} {stripe : ℕ} → IsPlaced given m → stripe < stripes_of m → Fits w64 (stripe + 1)
next-stripe {given = given} {m = m} placed lt =
    let few : stripes_of m ≤ m.newest.size = div-le_self m.newest.size (shape_of m.newest).chunk in
    let rows = short given m placed in
    omega (arith, lt, few, rows)

pub step-taken : {was steps : ℕ} → was ≡ steps → 1 ≤ steps → was - 1 + 1 ≡ steps
step-taken same some = omega (arith, same, some)

pub room-for-step : {was steps room : ℕ} → was ≡ steps → 50 * was < room → 1 ≤ steps → 49 ≤ room
room-for-step same left some = omega (arith, same, left, some)

pub room-for-losses : {was steps room : ℕ} → was ≡ steps → 50 * was < room → 1 ≤ steps → 48 ≤ room
room-for-losses same left some = omega (arith, same, left, some)

-- what is left for the steps that follow
pub room-after : {steps room left : ℕ} → 50 * steps < room → 1 ≤ steps → room ≤ left + 49 → 50 * (steps - 1) < left
room-after most some less = omega (arith, most, some, less)

pub room-after-losses : {steps room left : ℕ} → 50 * steps < room → 1 ≤ steps → room ≤ left + 48 → 50 * (steps - 1) < left
room-after-losses most some less = omega (arith, most, some, less)

-- ---- the answer isn't want of memory

pub done-at-all : {T : Type 0} (x : T) → ◌≡◌ {A = Result T Fault} (Ok x) (Err NoMemory) → ⊥
done-at-all x is = cc

pub refused-at-all : {T : Type 0} (refusal : Refusal) → ◌≡◌ {A = Result T Fault} (Err (IsRefusedWith refusal)) (Err NoMemory) → ⊥
refused-at-all refusal is = cc

-- ---- what is entered

pub step-entered : {old mid new : List Entry} {n m : ℕ} (who : Who) (end roles spares : ℕ) (kind : StepKind) → mid ≡ old → n ≡ m
    → new ≡ mid ++ entries_of who end (losses_of roles spares ++ Step kind n ∷ []) → IsBehindAll who old new (Step kind m ∷ [])
step-entered {old = old} {new = new} {n = n} who end roles spares kind same left is = (
  roles,
  spares,
  end,
  subst (λ (k : ℕ). new ≡ old ++ entries_of who end (losses_of roles spares ++ Step kind k ∷ [])) left
      (subst (λ (l : List Entry). new ≡ l ++ entries_of who end (losses_of roles spares ++ Step kind n ∷ [])) same is),
)

pub one-entered : {old mid new : List Entry} (who : Who) (end roles spares : ℕ) (event : Event) → mid ≡ old
    → new ≡ mid ++ entries_of who end (losses_of roles spares ++ event ∷ []) → IsBehind who old new event
one-entered {new = new} who end roles spares event same is =
    record { roles = roles; spares = spares; end = end; is = subst (λ (l : List Entry). new ≡ l ++ entries_of who end (losses_of roles spares ++ event ∷ [])) same is }

-- ---- behind what was entered

pub number-behind : (old added : List Entry) {new : List Entry} {n : ℕ} → new ≡ old ++ added → n ≤ length old → n ≤ length new
number-behind old added {n = n} is few = subst (λ (l : List Entry). n ≤ length l) (sym is) (rw length-append (omega (arith, few)))

pub room-behind-step : {was steps room left : ℕ} → was ≡ steps → 50 * was < room → 1 ≤ steps → room ≤ left + 49 → 0 < left
room-behind-step same most some less = omega (arith, same, most, some, less)

pub step-behind : {old mid new : List Entry} {n m : ℕ} (who : Who) (end roles spares : ℕ) (kind : StepKind) → mid ≡ old → n ≡ m
    → new ≡ mid ++ entries_of who end (losses_of roles spares ++ Step kind n ∷ []) → IsBehind who old new (Step kind m)
step-behind {old = old} {new = new} {n = n} who end roles spares kind same left is =
    subst (λ (k : ℕ). IsBehind who old new (Step kind k)) left (one-entered who end roles spares (Step kind n) same is)

pub room-49 : {room : ℕ} → 50 ≤ room → 49 ≤ room
room-49 most = omega (arith, most)

pub room-1 : {room : ℕ} → 50 ≤ room → 0 < room
room-1 most = omega (arith, most)

-- so many roles as were counted before
pub same-known : {n a b c : ℕ} → n ≡ a → a ≡ c → b ≡ c → n ≤ b
same-known count was is = omega (arith, count, was, is)

-- ---- bytes

pub whole-alike : (a b : List ℕ) → length a ≡ length b → IsWhole b → IsWhole a
whole-alike a b len whole = subst (λ (n : ℕ). n ≡ 512 * (n / 512)) (sym len) whole

pub scratch-fits : {a b : List ℕ} → a ≡ b → 1048576 ≤ length b → 8192 ≤ length a
scratch-fits same fits = subst (λ (l : List ℕ). 8192 ≤ length l) (sym same) (le_trans (omega arith) fits)

-- ---- a call that did nothing

-- it has the same entries, in more room
pub entries-alike : {B : Type 0} {old now : RunningParts B} (entries : List Entry) → old ≡ now → entries ≡ old.parts.entries → record old { parts = record old.parts { entries = entries } } ≡ now
entries-alike {old = old} {now = now} entries same is = subst (λ (l : List Entry). record old { parts = record old.parts { entries = l } } ≡ now) (sym is) same

never-falls : (n : ℕ) → n ≤ n
never-falls n = omega arith

lost-none : {had : ℕ → ℕ → Type 0} {was : ℕ → Type 0} {faults : ℕ → ℕ} (entries : List Entry) → AreLossesBy had was faults faults entries entries
lost-none {had = had} {was = was} {faults = faults} entries = record { more = []; grown = sym (append-nil entries); failed = All-nil (λ e. IsLossBy had was faults faults e.event) }

pub undone-called : {B : Type 0} {tells : Type 0} {given : Given} {tape : List Operation} {faults : ℕ → ℕ} {old new : RunningParts B}
    → IsPlaced given old.parts.members → AreUnlost old.parts.members → IsEndOf tells old.parts.first old.parts.entries tape → (tells → old.parts.first ≤ length tape)
    → new ≡ old → IsCalled tells given tape tape faults faults old new
undone-called {B = B} {tells = tells} {given = given} {tape = tape} {faults = faults} {old = old} placed unlost ended begun same =
    subst (λ (p : RunningParts B). IsCalled tells given tape tape faults faults old p) (sym same)
    (called (grows-none (λ t. refl)) (moved-same given given old.parts.members old.parts.members refl refl placed unlost) ended (lost-none old.parts.entries) (λ slot. never-falls (faults slot))
    (record { uuid = refl; given = refl; first = refl; backup = refl; work = refl; ahead = refl; limit = refl }) begun)

pub undone-stepped : {B : Type 0} {tells : Type 0} {given : Given} {tape : List Operation} {faults : ℕ → ℕ} {old new : RunningParts B}
    → IsEndOf tells old.parts.first old.parts.entries tape → (tells → old.parts.first ≤ length tape) → new ≡ old → IsStepped tells given tape tape (Held old.parts.members) faults faults old new
undone-stepped {B = B} {tells = tells} {given = given} {tape = tape} {faults = faults} {old = old} ended begun same =
    subst (λ (p : RunningParts B). IsStepped tells given tape tape (Held old.parts.members) faults faults old p) (sym same)
    (stepped (grows-none (λ t. refl)) (shapes-same old.parts.members.newest) ended (λ role slot held. inl held) (lost-none old.parts.entries) (λ slot. never-falls (faults slot))
    (record { uuid = refl; given = refl; first = refl; backup = refl; ahead = refl; limit = refl }) begun)
