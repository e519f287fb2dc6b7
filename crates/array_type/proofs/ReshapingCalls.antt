-- What the answers of several calls share: of a call that did nothing, and of the room for its entries.
use Rattle.std.proofs.Common.{inl, ◌≡◌, ◌⊎◌, ℕ, ◌+◌, ◌-◌, ◌*◌, ◌/◌, ◌<◌, ◌≤◌, Option, Some, None, Result, Ok, Err, Bool, List, [], ◌∷◌, ◌++◌, length, length-append, max, refl, sym, ◌∙◌, ap, subst, arith, append-nil}
use Rattle.std.specs.Prelude.{MatchOption, OnErr}
use Rattle.std.proofs.lemmas.List.Elements.{All-nil}
use Rattle.array_state.specs.raid_types_the_Fault.{Fault}
use Rattle.array_state.specs.raid_types_the_Fault_TheVariants.{Refused as IsRefusedWith}
use Rattle.array_state.specs.raid_types_Sectors.{IsWhole}
use Rattle.array_state.specs.raid_types_the_Refusal.{Refusal}
use Rattle.array_state.specs.raid_types_the_Shape.{Shape}
use Rattle.array_state.specs.raid_types_the_Span.{Span}
use Rattle.sb_election.specs.sb_codec_the_Sb.{Sb}
use Rattle.sb_election.specs.reshape_geometry_Geometry.{zeroed_stripes}
use Rattle.sb_election.specs.sb_specs_the_Members.{Members}
use Rattle.sb_election.specs.sb_specs_Reading.{final_shape, list_length, role_count}
use Rattle.array_state.specs.raid_types_the_Phase.{Phase}
use Rattle.array_parts.specs.reshape_plan_Plans.{AreSound}
use Rattle.array_state.specs.raid_types_the_Who.{Who}
use Rattle.array_parts.specs.history_the_Entry.{Entry}
use Rattle.array_parts.specs.history_the_StepKind.{StepKind}
use Rattle.array_parts.specs.history_the_Event_TheVariants.{Step}
use Rattle.array_parts.specs.history_Plain.{entries_of}
use Rattle.array_state.specs.history_append_Losing.{losses_of}
use Rattle.array_parts.specs.reshape_request_the_Window_TheVariants.{Closed, Entered, Unsure}
use Rattle.array_parts.specs.reshape_request_Left.{zeroed_by}
use Rattle.array_reshaping_laws.specs.crash_views_Windows.{moved_past}
use Rattle.sb_election.specs.bank_the_Operation.{Operation}
use Rattle.sb_election.specs.bank_Given.{Given, NeverFalls}
use Rattle.array_parts.specs.array_members_the_Work.{Work}
use Rattle.array_parts.specs.array_members_Placed.{IsPlaced}
use Rattle.array_parts.specs.array_members_Moving.{IsMoved}
use Rattle.array_parts.specs.array_members_Lacking.{AreTooMany}
use Rattle.array_parts.specs.array_members_Rebuilding.{Held}
use Rattle.array_parts.proofs.array_members_MovedLaws.{grows-none, moved-same}
use Rattle.array_reshaping_laws.specs.crash_safety_laws_Steady.{AreUnlost}
use Rattle.array_reshaping_laws.specs.array_call_specs_Calls.{by_answer, IsLossBy, WasSpare, IsEndOf, IsRefusedFor, IsBehind}
use Rattle.array_reshaping_laws.proofs.array_call_specs_ReplyLaws.{too-many-of, refused-for}
use Rattle.array_reshaping_laws.specs.array_specs_Parts.{RunningParts}
use Rattle.array_reshaping_laws.specs.array_specs_Calls.{IsCalled, IsCopyDue, IsRecordDue, IsZeroDue}
use Rattle.array_reshaping_laws.specs.array_reshaping_state_Due.{IsDue}
use Rattle.array_reshaping_laws.specs.array_reshaping_state_the_Due_TheVariants.{Copy, Record, Zero}
use Rattle.array_reshaping_laws.specs.Mending.{IsResyncCalled}
use Rattle.array_reshaping_laws.proofs.array_specs_Called.{called}
use Rattle.array_reshaping_laws.proofs.Kept.{AreSameShapes}

-- nothing was done
pub still-called : {B tells : Type 0} {given : Given} {tape : List Operation} {faults : ℕ → ℕ} (array : RunningParts B)
    → IsPlaced given array.parts.members → AreUnlost array.parts.members → IsEndOf tells array.parts.first array.parts.entries tape → (tells → array.parts.first ≤ length tape)
    → IsCalled tells given tape tape faults faults array array
still-called {given = given} {faults = faults} array placed unlost ended begun =
    called (grows-none (λ t. refl)) (moved-same given given array.parts.members array.parts.members refl refl placed unlost) ended
    (record { more = []; grown = sym (append-nil array.parts.entries); failed = All-nil (λ e. IsLossBy (Held array.parts.members) (WasSpare array.parts.members) faults faults e.event) })
    (λ slot. omega arith)
    (record { uuid = refl; given = refl; first = refl; backup = refl; work = refl; ahead = refl; limit = refl })
    begun

-- there is room for an entry
pub one-of-51 : {room : ℕ} → 51 ≤ room → 0 < room
one-of-51 more = omega (arith, more)

-- so many bytes are whole sectors
pub whole-as : (a b : List ℕ) → length a ≡ length b → IsWhole b → IsWhole a
whole-as a b same whole = same ∙ whole ∙ ap (λ (n : ℕ). 512 * (n / 512)) (sym same)

-- what isn't none is some
pub some-of : (n : ℕ) → (n ≡ 0 → ⊥) → 0 < n
some-of n more = omega (arith, more)

-- ---- a step

-- what a stripe that is due, a window, or a stripe behind the list tells of the array
pub copy-due : {B : Type 0} (array : RunningParts B) (resync : Option ℕ) → IsDue array.parts.members.newest array.course resync Copy → IsCopyDue array
copy-due array resync due = record { span = due.0; copied = due.1; sectioned = due.2; is = due.3; more = due.5 }

pub record-due : {B : Type 0} (array : RunningParts B) (resync : Option ℕ) → IsDue array.parts.members.newest array.course resync Record → IsRecordDue array
record-due array resync due = record { span = due.0; sectioned = due.1; is = due.2 }

pub zero-due : {B : Type 0} (array : RunningParts B) (resync : Option ℕ) → IsDue array.parts.members.newest array.course resync Zero → IsZeroDue array
zero-due array resync due = record { zeroed = array.course.zeroed; is = due.0; through = due.2.none; more = due.1 }

-- a step that leaves the resync leaves the work
pub work-same : {T : Type 0} (result : Result T Fault) (old : Work) (behind : Option ℕ) → old.resync ≡ behind → old ≡ record old { resync = by_answer result behind old.resync }
work-same (Ok x) old behind same = λ i. record old { resync = same i }
work-same (Err fault) old behind same = refl

-- and what it leaves of the rest is as with each call
pub step-called : {B tells : Type 0} {given : Given} {tape tape' : List Operation} {before after : ℕ → ℕ} {old new : RunningParts B} → IsCalled tells given tape tape' before after old new → IsResyncCalled tells given tape tape' before after old new
step-called did = record {
  grows = did.grows;
  ended = did.ended;
  held = did.held;
  spares = did.spares;
  losses = did.losses;
  never_falls = did.never_falls;
  work = refl;
  same = record {
    array = record {
      uuid = did.same.array.uuid;
      given = did.same.array.given;
      first = did.same.array.first;
      backup = did.same.array.backup;
      shape = did.same.array.shape;
      size = did.same.array.size;
      list = did.same.array.list;
    };
    final = did.same.final;
    backward = did.same.backward;
    ahead = did.same.ahead;
    limit = did.same.limit;
  };
}

-- where it is refused, either is so
pub err-either : {T : Type 0} (result : Result T Fault) (P Q : Type 0) → OnErr result P → OnErr result (P ⊎ Q)
err-either (Ok x) P Q is = tt
err-either (Err fault) P Q is = inl is

pub err-first : {T : Type 0} (result : Result T Fault) (P Q : Type 0) → P → OnErr result (P ⊎ Q)
err-first (Ok x) P Q is = tt
err-first (Err fault) P Q is = inl is

-- ---- what a step needs, and what refuses it before anything is done

-- it has room for its entries
pub room-49 : (steps room : ℕ) → 1 ≤ steps → 50 * steps < room → 49 ≤ room
room-49 steps room some fits = omega (arith, some, fits)

pub room-50 : (steps room : ℕ) → 1 ≤ steps → 50 * steps < room → 50 ≤ room
room-50 steps room some fits = omega (arith, some, fits)

-- it takes one of the steps that there is room for
pub one-less : (steps : ℕ) → 1 ≤ steps → (steps - 1) + 1 ≡ steps
one-less steps some = omega (arith, some)

-- too many roles are missing
pub many-refused : (m : Members) (refusal : Refusal) → AreTooMany m refusal → IsRefusedFor (list_length m.newest) 0 AreTooMany m m refusal
many-refused m refusal many = refused-for (list_length m.newest) 0 AreTooMany m m refusal (too-many-of m refusal many) (omega arith) many

-- ---- members that lost slots

-- they have as many roles
pub known-moved : {given : Given} {old new : Members} (count : ℕ) → IsMoved given old new → count ≡ length old.roles → length old.roles ≡ role_count old.newest → count ≤ length new.roles
known-moved {old = old} {new = new} count moved is roles =
    let same : length new.roles ≡ length old.roles = moved.placed.roles ∙ (λ i. max (moved.shape i).disks (moved.reshape.final i).disks) ∙ sym roles in
    omega (arith, same, is)

-- and as many stripes behind the list
pub zeroed-moved : {given : Given} {old new : Members} (cleared : ℕ) → IsMoved given old new → cleared ≤ zeroed_by old.newest → cleared ≤ zeroed_by new.newest
zeroed-moved {old = old} {new = new} cleared moved few =
    let same : zeroed_by new.newest ≡ zeroed_by old.newest = λ i. zeroed_stripes (moved.shape i) (moved.reshape.final i) (moved.size i) (moved.reshape.backward i) in
    omega (arith, few, same)

-- the phases ahead of them are as sound
pub sound-same : {old new : Sb} (phases : List Phase) → AreSameShapes old new → AreSound (final_shape old) old.size phases → AreSound (final_shape new) new.size phases
sound-same {old = old} {new = new} phases same sound =
    subst (λ (s : Shape). AreSound s new.size phases) (sym same.final) (subst (λ (n : ℕ). AreSound (final_shape old) n phases) (sym same.size) sound)

-- ---- more of a call

-- as many are known
pub le-same : (m n : ℕ) → m ≡ n → m ≤ n
le-same m n same = omega (arith, same)

-- what fits the entries fits more of them
pub fits-longer : {n : ℕ} (old new more : List Entry) → n ≤ length old → new ≡ old ++ more → n ≤ length new
fits-longer old new more fits is =
    let long = ap (λ (l : List Entry). length l) is ∙ length-append old more in
    omega (arith, fits, long)

-- a window that was finished, or not, leaves as many roles
pub known-finished : (given : Given) (span : Span) (old new : Members) (count : ℕ) (o : Option Refusal) → MatchOption o (IsMoved given (moved_past span old) new) (λ refusal. IsMoved given old new)
    → count ≡ length old.roles → length old.roles ≡ role_count old.newest → count ≤ length new.roles
known-finished given span old new count None moved is roles = known-moved {old = moved_past span old} count moved is roles
known-finished given span old new count (Some refusal) moved is roles = known-moved count moved is roles

-- nothing falls that stays
pub never-falls : (faults : ℕ → ℕ) → NeverFalls faults faults
never-falls faults = λ slot. omega arith

-- the room that is left behind an entry, behind those of losses, and behind those of a write
pub room-after-1 : (steps room left : ℕ) → 50 * steps < room → room ≤ left + 1 → 1 ≤ steps → 50 * (steps - 1) < left
room-after-1 steps room left fits taken some = omega (arith, fits, taken, some)

pub room-after-49 : (steps room left : ℕ) → 50 * steps < room → room ≤ left + 49 → 1 ≤ steps → 50 * (steps - 1) < left
room-after-49 steps room left fits taken some = omega (arith, fits, taken, some)

pub room-after-50 : (steps room left : ℕ) → 50 * steps < room → room ≤ left + 50 → 1 ≤ steps → 50 * (steps - 1) < left
room-after-50 steps room left fits taken some = omega (arith, fits, taken, some)

-- a window that is entered, or none, isn't unsure
pub entered-sure : {P : Type 0} (of span : Span) (copied : ℕ) (sectioned : Bool) → Entered of copied sectioned ≡ Unsure span → P
entered-sure of span copied sectioned same = absurd (cc)

pub closed-sure : {P : Type 0} (span : Span) → Closed ≡ Unsure span → P
closed-sure span same = absurd (cc)

-- a step was entered behind what it lost
pub step-entered : {who : Who} {before old new : List Entry} {kind : StepKind} {left told : ℕ} (roles spares end : ℕ) → new ≡ before ++ entries_of who end (losses_of roles spares ++ Step kind told ∷ []) → told ≡ left → before ≡ old
    → IsBehind who old new (Step kind left)
step-entered {who = who} {before = before} {kind = kind} {left = left} roles spares end is same from = record {
  roles = roles;
  spares = spares;
  end = end;
  is = is ∙ ap (λ (n : ℕ). before ++ entries_of who end (losses_of roles spares ++ Step kind n ∷ [])) same ∙ ap (λ (l : List Entry). l ++ entries_of who end (losses_of roles spares ++ Step kind left ∷ [])) from;
}

-- the scratch of a call is wide enough
pub scratch-of : (long whole : List ℕ) → long ≡ whole → 1048576 ≤ length whole → 8192 ≤ length long
scratch-of long whole same fits = let e = ap (λ (l : List ℕ). length l) same in omega (arith, e, fits)

pub within-same : (n most : ℕ) (l m : List ℕ) → n ≤ most → most ≡ length m → l ≡ m → n ≤ length l
within-same n most l m few long same = let e = ap (λ (l : List ℕ). length l) same in omega (arith, few, long, e)

pub zero-le : (n : ℕ) → 0 ≤ n
zero-le n = omega arith

-- what was called of the array as it is inside was called of it as it is seen
pub called-over : {B tells : Type 0} {inside now new : RunningParts B} {tape' : List Operation} {after : ℕ → ℕ} (given : B → Given) (tape : B → List Operation) (faults : B → ℕ → ℕ) → inside ≡ now
    → IsCalled tells (given inside.parts.bank) (tape inside.parts.bank) tape' (faults inside.parts.bank) after inside new → IsCalled tells (given now.parts.bank) (tape now.parts.bank) tape' (faults now.parts.bank) after now new
called-over {tells = tells} {new = new} {tape' = tape'} {after = after} given tape faults same did =
    subst (λ p. IsCalled tells (given p.parts.bank) (tape p.parts.bank) tape' (faults p.parts.bank) after p new) same did

pub two-of-101 : {room : ℕ} → 101 ≤ room → 50 * 2 < room
two-of-101 more = omega (arith, more)

pub one-of-2 : {room : ℕ} → 2 ≤ room → 0 < room
one-of-2 more = omega (arith, more)

-- it was refused so
pub refused-same : {T : Type 0} (a b : Refusal) → ◌≡◌ {A = Result T Fault} (Err (IsRefusedWith a)) (Err (IsRefusedWith b)) → a ≡ b
refused-same a b same = cc
