-- What each step leaves that is done or refused, from what it did.
use Rattle.std.proofs.Common.{◌≡◌, ◌≢◌, inl, inr, ℕ, ◌+◌, ◌≤◌, Option, Some, None, List, [], ◌∷◌, ◌++◌, length, refl, sym, subst, arith, append-nil}
use Rattle.std.specs.List.{All}
use Rattle.std.specs.Prelude.{MatchOption, ⊤}
use Rattle.std.proofs.lemmas.List.Elements.{All-nil, All-cons, All-head, All-tail}
use Rattle.array_fixed_invariant.specs.bank_the_Operation.{Operation}
use Rattle.array_fixed_invariant.specs.bank_Given.{Given, NeverFalls}
use Rattle.array_fixed_invariant.specs.reshape_plan_Plans.{phases_steps}
use Rattle.array_specs.specs.raid_types_the_Refusal.{Refusal}
use Rattle.array_fixed_invariant.specs.raid_types_the_Who.{Who}
use Rattle.array_fixed_invariant.specs.sb_codec_the_Sb.{Sb}
use Rattle.array_fixed_invariant.specs.sb_specs_Reading.{Scope, is_backward, shape_of, final_shape}
use Rattle.array_fixed_invariant.specs.sb_specs_the_Members.{Members}
use Rattle.array_fixed_invariant.specs.history_the_Entry.{Entry}
use Rattle.array_fixed_invariant.specs.history_the_Event.{Event}
use Rattle.array_fixed_invariant.specs.history_the_Event_TheVariants.{Lost, Refused}
use Rattle.array_fixed_invariant.specs.history_the_LostCause_TheVariants.{Fault, Command}
use Rattle.array_fixed_invariant.specs.history_Plain.{entries_of}
use Rattle.array_fixed_invariant.specs.array_members_the_Work.{Work}
use Rattle.array_fixed_invariant.specs.array_members_Lacking.{AreLostSince, AreTooMany, HaveRolesFailed}
use Rattle.array_fixed_invariant.specs.array_members_Moving.{Grows, IsMoved}
use Rattle.array_fixed_invariant.specs.array_members_Placed.{IsPlaced}
use Rattle.array_fixed_invariant.specs.array_members_Status.{left_of}
use Rattle.array_fixed_invariant.specs.history_append_Losing.{losses_of}
use Rattle.array_fixed_invariant.specs.array_call_specs_Kept.{scope_in}
use Rattle.array_fixed_invariant.specs.array_call_specs_Calls.{IsLossBy, WasSpare, AreLossesBy, AreStepsFewer, AreStepsKept, IsEndOf, IsUnmendable}
use Rattle.array_fixed_invariant.proofs.array_call_specs_KeptLaws.{left-lost}
use Rattle.array_fixed_invariant.proofs.array_call_specs_ReadyLaws.{list-same}
use Rattle.array_fixed_invariant.proofs.array_call_specs_StepsLeft.{left-moved}
use Rattle.array_fixed_invariant.specs.reshape_request_the_PhasesLeft.{PhasesLeft}
use Rattle.array_fixed_invariant.specs.reshape_request_Left.{phases_of}
use Rattle.array_fixed_invariant.specs.history_invariant_Recorded.{IsCallGoing}
use Rattle.array_fixed_invariant.specs.history_invariant_Safe.{world_in}
use Rattle.array_fixed_invariant.specs.Still.{IsStill}
use Rattle.array_fixed_invariant.proofs.Refusals.{IsRefusedStill, too-many-refused, refused-right}
use Rattle.array_fixed_invariant.proofs.Resting.{resting-stands}
use Rattle.array_specs.specs.Parts.{RunningParts, still_left}
use Rattle.array_specs.proofs.Called.{not_254}
use Rattle.array_specs.proofs.Lengths.{IsLengthKept, behind-keeps}
use Rattle.array_fixed_invariant.proofs.array_call_specs_DegradedLaws.{within-count}
use Rattle.array_fixed_laws.specs.Steps.{IsStepped}

pub refused-of : (Why : Refusal → Type 0) (o : Option Refusal) (refusal : Refusal) → o ≡ Some refusal → MatchOption o ⊤ Why → Why refusal
refused-of Why o refusal is why = subst (λ (o : Option Refusal). MatchOption o ⊤ Why) is why

-- ---- the same array

-- the epoch goes on over the same bank, the same phases are ahead, and the limit is the same
pub record IsSameEpoch {B : Type 0} (old new : RunningParts B) : Type 0 where
  pub uuid : new.parts.uuid ≡ old.parts.uuid
  pub given : new.parts.given ≡ old.parts.given
  pub first : new.parts.first ≡ old.parts.first
  pub backup : new.parts.backup ≡ old.parts.backup
  pub ahead : new.ahead ≡ old.ahead
  pub limit : new.limit ≡ old.limit

-- the superblocks tell the same shapes over the same rows
pub record AreSameShapes (old new : Sb) : Type 0 where
  pub shape : shape_of new ≡ shape_of old
  pub final : final_shape new ≡ final_shape old
  pub backward : is_backward new ≡ is_backward old
  pub size : new.size ≡ old.size

pub shapes-same : (sb : Sb) → AreSameShapes sb sb
shapes-same sb = record { shape = refl; final = refl; backward = refl; size = refl }

pub shapes-moved : {given : Given} {old new : Members} → IsMoved given old new → AreSameShapes old.newest new.newest
shapes-moved moved = record {
  shape = moved.shape;
  final = moved.reshape.final;
  backward = moved.reshape.backward;
  size = moved.size;
}

-- as many steps of the phases ahead
pub planned-same : {old new : Sb} (ahead : PhasesLeft) → AreSameShapes old new → phases_steps (shape_of new) new.size (phases_of ahead) ≡ phases_steps (shape_of old) old.size (phases_of ahead)
planned-same ahead same i = phases_steps (same.shape i) (same.size i) (phases_of ahead)

pub stepped : {B : Type 0} {tells : Type 0} {given : Given} {tape tape' : List Operation} {Had : ℕ → ℕ → Type 0} {before after : ℕ → ℕ} {old new : RunningParts B}
    → Grows tells tape tape' → AreSameShapes old.parts.members.newest new.parts.members.newest → IsEndOf tells new.parts.first new.parts.entries tape'
    → HaveRolesFailed old.parts.members new.parts.members before after → AreLossesBy Had (WasSpare old.parts.members) before after old.parts.entries new.parts.entries → NeverFalls before after → IsSameEpoch old new
    → (tells → old.parts.first ≤ length tape) → IsStepped tells given tape tape' Had before after old new
stepped {given = given} {old = old} {new = new} grows shapes ended failed losses rises epoch begun = record {
  grows = grows;
  ended = ended;
  failed = failed;
  losses = losses;
  never_falls = rises;
  same = record {
    array = record {
      uuid = epoch.uuid;
      given = epoch.given;
      first = epoch.first;
      backup = epoch.backup;
      shape = shapes.shape;
      size = shapes.size;
      list = list-same given (scope_in given old.parts.uuid old.parts.given old.parts.backup) old.parts.first refl
          (λ i. scope_in given (epoch.uuid i) (epoch.given i) (epoch.backup i)) epoch.first grows begun;
    };
    final = shapes.final;
    backward = shapes.backward;
    ahead = epoch.ahead;
    limit = epoch.limit;
  };
}

-- ---- what a call enters

all-more : {P Q : Entry → Type 0} → ((e : Entry) → P e → Q e) → (xs : List Entry) → All P xs → All Q xs
all-more {Q = Q} more [] all = All-nil Q
all-more {P = P} {Q = Q} more (x ∷ xs) all = All-cons Q x xs (more x (All-head P x xs all)) (all-more more xs (All-tail P x xs all))

loss-more : {Had More : ℕ → ℕ → Type 0} (Was : ℕ → Type 0) → ((role slot : ℕ) → Had role slot → More role slot) → (before after : ℕ → ℕ) (event : Event) → IsLossBy Had Was before after event → IsLossBy More Was before after event
loss-more Was more before after (Lost role Fault) is = (is.0, more role is.0 is.1, is.2)
loss-more Was more before after (Lost role Command) is = (is.0, more role is.0 is.1)
loss-more Was more before after (Lost role cause) is = absurd is
loss-more Was more before after event is = is

-- more slots may have had the roles that were lost
pub stepped-more : {B : Type 0} {tells : Type 0} {given : Given} {tape tape' : List Operation} {Had More : ℕ → ℕ → Type 0} {before after : ℕ → ℕ} {old new : RunningParts B} → ((role slot : ℕ) → Had role slot → More role slot)
    → IsStepped tells given tape tape' Had before after old new → IsStepped tells given tape tape' More before after old new
stepped-more {before = before} {after = after} {old = old} more is = record {
  grows = is.grows;
  ended = is.ended;
  failed = is.failed;
  losses = record { more = is.losses.more; grown = is.losses.grown; failed = all-more (λ e. loss-more (WasSpare old.parts.members) more before after e.event) is.losses.more is.losses.failed };
  never_falls = is.never_falls;
  same = is.same;
}

-- losses alone leave the length of the list
pub losses-keep : (who : Who) (end roles spares : ℕ) → IsLengthKept (entries_of who end (losses_of roles spares))
losses-keep who end roles spares =
    subst (λ (l : List Event). IsLengthKept (entries_of who end l)) (append-nil (losses_of roles spares)) (behind-keeps who end roles spares [] (record { long = λ n. refl; free = λ limit. refl }))

-- ---- the steps that are left

-- with as many more behind them
pub fewer-more : {old new : List Entry} {left left' n m : ℕ} → m ≡ n → AreStepsFewer old new left left' → AreStepsFewer old new (left + n) (left' + m)
fewer-more same less = record {
  one = λ none. let is = less.one none in omega (arith, is, same);
  some = λ none. let is = less.some none in omega (arith, is, same);
}

pub kept-more : {old new : List Entry} {left left' n m : ℕ} → m ≡ n → AreStepsKept old new left left' → AreStepsKept old new (left + n) (left' + m)
kept-more same less = record {
  same = λ none. let is = less.same none in omega (arith, is, same);
  fewer = λ none. let is = less.fewer none in omega (arith, is, same);
}

sum-less : (left now then was p q : ℕ) → left ≡ now + p → now ≡ then → then + 1 ≡ was → p ≡ q → left + 1 ≡ was + q
sum-less left now then was p q told same one phases = omega (arith, told, same, one, phases)

-- or one fewer, where that is so by what is under way
pub left-falls : {given : Given} {old new : Members} {roles spares : ℕ} {before after : ℕ → ℕ} (next : Work) (ahead : PhasesLeft) (was left : ℕ) → IsMoved given old new → AreLostSince old new roles spares before after
    → left_of next old + 1 ≡ was → left ≡ still_left next new ahead → losses_of roles spares ≡ [] → left + 1 ≡ was + phases_steps (shape_of old.newest) old.newest.size (phases_of ahead)
left-falls {old = old} {new = new} {roles = roles} {spares = spares} {before = before} {after = after} next ahead was left moved since one told none =
    sum-less left (left_of next new) (left_of next old) was (phases_steps (shape_of new.newest) new.newest.size (phases_of ahead)) (phases_steps (shape_of old.newest) old.newest.size (phases_of ahead))
    told (left-moved moved next roles spares before after since none) one (planned-same ahead (shapes-moved moved))

-- ---- a refusal before anything is done

-- why a step is refused, by what is under way
pub step-refused : (given : Given) (m : Members) → IsPlaced given m → (refusal : Refusal) (resync : Option ℕ) → IsUnmendable m refusal → (resync ≡ None → AreTooMany m refusal) → IsRefusedStill resync m refusal
step-refused given m placed refusal None why many = too-many-refused None m refusal (many refl)
step-refused given m placed refusal (Some mended) (inl why) many = too-many-refused (Some mended) m refusal why
step-refused given m placed refusal (Some mended) (inr lacked) many = subst (IsRefusedStill (Some mended) m) (sym lacked.1) (refl, within-count given m placed lacked.0 lacked.4.0, lacked.3)

pub refused-going : {tells : Type 0} {given : Given} {tape : List Operation} {scope : Scope} {first : ℕ} {entries : List Entry} {m : Members} {work : Work} {left : ℕ} (who : Who) (end : ℕ) (refusal : Refusal)
    → IsStill tells given tape scope first entries m work left → IsCallGoing entries who → who.caller ≢ 254 → (tells → end ≡ length tape) → IsRefusedStill work.resync m refusal
    → IsStill tells given tape scope first (entries ++ entries_of who end (Refused refusal ∷ [])) m work left
refused-going {tells = tells} {given = given} {tape = tape} {scope = scope} {first = first} {entries = entries} {m = m} {work = work} {left = left} who end refusal was goes caller at_end why =
    resting-stands tells given tape scope first entries m work left left who end (Refused refusal) was goes (not_254 who.caller caller) at_end
    (record { adds = refl; gives = refl; still = λ x values. refl; level = λ n. refl }) (inl refl)
    (left-lost left left entries who end [] (Refused refusal ∷ []) tt (λ none. refl) was.left_told (λ told is. is))
    (λ t right. refused-right (world_in given tape scope first) entries given m was.members_are.placed work.resync (was.gone t right) (was.levelled t right) (was.pending t) refusal why)
