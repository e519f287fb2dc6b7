-- What a running array keeps over a call after which a reshape is active as before, or none.
use Rattle.std.proofs.Common.{◌≡◌, ℕ, true, false, List, Result, Ok, Err, OnOk, OnErr, sym, ◌∙◌, ap}
use Rattle.array_grow.specs.raid_types_the_Fault.{Fault}
use Rattle.array_grow.specs.bank_Given.{Given}
use Rattle.array_grow.specs.bank_the_Operation.{Operation}
use Rattle.array_takeover.specs.sb_specs_Reading.{is_reshaping}
use Rattle.array_takeover.specs.history_World.{World}
use Rattle.array_grow.specs.array_members_Placed.{AreWhole}
use Rattle.array_grow.specs.array_call_specs_Calls.{IsAddedFor}
use Rattle.array_grow.specs.array_specs_Adding.{IsAddCalled}
use Rattle.array_grow.specs.array_specs_Parts.{RunningParts}
use Rattle.array_grow.specs.array_specs_Calls.{IsCalled, IsSameReshape}
use Rattle.array_grow.proofs.array_fixed_laws_PlansKept.{AddNoPlan}
pub use Rattle.array_grow.proofs.array_type_Rest.{on-both}
use Rattle.array.specs.State.{IsStillNow, IsWithin, IsAtRest, IsInReshape, IsAsTold}
use Rattle.array.proofs.Kept.{rest-called, reshape-called, rest-alone, reshape-alone, rest-added, reshape-added, rest-looked, reshape-looked, roomy-rest, roomy-reshape}

module _ {B : Type 0} {tells : Type 0} (given : B → Given) (tape : B → List Operation) (window : ℕ) (array : RunningParts B) where
  -- in one of the states
  pub kept-at-rest : IsAtRest tells (given array.parts.bank) (tape array.parts.bank) window array → IsAsTold tells given tape window array
  kept-at-rest is = record { moves = λ active. absurd (let e = is.now.still in let f = active in cc); rests = λ still. is }

  pub kept-in-reshape : IsInReshape tells (given array.parts.bank) (tape array.parts.bank) array → IsAsTold tells given tape window array
  kept-in-reshape is = record { moves = λ active. is; rests = λ still. absurd (let e = is.active in let f = still in cc) }

  -- what both say
  pub within-both : IsAsTold tells given tape window array → IsWithin tells (given array.parts.bank) (tape array.parts.bank) array
  within-both was = on-both (is_reshaping array.parts.members.newest) (λ active. (was.moves active).within) (λ still. (was.rests still).within)

module _ {B : Type 0} {tells : Type 0} (given : B → Given) (tape : B → List Operation) (window : ℕ) (old new : RunningParts B) (same : is_reshaping new.parts.members.newest ≡ is_reshaping old.parts.members.newest) where
  both-kept : (is_reshaping old.parts.members.newest ≡ true → is_reshaping new.parts.members.newest ≡ true → IsInReshape tells (given old.parts.bank) (tape old.parts.bank) old → IsInReshape tells (given new.parts.bank) (tape new.parts.bank) new)
      → (is_reshaping old.parts.members.newest ≡ false → is_reshaping new.parts.members.newest ≡ false → IsAtRest tells (given old.parts.bank) (tape old.parts.bank) window old → IsAtRest tells (given new.parts.bank) (tape new.parts.bank) window new)
      → IsAsTold tells given tape window old → IsAsTold tells given tape window new
  both-kept moving rest was = record {
    moves = λ active. let before = sym same ∙ active in moving before active (was.moves before);
    rests = λ still. let before = sym same ∙ still in rest before still (was.rests before);
  }

  -- by which slots may be lost
  pub both-called : given new.parts.bank ≡ given old.parts.bank → AddNoPlan old.parts.entries new.parts.entries → {f g : ℕ → ℕ} → IsCalled tells (given old.parts.bank) (tape old.parts.bank) (tape new.parts.bank) f g old new
      → (is_reshaping old.parts.members.newest ≡ false → AreWhole new.parts.members → AreWhole old.parts.members)
      → (is_reshaping new.parts.members.newest ≡ false → IsStillNow new) → IsWithin tells (given new.parts.bank) (tape new.parts.bank) new → IsAsTold tells given tape window old → IsAsTold tells given tape window new
  both-called given_is added did whole now within = both-kept (λ before active. reshape-called given tape window old new given_is added did active within)
      (λ before still. rest-called given tape window old new given_is added did (whole before) (now still) within)

  -- by which nothing is done on the bank, and the members are the same
  pub both-alone : AddNoPlan old.parts.entries new.parts.entries → {before after : World} → new.parts.bank ≡ old.parts.bank → IsSameReshape tells old new before after → new.parts.members ≡ old.parts.members → new.parts.work ≡ old.parts.work
      → (is_reshaping new.parts.members.newest ≡ false → IsStillNow new) → IsWithin tells (given new.parts.bank) (tape new.parts.bank) new → IsAsTold tells given tape window old → IsAsTold tells given tape window new
  both-alone added bank alike members work now within = both-kept (λ before active. reshape-alone given tape window old new (ap given bank) added bank alike active within)
      (λ before still. rest-alone given tape window old new (ap given bank) added bank alike members work (now still) within)

  -- by which a slot may be made a spare
  pub both-added : given new.parts.bank ≡ given old.parts.bank → AddNoPlan old.parts.entries new.parts.entries → {slot : ℕ} {f g : ℕ → ℕ} → IsAddCalled tells (given old.parts.bank) (tape old.parts.bank) (tape new.parts.bank) f g slot old new
      → {T : Type 0} (result : Result T Fault) → IsAddedFor (given old.parts.bank) old.parts.backup slot old.parts.members new.parts.members f g result → (AreWhole new.parts.members → AreWhole old.parts.members)
      → (is_reshaping new.parts.members.newest ≡ false → IsStillNow new) → IsWithin tells (given new.parts.bank) (tape new.parts.bank) new → IsAsTold tells given tape window old → IsAsTold tells given tape window new
  both-added given_is added did result caused whole now within = both-kept (λ before active. reshape-added given tape window old new given_is added did active within)
      (λ before still. rest-added given tape window old new given_is added did result caused whole (now still) within)

  -- by which the bank alone may be another
  pub both-looked : given new.parts.bank ≡ given old.parts.bank → (tells → tape new.parts.bank ≡ tape old.parts.bank) → new ≡ record old { parts = record old.parts { bank = new.parts.bank } }
      → (is_reshaping new.parts.members.newest ≡ false → IsStillNow new) → IsWithin tells (given new.parts.bank) (tape new.parts.bank) new → IsAsTold tells given tape window old → IsAsTold tells given tape window new
  both-looked given_is tape_is else_same now within = both-kept (λ before active. reshape-looked given tape window old new given_is tape_is else_same active within)
      (λ before still. rest-looked given tape window old new given_is tape_is else_same (now still) within)

-- by which room is made, where memory isn't short
pub both-roomy : {B : Type 0} {tells : Type 0} (given : B → Given) (tape : B → List Operation) (window n : ℕ) (old new : RunningParts B) {T E : Type 0} (result : Result T E)
    → OnOk result (new ≡ record old { parts = record old.parts { steps = n } }) → OnErr result (new ≡ old) → IsAsTold tells given tape window old → IsAsTold tells given tape window new
both-roomy {tells = tells} given tape window n old new result room unchanged = both-kept {tells = tells} given tape window old new (same result room unchanged)
    (λ before active was. roomy-reshape given tape window n old new result room unchanged was) (λ before still was. roomy-rest given tape window n old new result room unchanged was)
  where
    same : {T E : Type 0} (result : Result T E) → OnOk result (new ≡ record old { parts = record old.parts { steps = n } }) → OnErr result (new ≡ old) → is_reshaping new.parts.members.newest ≡ is_reshaping old.parts.members.newest
    same (Ok x) room unchanged = ap (λ p. is_reshaping p.parts.members.newest) room
    same (Err x) room unchanged = ap (λ p. is_reshaping p.parts.members.newest) unchanged
