-- What is told of an array by its parts is told of the array.
use Rattle.std.proofs.Common.{◌≡◌, ℕ, ◌+◌, ◌-◌, ◌*◌, ◌<◌, ◌≤◌, List, sym, ◌∙◌, ap, subst, arith, inl, inr}
use Rattle.array_reshaping_steps.specs.raid_types_the_Refusal.{Refusal}
use Rattle.array_reshaping_steps.specs.raid_types_the_Who.{Who}
use Rattle.array_reshaping_steps.specs.raid_types_the_Shape.{Shape}
use Rattle.array_reshaping_steps.specs.bank_the_Operation.{Operation}
use Rattle.array_reshaping_steps.specs.bank_Given.{Given, NeverFalls}
use Rattle.array_reshaping_steps.specs.sb_specs_the_Members.{Members}
use Rattle.array_reshaping_steps.specs.array_members_Moving.{Grows}
use Rattle.array_reshaping_steps.specs.array_specs_Parts.{RunningParts}
use Rattle.array_transition.specs.Begun.{IsGivenBack, IsPlain, IsUnbegun}

-- ---- of arrays that are known by their parts

pub given-back : {B : Type 0} {tells : Type 0} (given : B → Given) (tape : B → List Operation) (later later' : List Operation) (who : Who) (refusal : Refusal) (old new old' : RunningParts B) → old ≡ old' → later ≡ later'
    → IsGivenBack tells (given old'.parts.bank) (tape old'.parts.bank) later' who refusal old' new → IsGivenBack tells (given old.parts.bank) (tape old.parts.bank) later who refusal old new
given-back {B} {tells} given tape later later' who refusal old new old' same tapes told =
    subst (λ (x : RunningParts B). IsGivenBack tells (given x.parts.bank) (tape x.parts.bank) later who refusal x new) (sym same)
    (subst (λ (t : List Operation). IsGivenBack tells (given old'.parts.bank) (tape old'.parts.bank) t who refusal old' new) (sym tapes) told)

pub still-given : {B : Type 0} (given : B → Given) (old old' : RunningParts B) (later : Given) → old ≡ old' → later ≡ given old'.parts.bank → later ≡ given old.parts.bank
still-given {B} given old old' later same told = told ∙ sym (ap (λ (x : RunningParts B). given x.parts.bank) same)

pub both-given : {B : Type 0} (given : B → Given) (old new old' new' : RunningParts B) → old ≡ old' → new ≡ new' → given new'.parts.bank ≡ given old'.parts.bank → given new.parts.bank ≡ given old.parts.bank
both-given {B} given old new old' new' old-is new-is told = ap (λ (x : RunningParts B). given x.parts.bank) new-is ∙ told ∙ sym (ap (λ (x : RunningParts B). given x.parts.bank) old-is)

pub both-grow : {B : Type 0} {tells : Type 0} (tape : B → List Operation) (old new old' new' : RunningParts B) → old ≡ old' → new ≡ new' → Grows tells (tape old'.parts.bank) (tape new'.parts.bank) → Grows tells (tape old.parts.bank) (tape new.parts.bank)
both-grow {B} {tells} tape old new old' new' old-is new-is told =
    subst (λ (x : RunningParts B). Grows tells (tape x.parts.bank) (tape new.parts.bank)) (sym old-is)
    (subst (λ (y : RunningParts B). Grows tells (tape old'.parts.bank) (tape y.parts.bank)) (sym new-is) told)

pub both-course : {B : Type 0} (old new old' new' : RunningParts B) → old ≡ old' → new ≡ new' → new'.course ≡ old'.course → new.course ≡ old.course
both-course {B} old new old' new' old-is new-is told = ap (λ (x : RunningParts B). x.course) new-is ∙ told ∙ sym (ap (λ (x : RunningParts B). x.course) old-is)

pub both-steps : {B : Type 0} (n : ℕ) (old new old' new' : RunningParts B) → old ≡ old' → new ≡ new' → new'.parts.steps ≡ old'.parts.steps - n → n ≤ old'.parts.steps → new.parts.steps + n ≡ old.parts.steps
both-steps {B} n old new old' new' old-is new-is told some =
    ap (λ (x : RunningParts B). x.parts.steps + n) new-is ∙ taken n old'.parts.steps new'.parts.steps told some ∙ sym (ap (λ (x : RunningParts B). x.parts.steps) old-is)
  where
    taken : (n before after : ℕ) → after ≡ before - n → n ≤ before → after + n ≡ before
    taken n before after is some = omega arith

-- ---- of one that is as it was

pub none-fall : {B : Type 0} (faults : B → ℕ → ℕ) (before after : B) → after ≡ before → NeverFalls (faults before) (faults after)
none-fall {B} faults before after same = subst (λ (b : B). NeverFalls (faults before) (faults b)) (sym same) (λ slot. omega arith)

-- ---- numbers

pub slot-below : (slot slots : ℕ) → slot < slots → slots ≤ 32 → slot < 32
slot-below slot slots known few = omega arith

pub room-for : (n steps room : ℕ) → 50 * steps < room → 1 ≤ steps → n ≤ 50 → n ≤ room
room-for n steps room left some few = omega arith

pub room-for-two : (n steps room : ℕ) → 50 * steps < room → 2 ≤ steps → n ≤ 100 → n ≤ room
room-for-two n steps room left some few = omega arith

pub has-one : (window sectors : ℕ) → 8 + window ≤ sectors → 1 ≤ sectors
has-one window sectors room = omega arith

-- ---- why a reshape doesn't begin

pub unbegun-plain : (members : Members) (to : Shape) (refusal : Refusal) → IsUnbegun members to refusal → IsPlain refusal
unbegun-plain members to refusal (inl degraded) = subst (λ (r : Refusal). IsPlain r) (sym degraded.2) tt
unbegun-plain members to refusal (inr needs) = subst (λ (r : Refusal). IsPlain r) (sym needs.2) tt
