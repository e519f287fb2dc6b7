-- What is told of an array by its parts is told of the array, and of one that is as it was.
use Rattle.std.proofs.Common.{◌≡◌, true, false, Bool, ℕ, ◌<◌, ◌≤◌, Some, List, refl, sym, ◌∙◌, ap, subst, arith}
use Rattle.std.specs.Prelude.{IfSome}
use Rattle.array_reply_specs.specs.raid_types_the_Who.{Who}
use Rattle.array_reply_specs.specs.raid_types_the_Wish.{Wish}
use Rattle.array_reply_specs.specs.bank_the_Operation.{Operation}
use Rattle.array_reply_specs.specs.bank_Given.{Given}
use Rattle.array_reply_specs.specs.history_the_Event.{Event}
use Rattle.array_reply_specs.specs.history_Flat.{next_number}
use Rattle.array_transition.specs.array_specs_Parts.{RunningParts}
use Rattle.array_transition.specs.array_specs_Calls.{moving_world}
use Rattle.array_grow.specs.Planned.{asked_in, IsAsBefore, IsGrowReply}
use Rattle.array_grow.specs.Plans.{IsAside}
use Rattle.array_grow.proofs.Told.{reply-as}

-- ---- of the backup

pub backs-as : {B : Type 0} (old old' : RunningParts B) → old ≡ old' → IfSome old'.parts.backup (λ slot. IsAside old'.parts.given old'.parts.members slot) → IfSome old.parts.backup (λ slot. IsAside old.parts.given old.parts.members slot)
backs-as {B} old old' same = subst (λ (x : RunningParts B). IfSome x.parts.backup (λ slot. IsAside x.parts.given x.parts.members slot)) (sym same)

pub none-backs-as : {B : Type 0} (old old' : RunningParts B) → old ≡ old' → (slot : ℕ) × (old'.parts.backup ≡ Some slot) × (slot < 32 → IsAside old'.parts.given old'.parts.members slot → ⊥)
    → (slot : ℕ) × (old.parts.backup ≡ Some slot) × (slot < 32 → IsAside old.parts.given old.parts.members slot → ⊥)
none-backs-as {B} old old' same = subst (λ (x : RunningParts B). (slot : ℕ) × (x.parts.backup ≡ Some slot) × (slot < 32 → IsAside x.parts.given x.parts.members slot → ⊥)) (sym same)

pub never-both : (b : Bool) → b ≡ true → b ≡ false → ⊥
never-both b on off = let both : true ≡ false = sym on ∙ off in cc

-- ---- of two arrays

pub before-as : {B : Type 0} (old new old' new' : RunningParts B) → old ≡ old' → new ≡ new' → IsAsBefore old' new' → IsAsBefore old new
before-as {B} old new old' new' old-is new-is told = subst (λ (x : RunningParts B). IsAsBefore x new) (sym old-is) (subst (λ (y : RunningParts B). IsAsBefore old' y) (sym new-is) told)

pub both-limit : {B : Type 0} (old new old' new' : RunningParts B) → old ≡ old' → new ≡ new' → new'.limit ≡ old'.limit → new.limit ≡ old.limit
both-limit {B} old new old' new' old-is new-is told = ap (λ (x : RunningParts B). x.limit) new-is ∙ told ∙ sym (ap (λ (x : RunningParts B). x.limit) old-is)

pub both-ahead : {B : Type 0} (old new old' new' : RunningParts B) → old ≡ old' → new ≡ new' → new'.ahead ≡ old'.ahead → new.ahead ≡ old.ahead
both-ahead {B} old new old' new' old-is new-is told = ap (λ (x : RunningParts B). x.ahead) new-is ∙ told ∙ sym (ap (λ (x : RunningParts B). x.ahead) old-is)

-- ---- of an array that has got room for steps

pub before-room : {B : Type 0} (steps : ℕ) (old mid self new : RunningParts B) → mid ≡ old → self ≡ record mid { parts = record mid.parts { steps = steps } } → IsAsBefore self new → IsAsBefore old new
before-room {B} steps old mid self new same room told =
    let was : IsAsBefore (record mid { parts = record mid.parts { steps = steps } }) new = subst (λ (x : RunningParts B). IsAsBefore x new) room told in
    let here : IsAsBefore mid new = record { bank = was.bank; uuid = was.uuid; given = was.given; first = was.first; backup = was.backup; members = was.members; work = was.work; course = was.course } in
    subst (λ (x : RunningParts B). IsAsBefore x new) same here

pub reply-room : {B : Type 0} {tells : Type 0} (given : B → Given) (tape : B → List Operation) (wish : Wish) (who : Who) (event : Event) (steps : ℕ) (old mid self new : RunningParts B)
    → mid ≡ old → self ≡ record mid { parts = record mid.parts { steps = steps } }
    → IsGrowReply tells (moving_world (given self.parts.bank) (tape self.parts.bank) self) (asked_in (given self.parts.bank) self) wish who self.parts.entries new.parts.entries event
    → IsGrowReply tells (moving_world (given old.parts.bank) (tape old.parts.bank) old) (asked_in (given old.parts.bank) old) wish who old.parts.entries new.parts.entries event
reply-room {B} {tells} given tape wish who event steps old mid self new same room told =
    subst (λ (x : RunningParts B). IsGrowReply tells (moving_world (given x.parts.bank) (tape x.parts.bank) x) (asked_in (given x.parts.bank) x) wish who x.parts.entries new.parts.entries event) same
    (reply-as given tape wish who event (record mid { parts = record mid.parts { steps = steps } }) new self new (sym room) refl told)

pub number-room : {B : Type 0} (who : Who) (steps : ℕ) (old mid self : RunningParts B) → mid ≡ old → self ≡ record mid { parts = record mid.parts { steps = steps } } → who.number ≡ next_number who.caller old.parts.entries
    → who.number ≡ next_number who.caller self.parts.entries
number-room {B} who steps old mid self same room told =
    told ∙ sym (ap (λ (x : RunningParts B). next_number who.caller x.parts.entries) same) ∙ sym (ap (λ (x : RunningParts B). next_number who.caller x.parts.entries) room)

pub one-step : {B : Type 0} (mid self : RunningParts B) → self ≡ record mid { parts = record mid.parts { steps = 1 } } → 1 ≤ self.parts.steps
one-step {B} mid self room = subst (λ (n : ℕ). 1 ≤ n) (sym (ap (λ (x : RunningParts B). x.parts.steps) room)) (omega arith)

pub limit-room : {B : Type 0} (steps : ℕ) (old mid self new : RunningParts B) → mid ≡ old → self ≡ record mid { parts = record mid.parts { steps = steps } } → new.limit ≡ self.limit → new.limit ≡ old.limit
limit-room {B} steps old mid self new same room told = told ∙ ap (λ (x : RunningParts B). x.limit) room ∙ ap (λ (x : RunningParts B). x.limit) same

pub ahead-room : {B : Type 0} (steps : ℕ) (old mid self new : RunningParts B) → mid ≡ old → self ≡ record mid { parts = record mid.parts { steps = steps } } → new.ahead ≡ self.ahead → new.ahead ≡ old.ahead
ahead-room {B} steps old mid self new same room told = told ∙ ap (λ (x : RunningParts B). x.ahead) room ∙ ap (λ (x : RunningParts B). x.ahead) same

-- ---- of one that is as it was

pub before-same : {B : Type 0} (old new : RunningParts B) → new ≡ old → IsAsBefore old new
before-same {B} old new same = subst (λ (x : RunningParts B). IsAsBefore old x) (sym same) (record { bank = refl; uuid = refl; given = refl; first = refl; backup = refl; members = refl; work = refl; course = refl })

pub entries-same : {B : Type 0} (old new : RunningParts B) → new ≡ old → new.parts.entries ≡ old.parts.entries
entries-same {B} old new = ap (λ (x : RunningParts B). x.parts.entries)

pub limit-same : {B : Type 0} (old new : RunningParts B) → new ≡ old → new.limit ≡ old.limit
limit-same {B} old new = ap (λ (x : RunningParts B). x.limit)

pub ahead-same : {B : Type 0} (old new : RunningParts B) → new ≡ old → new.ahead ≡ old.ahead
ahead-same {B} old new = ap (λ (x : RunningParts B). x.ahead)

-- ---- numbers
