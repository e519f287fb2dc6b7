-- What is told of arrays that are known by their parts.
use Rattle.std.proofs.Common.{◌≡◌, ℕ, Option, List, [], length, sym, subst}
use Rattle.array_reply_specs.specs.raid_types_the_Refusal.{Refusal}
use Rattle.array_reply_specs.specs.raid_types_the_Who.{Who}
use Rattle.array_reply_specs.specs.raid_types_the_Wish.{Wish}
use Rattle.array_reply_specs.specs.bank_the_Operation.{Operation}
use Rattle.array_reply_specs.specs.bank_Given.{Given}
use Rattle.array_transition.specs.sb_specs_Reading.{list_length}
use Rattle.array_reply_specs.specs.history_the_Event.{Event}
use Rattle.array_reply_specs.specs.history_the_Request.{Request}
use Rattle.array_reply_specs.specs.history_Flat.{visible_of}
use Rattle.array_transition.specs.history_Reshaped.{open_plans}
use Rattle.array_reply_specs.specs.array_call_specs_Calls.{IsEndOf}
use Rattle.array_transition.specs.reshape_request_Asked.{grow_refusal}
use Rattle.array_transition.specs.reshape_request_Left.{phases_of}
use Rattle.array_transition.specs.array_specs_Parts.{RunningParts, visible_in, still_left}
use Rattle.array_transition.specs.array_specs_Calls.{moving_world}
use Rattle.array_grow.specs.Planned.{asked_in, IsReplyTo, IsGrowReply, IsGrowPlanned}
use Rattle.array_grow.specs.Plans.{GoesTo}

-- ---- of one array

pub asked-as : {B : Type 0} (given : B → Given) (wish : Wish) (told : Option Refusal) (old old' : RunningParts B) → old ≡ old' → grow_refusal (asked_in (given old'.parts.bank) old') wish ≡ told → grow_refusal (asked_in (given old.parts.bank) old) wish ≡ told
asked-as {B} given wish told old old' same = subst (λ (x : RunningParts B). grow_refusal (asked_in (given x.parts.bank) x) wish ≡ told) (sym same)

pub first-as : {B : Type 0} (given : B → Given) (wish : Wish) (told : Option Refusal) (old old' : RunningParts B) → old ≡ old' → told ≡ grow_refusal (asked_in (given old'.parts.bank) old') wish → told ≡ grow_refusal (asked_in (given old.parts.bank) old) wish
first-as {B} given wish told old old' same = subst (λ (x : RunningParts B). told ≡ grow_refusal (asked_in (given x.parts.bank) x) wish) (sym same)

-- so it is with room for steps
pub asked-room : {B : Type 0} (given : B → Given) (wish : Wish) (told : Option Refusal) (steps : ℕ) (old old' : RunningParts B) → old ≡ record old' { parts = record old'.parts { steps = steps } }
    → grow_refusal (asked_in (given old'.parts.bank) old') wish ≡ told → grow_refusal (asked_in (given old.parts.bank) old) wish ≡ told
asked-room {B} given wish told steps old old' = asked-as given wish told old (record old' { parts = record old'.parts { steps = steps } })

pub none-open : {B : Type 0} (old old' : RunningParts B) → old ≡ old' → open_plans old'.parts.entries ≡ [] → open_plans old.parts.entries ≡ []
none-open {B} old old' same = subst (λ (x : RunningParts B). open_plans x.parts.entries ≡ []) (sym same)

pub none-open-room : {B : Type 0} (steps : ℕ) (old old' : RunningParts B) → old ≡ record old' { parts = record old'.parts { steps = steps } } → open_plans old'.parts.entries ≡ [] → open_plans old.parts.entries ≡ []
none-open-room {B} steps old old' = none-open old (record old' { parts = record old'.parts { steps = steps } })

pub visible-as : {B : Type 0} (old old' : RunningParts B) → old ≡ old' → visible_of (list_length old'.parts.members.newest) old'.parts.entries ≡ visible_in old' → visible_of (list_length old.parts.members.newest) old.parts.entries ≡ visible_in old
visible-as {B} old old' same = subst (λ (x : RunningParts B). visible_of (list_length x.parts.members.newest) x.parts.entries ≡ visible_in x) (sym same)

pub end-as : {B : Type 0} {tells : Type 0} (tape : B → List Operation) (new new' : RunningParts B) → new ≡ new' → IsEndOf tells new'.parts.first new'.parts.entries (tape new'.parts.bank) → IsEndOf tells new.parts.first new.parts.entries (tape new.parts.bank)
end-as {B} {tells} tape new new' same = subst (λ (y : RunningParts B). IsEndOf tells y.parts.first y.parts.entries (tape y.parts.bank)) (sym same)

pub left-as : {B : Type 0} (left : ℕ) (new new' : RunningParts B) → new ≡ new' → left ≡ still_left new'.parts.work new'.parts.members new'.ahead → left ≡ still_left new.parts.work new.parts.members new.ahead
left-as {B} left new new' same = subst (λ (y : RunningParts B). left ≡ still_left y.parts.work y.parts.members y.ahead) (sym same)

pub planned-as : {B : Type 0} {tells : Type 0} (given : B → Given) (tape : B → List Operation) (wish : Wish) (left : ℕ) (new new' : RunningParts B) → new ≡ new'
    → IsGrowPlanned tells (given new'.parts.bank) (moving_world (given new'.parts.bank) (tape new'.parts.bank) new') wish left new'
    → IsGrowPlanned tells (given new.parts.bank) (moving_world (given new.parts.bank) (tape new.parts.bank) new) wish left new
planned-as {B} {tells} given tape wish left new new' same = subst (λ (y : RunningParts B). IsGrowPlanned tells (given y.parts.bank) (moving_world (given y.parts.bank) (tape y.parts.bank) y) wish left y) (sym same)

-- ---- of two

pub goes-as : {B : Type 0} {tells : Type 0} (given : B → Given) (tape : B → List Operation) (old new old' new' : RunningParts B) → old ≡ old' → new ≡ new'
    → GoesTo tells (moving_world (given new'.parts.bank) (tape new'.parts.bank) new') old' new' → GoesTo tells (moving_world (given new.parts.bank) (tape new.parts.bank) new) old new
goes-as {B} {tells} given tape old new old' new' old-is new-is told =
    subst (λ (x : RunningParts B). GoesTo tells (moving_world (given new.parts.bank) (tape new.parts.bank) new) x new) (sym old-is)
    (subst (λ (y : RunningParts B). GoesTo tells (moving_world (given y.parts.bank) (tape y.parts.bank) y) old' y) (sym new-is) told)

pub reply-as : {B : Type 0} {tells : Type 0} (given : B → Given) (tape : B → List Operation) (wish : Wish) (who : Who) (event : Event) (old new old' new' : RunningParts B) → old ≡ old' → new ≡ new'
    → IsGrowReply tells (moving_world (given old'.parts.bank) (tape old'.parts.bank) old') (asked_in (given old'.parts.bank) old') wish who old'.parts.entries new'.parts.entries event
    → IsGrowReply tells (moving_world (given old.parts.bank) (tape old.parts.bank) old) (asked_in (given old.parts.bank) old) wish who old.parts.entries new.parts.entries event
reply-as {B} {tells} given tape wish who event old new old' new' old-is new-is told =
    subst (λ (x : RunningParts B). IsGrowReply tells (moving_world (given x.parts.bank) (tape x.parts.bank) x) (asked_in (given x.parts.bank) x) wish who x.parts.entries new.parts.entries event) (sym old-is)
    (subst (λ (y : RunningParts B). IsGrowReply tells (moving_world (given old'.parts.bank) (tape old'.parts.bank) old') (asked_in (given old'.parts.bank) old') wish who old'.parts.entries y.parts.entries event) (sym new-is) told)

-- so it is with any request
pub replied-as : {B : Type 0} {tells : Type 0} (given : B → Given) (tape : B → List Operation) (request : Request) (who : Who) (event : Event) (old new old' new' : RunningParts B) → old ≡ old' → new ≡ new'
    → IsReplyTo tells (moving_world (given old'.parts.bank) (tape old'.parts.bank) old') (length (phases_of old'.ahead)) old'.parts.members request who old'.parts.entries new'.parts.entries event
    → IsReplyTo tells (moving_world (given old.parts.bank) (tape old.parts.bank) old) (length (phases_of old.ahead)) old.parts.members request who old.parts.entries new.parts.entries event
replied-as {B} {tells} given tape request who event old new old' new' old-is new-is told =
    subst (λ (x : RunningParts B). IsReplyTo tells (moving_world (given x.parts.bank) (tape x.parts.bank) x) (length (phases_of x.ahead)) x.parts.members request who x.parts.entries new.parts.entries event) (sym old-is)
    (subst (λ (y : RunningParts B). IsReplyTo tells (moving_world (given old'.parts.bank) (tape old'.parts.bank) old') (length (phases_of old'.ahead)) old'.parts.members request who old'.parts.entries y.parts.entries event) (sym new-is) told)
