-- The calls of the steps of a rebuild: what they enter.
use Rattle.std.proofs.Common.{◌≡◌, ℕ, ◌+◌, Bool, true, false, cond, Option, Some, None, List, [], ◌∷◌, ◌++◌, sym, arith}
use Rattle.std.specs.Prelude.{IfSome}
use Rattle.std.specs.List.{list_any, Contains}
use Rattle.array_call_specs.specs.raid_types_the_Who.{Who}
use Rattle.array_call_specs.specs.history_the_Entry.{Entry}
use Rattle.array_call_specs.specs.history_the_Event.{Event}
use Rattle.array_call_specs.specs.history_the_Event_TheVariants.{Lost, SpareLost, Step}
use Rattle.array_call_specs.specs.history_the_LostCause_TheVariants.{Fault}
use Rattle.array_call_specs.specs.history_the_StepKind.{StepKind}
use Rattle.array_call_specs.specs.history_Legal.{told_left, disturbs, call_before}
use Rattle.array_call_specs.specs.history_Plain.{entries_of}
use Rattle.array_call_specs.specs.history_Transfers.{last_end_from}
use Rattle.array_call_specs.specs.history_OneShape.{ShapeOpening, IsIdleStep}
use Rattle.array_call_specs.proofs.history_laws_OneShapeGrowing.{one, IsOneShapeCall, call-faults, inner-of, call-ends}
use Rattle.array_call_specs.proofs.history_append_CallLaws.{AreLossEvents}
use Rattle.array_call_specs.proofs.history_append_StepLaws.{GoOnBehind, faults-are}

-- ---- events behind the losses of a call

-- they go on behind the losses
pub losses-open : (xs tail : List Event) → AreLossEvents xs → GoOnBehind tail → GoOnBehind (xs ++ tail)
losses-open [] tail are goes = goes
losses-open (Lost role Fault ∷ xs) tail are goes = (tt, losses-open xs tail are goes)
losses-open (SpareLost slot ∷ xs) tail are goes = (tt, losses-open xs tail are goes)
losses-open (x ∷ xs) tail are goes = absurd are

-- where something is lost, the call ends with its losses
pub losses-end : (first : ℕ) (entries : List Entry) (who : Who) (end : ℕ) (xs : List Event) (event : Event) → Contains xs event → last_end_from first (entries ++ entries_of who end xs) ≡ end
losses-end first entries who end [] event has = absurd (let below = has.1 in omega (arith, below))
losses-end first entries who end (x ∷ xs) event has = call-ends first entries who end x xs

pub some-lost : (xs : List Event) (event : Event) → Contains xs event → xs ≡ [] → ⊥
some-lost [] event has none = absurd (let below = has.1 in omega (arith, below))
some-lost (x ∷ xs) event has none = absurd (cc)

-- ---- a step behind losses is legal

-- where the history tells one more step left behind them, or none, whatever its call enters behind it
pub call-stepped_on : (opening : ShapeOpening) (entries : List Entry) (who : Who) (end : ℕ) (xs : List Event) (kind : StepKind) (left : ℕ) (tail : List Event) → AreLossEvents xs → IsIdleStep kind
    → IfSome (told_left (entries ++ entries_of who end xs)) (λ n. n ≡ left + 1)
    → IsOneShapeCall opening ((entries ++ entries_of who end xs) ++ one who end (Step kind left) ∷ []) who end tail → IsOneShapeCall opening entries who end (xs ++ Step kind left ∷ tail)
call-stepped_on opening entries who end xs kind left tail are idle told call =
    call-faults opening entries who end xs (Step kind left ∷ tail) (faults-are xs are) (
      (idle, by (list_any (λ e. disturbs e.event) (call_before (entries ++ entries_of who end xs) (one who end (Step kind left)) ++ entries_of who end tail)) (told_left (entries ++ entries_of who end xs)) told),
      inner-of (Step kind left) (entries_of who end tail) tt,
      call,
    )
  where
    by : (b : Bool) (o : Option ℕ) → IfSome o (λ n. n ≡ left + 1) → IfSome (cond b None o) (λ n. left + 1 ≡ n)
    by true o told = tt
    by false None told = tt
    by false (Some n) told = sym told
