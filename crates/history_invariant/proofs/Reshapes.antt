-- What a reshape ends, it ends right still with more entries of its call behind it.
use Rattle.std.proofs.Common.{◌≡◌, inl, inr, ℕ, zero, suc, ◌+◌, ◌≤◌, ◌&&◌, ◌||◌, ◌⊎◌, Bool, true, false, cond, Option, Some, None, List, [], ◌∷◌, ◌++◌, length, unwrap_or, MatchOption, refl, sym, ◌∙◌, ap, ap₂, subst, arith, append_assoc, append-nil}
use Rattle.std.specs.Bool.{OnTrue}
use Rattle.std.specs.List.{list_any, All}
use Rattle.std.proofs.lemmas.List.Elements.{All-append}
use Rattle.array_call_specs.specs.raid_types_Search.{count_below}
use Rattle.array_call_specs.specs.raid_types_the_Who.{Who}
use Rattle.array_call_specs.specs.raid_types_the_Shape.{Shape}
use Rattle.array_call_specs.specs.bank_the_Operation.{Operation}
use Rattle.array_call_specs.specs.history_the_Entry.{Entry}
use Rattle.array_call_specs.specs.history_the_Event.{Event}
use Rattle.array_call_specs.specs.history_the_Event_TheVariants.{Lost, SpareLost, Rebuilt, Step}
use Rattle.array_call_specs.specs.history_the_LostCause_TheVariants.{Fault}
use Rattle.array_call_specs.specs.history_the_StepKind_TheVariants.{Begun, Finished}
use Rattle.array_call_specs.specs.history_Flat.{is_same_call, last_of}
use Rattle.array_call_specs.specs.history_Growing.{grown, EndBy, BeginAnother}
use Rattle.array_call_specs.specs.history_Legal.{end_before, target_at}
use Rattle.array_call_specs.specs.history_Losses.{is_gone_after}
use Rattle.array_call_specs.specs.history_OneShape.{IsOfCall}
use Rattle.array_call_specs.specs.history_Plain.{entries_of}
use Rattle.array_call_specs.specs.history_Reshaped.{AreTooManyGone, behind, comes_with_finish, comes_with_step, IsConsistentAt, IsFinishedRight, is_done, open_plans, planned_shape, ArePlansDone, IsReshapedBy, AreReshaped, IsReshaped}
use Rattle.array_call_specs.specs.history_World.{World, until}
use Rattle.array_call_specs.proofs.history_LegalLaws.{both, another-last, another-behind}
use Rattle.array_call_specs.proofs.history_laws_OneShapeGrowing.{AreFaults}
use Rattle.array_call_specs.proofs.history_laws_ReshapedLaws.{reshapes-stay-right}
use Rattle.array_call_specs.proofs.history_append_StepLaws.{of-call}
use Rattle.history_invariant.specs.Recorded.{entry_of, IsReshapedCall, ends_reshape, IsCallGoing, gives_some}
use Rattle.history_invariant.proofs.Tests.{neither}
use Rattle.history_invariant.proofs.Longer.{gone-still}
use Rattle.history_invariant.proofs.Records.{own-begins, until-all}

-- ---- what ends nothing

finish-free : (world : World) (before : List Entry) (e : Entry) (rest : List Entry) (event : Event) → ends_reshape event ≡ false → IsFinishedRight world before e rest event × (is_done event ≡ false)
finish-free world before e rest (Step Finished left) none = absurd (cc)
finish-free world before e rest event none = (tt, none)

not-done : (b : Bool) (P : Type 0) → b ≡ false → OnTrue b P
not-done true P none = absurd (cc)
not-done false P none = tt

-- such an entry ends it right
pub ends-none : (world : World) (before : List Entry) (e : Entry) (entries : List Entry) → ends_reshape e.event ≡ false → IsReshapedBy world before e entries
ends-none world before e entries none =
    let free = finish-free world before e (behind comes_with_finish e entries) e.event none in
    record { finished = free.0; plans = not-done (is_done e.event) (ArePlansDone world before e (behind comes_with_step e entries) (open_plans before)) free.1 }

-- and so does a call of such events
pub call-ends_none : (world : World) (before : List Entry) (who : Who) (end : ℕ) (events : List Event) → list_any ends_reshape events ≡ false → IsReshapedCall world before who end events
call-ends_none world before who end [] none = tt
call-ends_none world before who end (event ∷ events) none =
    let parts = neither (ends_reshape event) (list_any ends_reshape events) none in
    (ends-none world before (entry_of who end event) (entries_of who end events) parts.0, call-ends_none world (before ++ entry_of who end event ∷ []) who end events parts.1)

-- losses before other events end nothing
pub reshaped-losses : (world : World) (before : List Entry) (who : Who) (end : ℕ) (xs tail : List Event) → AreFaults xs → IsReshapedCall world (before ++ entries_of who end xs) who end tail
    → IsReshapedCall world before who end (xs ++ tail)
reshaped-losses world before who end [] tail are call = subst (λ (l : List Entry). IsReshapedCall world l who end tail) (append-nil before) call
reshaped-losses world before who end (Lost role Fault ∷ xs) tail are call = (
  ends-none world before (entry_of who end (Lost role Fault)) (entries_of who end (xs ++ tail)) refl,
  reshaped-losses world (before ++ entry_of who end (Lost role Fault) ∷ []) who end xs tail are
      (subst (λ (l : List Entry). IsReshapedCall world l who end tail) (sym (append_assoc before (entry_of who end (Lost role Fault) ∷ []) (entries_of who end xs))) call),
)
reshaped-losses world before who end (SpareLost slot ∷ xs) tail are call = (
  ends-none world before (entry_of who end (SpareLost slot)) (entries_of who end (xs ++ tail)) refl,
  reshaped-losses world (before ++ entry_of who end (SpareLost slot) ∷ []) who end xs tail are
      (subst (λ (l : List Entry). IsReshapedCall world l who end tail) (sym (append_assoc before (entry_of who end (SpareLost slot) ∷ []) (entries_of who end xs))) call),
)
reshaped-losses world before who end (event ∷ xs) tail are call = absurd are

-- where no plan is open, an entry that leaves no step owes nothing
pub unplanned : (world : World) (before : List Entry) (e : Entry) (rest : List Entry) (b : Bool) → open_plans before ≡ [] → OnTrue b (ArePlansDone world before e rest (open_plans before))
unplanned world before e rest true none = subst (λ (plans : List Entry). ArePlansDone world before e rest plans) (sym none) tt
unplanned world before e rest false none = tt

-- ---- more entries of its call behind it

behind-longer : (sort : Event → Bool) (e : Entry) (xs ys : List Entry) → (behind sort e (xs ++ ys) ≡ behind sort e xs) ⊎ (behind sort e (xs ++ ys) ≡ behind sort e xs ++ behind sort e ys)
behind-longer sort e [] ys = inr refl
behind-longer sort e (x ∷ xs) ys = by (sort x.event && is_same_call e x) (behind-longer sort e xs ys)
  where
    by : (b : Bool) → (behind sort e (xs ++ ys) ≡ behind sort e xs) ⊎ (behind sort e (xs ++ ys) ≡ behind sort e xs ++ behind sort e ys)
        → (cond b (x ∷ behind sort e (xs ++ ys)) [] ≡ cond b (x ∷ behind sort e xs) []) ⊎ (cond b (x ∷ behind sort e (xs ++ ys)) [] ≡ cond b (x ∷ behind sort e xs) [] ++ behind sort e ys)
    by true (inl same) = inl (ap (λ (l : List Entry). x ∷ l) same)
    by true (inr more) = inr (ap (λ (l : List Entry). x ∷ l) more)
    by false grows = inl refl

-- what comes with a finish gives no role a holder
finish-gives : (event : Event) → comes_with_finish event ≡ true → gives_some event ≡ false
finish-gives (Rebuilt role) comes = absurd (cc)
finish-gives (Step Begun left) comes = absurd (cc)
finish-gives event comes = refl

behind-finish : (e : Entry) (ys : List Entry) → list_any (λ e. gives_some e.event) (behind comes_with_finish e ys) ≡ false
behind-finish e [] = refl
behind-finish e (y ∷ ys) = by (comes_with_finish y.event && is_same_call e y) refl (behind-finish e ys)
  where
    by : (b : Bool) → (comes_with_finish y.event && is_same_call e y) ≡ b → list_any (λ e. gives_some e.event) (behind comes_with_finish e ys) ≡ false
        → list_any (λ e. gives_some e.event) (cond b (y ∷ behind comes_with_finish e ys) []) ≡ false
    by true is rest = ap₂ (λ (a b : Bool). a || b) (finish-gives y.event (both (comes_with_finish y.event) (is_same_call e y) is).0) rest
    by false is rest = refl

behind-none : (sort : Event → Bool) (e : Entry) (ys : List Entry) → list_any (λ e. gives_some e.event) ys ≡ false → list_any (λ e. gives_some e.event) (behind sort e ys) ≡ false
behind-none sort e [] none = refl
behind-none sort e (y ∷ ys) none =
    let parts = neither (gives_some y.event) (list_any (λ e. gives_some e.event) ys) none in
    by (sort y.event && is_same_call e y) parts.0 (behind-none sort e ys parts.1)
  where
    by : (b : Bool) → gives_some y.event ≡ false → list_any (λ e. gives_some e.event) (behind sort e ys) ≡ false → list_any (λ e. gives_some e.event) (cond b (y ∷ behind sort e ys) []) ≡ false
    by true first rest = ap₂ (λ (a b : Bool). a || b) first rest
    by false first rest = refl

count-implied : (n : ℕ) (f g : ℕ → Bool) → ((k : ℕ) → f k ≡ true → g k ≡ true) → count_below n f ≤ count_below n g
unfolding count_below
count-implied zero f g implied = omega arith
count-implied (suc n) f g implied = by (f n) (g n) (count-implied n f g implied) (implied n)
  where
    by : (b c : Bool) → count_below n f ≤ count_below n g → (b ≡ true → c ≡ true) → count_below n f + cond b 1 0 ≤ count_below n g + cond c 1 0
    by true true le follows = omega (arith, le)
    by true false le follows = absurd (let e = follows refl in cc)
    by false true le follows = omega (arith, le)
    by false false le follows = omega (arith, le)

-- a shape is as consistent with more entries behind that give no role a holder
module _ (world : World) (before : List Entry) (e : Entry) (rest extra : List Entry) (none : list_any (λ e. gives_some e.event) extra ≡ false) where
  consistent-still : (mark : ℕ) (shape : Shape) → IsConsistentAt world (before ++ e ∷ rest) mark shape → IsConsistentAt world (before ++ e ∷ (rest ++ extra)) mark shape
  consistent-still mark shape (inl is) = inl is
  consistent-still mark shape (inr above) =
      let more : count_below shape.disks (is_gone_after world (before ++ e ∷ rest)) ≤ count_below shape.disks (is_gone_after world ((before ++ e ∷ rest) ++ extra)) =
      count-implied shape.disks (is_gone_after world (before ++ e ∷ rest)) (is_gone_after world ((before ++ e ∷ rest) ++ extra)) (λ role is. gone-still world role (before ++ e ∷ rest) extra none is) in
      inr (subst (λ (l : List Entry). AreTooManyGone world l shape) (append_assoc before (e ∷ rest) extra) (omega (arith, above, more)))

  shape-still : (o : Option Shape) → MatchOption o ⊥ (IsConsistentAt world (before ++ e ∷ rest) e.end) → MatchOption o ⊥ (IsConsistentAt world (before ++ e ∷ (rest ++ extra)) e.end)
  shape-still None is = absurd is
  shape-still (Some shape) is = consistent-still e.end shape is

  finished-still : (event : Event) → IsFinishedRight world before e rest event → IsFinishedRight world before e (rest ++ extra) event
  finished-still (Step Finished left) is = shape-still (target_at world (end_before world before)) is
  finished-still event is = tt

  plans-still : (plans : List Entry) → ArePlansDone world before e rest plans → ArePlansDone world before e (rest ++ extra) plans
  plans-still [] are = tt
  plans-still (plan ∷ plans) are = (shape-still (planned_shape world plan.end plan.event) are.0, plans-still plans are.1)

reshaped-longer : (world : World) (before : List Entry) (e : Entry) (xs ys : List Entry) → (is_done e.event ≡ false) ⊎ (list_any (λ e. gives_some e.event) ys ≡ false)
    → IsReshapedBy world before e xs → IsReshapedBy world before e (xs ++ ys)
reshaped-longer world before e xs ys free right = record {
  finished = elim (behind-longer comes_with_finish e xs ys) [
    | inl same ↦ subst (λ (l : List Entry). IsFinishedRight world before e l e.event) (sym same) right.finished
    | inr more ↦ subst (λ (l : List Entry). IsFinishedRight world before e l e.event) (sym more)
        (finished-still world before e (behind comes_with_finish e xs) (behind comes_with_finish e ys) (behind-finish e ys) e.event right.finished)
  ];
  plans = elim free [
    | inl going ↦ not-done (is_done e.event) (ArePlansDone world before e (behind comes_with_step e (xs ++ ys)) (open_plans before)) going
    | inr none ↦ elim (behind-longer comes_with_step e xs ys) [
      | inl same ↦ subst (λ (l : List Entry). OnTrue (is_done e.event) (ArePlansDone world before e l (open_plans before))) (sym same) right.plans
      | inr more ↦ subst (λ (l : List Entry). OnTrue (is_done e.event) (ArePlansDone world before e l (open_plans before))) (sym more) (plans-then none (is_done e.event) right.plans)
    ]
  ];
}
  where
    plans-then : list_any (λ e. gives_some e.event) ys ≡ false → (b : Bool) → OnTrue b (ArePlansDone world before e (behind comes_with_step e xs) (open_plans before))
        → OnTrue b (ArePlansDone world before e (behind comes_with_step e xs ++ behind comes_with_step e ys) (open_plans before))
    plans-then none true are = plans-still world before e (behind comes_with_step e xs) (behind comes_with_step e ys) (behind-none comes_with_step e ys none) (open_plans before) are
    plans-then none false are = tt

-- ---- entries of a call that goes on

-- each entry so far leaves steps, or no role is given a holder behind it
abbrev pub ArePlansFixed : List Entry → List Entry → Type 0
ArePlansFixed call added = (list_any (λ e. is_done e.event) call ≡ false) ⊎ (list_any (λ e. gives_some e.event) added ≡ false)

call-longer : (world : World) (before call added : List Entry) → ArePlansFixed call added → AreReshaped world before call → AreReshaped world (before ++ call) added → AreReshaped world before (call ++ added)
call-longer world before [] added free right more = subst (λ (l : List Entry). AreReshaped world l added) (append-nil before) more
call-longer world before (e ∷ call) added free right more = (
  reshaped-longer (until e.end world) before e call added
      (elim free [ inl going ↦ inl (neither (is_done e.event) (list_any (λ e. is_done e.event) call) going).0 | inr none ↦ inr none ]) right.0,
  call-longer world (before ++ e ∷ []) call added
      (elim free [ inl going ↦ inl (neither (is_done e.event) (list_any (λ e. is_done e.event) call) going).1 | inr none ↦ inr none ]) right.1
      (subst (λ (l : List Entry). AreReshaped world l added) (sym (append_assoc before (e ∷ []) call)) more),
)

and-false : (a : Bool) → (a && false) ≡ false
and-false true = refl
and-false false = refl

-- what stands behind an entry doesn't go on into entries that begin another call
behind-apart : (sort : Event → Bool) (e : Entry) (xs added : List Entry) → BeginAnother (Some (unwrap_or (last_of xs) e)) added → behind sort e (xs ++ added) ≡ behind sort e xs
behind-apart sort e [] [] begin = refl
behind-apart sort e [] (y ∷ added) begin = ap (λ (b : Bool). cond b (y ∷ behind sort e added) []) (ap (λ (b : Bool). sort y.event && b) begin ∙ and-false (sort y.event))
behind-apart sort e (x ∷ xs) added begin = by (sort x.event && is_same_call e x) refl
    (λ passes. behind-apart sort e xs added (another-last e x added (last_of xs) (both (sort x.event) (is_same_call e x) passes).1 begin))
  where
    by : (b : Bool) → (sort x.event && is_same_call e x) ≡ b → ((sort x.event && is_same_call e x) ≡ true → behind sort e (xs ++ added) ≡ behind sort e xs)
        → cond b (x ∷ behind sort e (xs ++ added)) [] ≡ cond b (x ∷ behind sort e xs) []
    by true is goes = ap (λ (l : List Entry). x ∷ l) (goes is)
    by false is goes = refl

-- entries before another call end right still with another such call in its place
other-behind : (world : World) (before xs old new : List Entry) → BeginAnother (last_of xs) old → BeginAnother (last_of xs) new
    → (AreReshaped world (before ++ xs) old → AreReshaped world (before ++ xs) new) → AreReshaped world before (xs ++ old) → AreReshaped world before (xs ++ new)
other-behind world before [] old new begin begins change right =
    subst (λ (l : List Entry). AreReshaped world l new) (append-nil before) (change (subst (λ (l : List Entry). AreReshaped world l old) (sym (append-nil before)) right))
other-behind world before (e ∷ xs) old new begin begins change right = (
  record {
    finished = subst (λ (l : List Entry). IsFinishedRight (until e.end world) before e l e.event) (same comes_with_finish) right.0.finished;
    plans = subst (λ (l : List Entry). OnTrue (is_done e.event) (ArePlansDone (until e.end world) before e l (open_plans before))) (same comes_with_step) right.0.plans;
  },
  other-behind world (before ++ e ∷ []) xs old new (another-behind e xs old begin) (another-behind e xs new begins)
      (subst (λ (l : List Entry). AreReshaped world l old → AreReshaped world l new) (sym (append_assoc before (e ∷ []) xs)) change) right.1,
)
  where
    same : (sort : Event → Bool) → behind sort e (xs ++ old) ≡ behind sort e (xs ++ new)
    same sort = behind-apart sort e xs old begin ∙ sym (behind-apart sort e xs new begins)

going-reshaped : (world : World) (entries added : List Entry) (who : Who) (goes : IsCallGoing entries who) → All (λ e. IsOfCall who e) added → ArePlansFixed goes.call added
    → IsReshaped world entries → AreReshaped world entries added → IsReshaped world (entries ++ added)
going-reshaped world entries added who goes own free right behind =
    subst (λ (l : List Entry). AreReshaped world [] l) (sym (append_assoc goes.before goes.call added) ∙ ap (λ (l : List Entry). l ++ added) (sym goes.is))
    (other-behind world [] goes.before goes.call (goes.call ++ added)
    (own-begins who goes.before goes.call goes.number mine)
    (own-begins who goes.before (goes.call ++ added) goes.number (All-append (λ e. IsOfCall who e) goes.call added mine own))
    (λ call. call-longer world goes.before goes.call added free call (subst (λ (l : List Entry). AreReshaped world l added) goes.is behind))
    (subst (λ (l : List Entry). AreReshaped world [] l) goes.is right))
  where
    mine : All (λ e. IsOfCall who e) goes.call
    mine = λ k d lt. (goes.own k d lt).0

-- Entries that end at the tape's end end right what they end, where their events do.
pub call-reshaped : (world : World) (before : List Entry) (who : Who) (events : List Event) → IsReshapedCall world before who (length world.tape) events → AreReshaped world before (entries_of who (length world.tape) events)
call-reshaped world before who [] call = tt
call-reshaped world before who (event ∷ events) call = (
  subst (λ (w : World). IsReshapedBy w before (entry_of who (length world.tape) event) (entries_of who (length world.tape) events)) (sym (until-all world)) call.0,
  call-reshaped world (before ++ entry_of who (length world.tape) event ∷ []) who events call.1,
)

-- A history whose reshapes end right, with the entries of a call behind it, is such a one.
pub reshaped-later : (world : World) (ops : List Operation) (entries : List Entry) (who : Who) (events : List Event) (goes : IsCallGoing entries who)
    → ArePlansFixed goes.call (entries_of who (length (world.tape ++ ops)) events) → EndBy (length world.tape) entries → IsReshaped world entries
    → IsReshapedCall (grown world ops) entries who (length (world.tape ++ ops)) events → IsReshaped (grown world ops) (entries ++ entries_of who (length (world.tape ++ ops)) events)
reshaped-later world ops entries who events goes free ends right call =
    going-reshaped (grown world ops) entries (entries_of who (length (world.tape ++ ops)) events) who goes (of-call who (length (world.tape ++ ops)) events) free
    (reshapes-stay-right world entries ops ends right) (call-reshaped (grown world ops) entries who events call)
