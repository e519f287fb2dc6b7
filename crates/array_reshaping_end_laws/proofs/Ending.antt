-- The entries of a call by which a reshape ends: losses, the step, the new length where the list grew, and more losses. What they tell, and what a history says
-- of the step before them and of its plans.
use Rattle.std.proofs.Common.{◌≡◌, ℕ, suc, ◌+◌, ◌<◌, ◌&&◌, ◌||◌, nat_lt, Bool, true, false, cond, List, [], ◌∷◌, ◌++◌, length, take, fold, refl, sym, ◌∙◌, ap, ap₂, subst, arith, append_assoc, append-nil}
use Rattle.std.specs.List.{list_any, list_all}
use Rattle.std.proofs.lemmas.List.Folds.{list_any-append}
use Rattle.array_fixed_invariant.specs.raid_types_Sectors.{Sector}
use Rattle.array_fixed_invariant.specs.raid_types_the_Who.{Who}
use Rattle.array_fixed_invariant.specs.bank_Tape.{IsIn}
use Rattle.array_fixed_invariant.specs.history_the_Entry.{Entry}
use Rattle.array_fixed_invariant.specs.history_the_Event.{Event}
use Rattle.array_fixed_invariant.specs.history_the_Event_TheVariants.{Lost, SpareLost, Resized, Step}
use Rattle.array_fixed_invariant.specs.history_the_LostCause_TheVariants.{Fault}
use Rattle.array_fixed_invariant.specs.history_the_StepKind_TheVariants.{Finished}
use Rattle.array_fixed_invariant.specs.history_Flat.{length_of, values_after, values_of, resized}
use Rattle.array_fixed_invariant.specs.history_Legal.{is_loss, before_last_step, level_after}
use Rattle.array_fixed_invariant.specs.history_Losses.{loses, is_gone_after, is_unsynced, settles, unsettles}
use Rattle.array_fixed_invariant.specs.history_OneShape.{is_lost, is_unsettled}
use Rattle.array_fixed_invariant.specs.history_Plain.{entries_of, loses_role}
use Rattle.array_fixed_invariant.specs.history_Reshaped.{comes_with_finish, comes_with_step, is_rebuilt}
use Rattle.array_fixed_invariant.specs.history_Transfers.{last_end_from}
use Rattle.array_fixed_invariant.specs.history_World.{World, opening_list}
use Rattle.array_fixed_invariant.proofs.history_laws_OneShapeGrowing.{entries-both, call-ends}
use Rattle.array_fixed_invariant.specs.history_append_Losing.{losses_of}
use Rattle.array_fixed_invariant.proofs.history_append_CallLaws.{AreLossEvents, losses-are, length-losses}
use Rattle.array_fixed_invariant.specs.history_invariant_Recorded.{ends_reshape, gives_some}
use Rattle.array_fixed_invariant.specs.history_invariant_Told.{told_by}
use Rattle.array_fixed_invariant.proofs.history_invariant_Entered.{AreAdding, length-adding, values-adding, settle-none}
use Rattle.array_fixed_invariant.specs.crash_safety_laws_Steady.{IsMoreTold}
use Rattle.array_fixed_invariant.proofs.history_invariant_Tests.{or-right}
use Rattle.array_fixed_invariant.proofs.history_LegalLaws.{both}
use Rattle.array_fixed_invariant.proofs.history_invariant_laws_Behind.{IsAmong, early-losses, and-true}

-- ---- the call

-- the new length, where the list grows
abbrev pub length_by : Bool → ℕ → List Event
length_by true n = Resized n ∷ []
length_by false n = []

abbrev pub grown_to : ℕ → ℕ → List Event
grown_to old new = length_by (nat_lt old new) new

-- what the call enters: the losses of its flush, the step, the new length, and the losses of its update
abbrev pub ending_events : ℕ → ℕ → ℕ → List Event → ℕ → ℕ → List Event
ending_events roles spares left turn late late_spares = losses_of roles spares ++ Step Finished left ∷ (turn ++ losses_of late late_spares)

-- losses alone
module _ (who : Who) (end roles spares : ℕ) where
  all-but : (P : List Event → Type 0) → P (losses_of roles spares ++ []) → P (losses_of roles spares)
  all-but P holds = subst P (append-nil (losses_of roles spares)) holds

  pub only-adds : AreAdding (entries_of who end (losses_of roles spares))
  only-adds = all-but (λ (l : List Event). AreAdding (entries_of who end l)) ((early-losses roles spares).adds who end [] refl)

  pub only-gives : list_any (λ e. gives_some e.event) (entries_of who end (losses_of roles spares)) ≡ false
  only-gives = all-but (λ (l : List Event). list_any (λ e. gives_some e.event) (entries_of who end l) ≡ false) ((early-losses roles spares).gives who end [] refl)

  pub only-ends : list_any ends_reshape (losses_of roles spares) ≡ false
  only-ends = all-but (λ (l : List Event). list_any ends_reshape l ≡ false) ((early-losses roles spares).ends [] refl)

  pub only-lost : (role : ℕ) → role < 16 → IsAmong roles role → is_lost (entries_of who end (losses_of roles spares)) role ≡ true
  only-lost role lt has = all-but (λ (l : List Event). is_lost (entries_of who end l) role ≡ true) ((early-losses roles spares).lost who end [] role lt has)

  only-level : (n : ℕ) → fold (λ level e. level_after level e.event) n (entries_of who end (losses_of roles spares)) ≡ n
  only-level n = all-but (λ (l : List Event). fold (λ level e. level_after level e.event) n (entries_of who end l) ≡ n) ((early-losses roles spares).level who end [] n)

  only-values : (x : ℕ) (values : List Sector) → fold (λ values e. values_after x values e.event) values (entries_of who end (losses_of roles spares)) ≡ values
  only-values x values = all-but (λ (l : List Event). fold (λ values e. values_after x values e.event) values (entries_of who end l) ≡ values) ((early-losses roles spares).values who end [] x values)

  only-length : (n : ℕ) → length_of n (entries_of who end (losses_of roles spares)) ≡ n
  only-length n = all-but (λ (l : List Event). length_of n (entries_of who end l) ≡ n) (length-losses who end (losses_of roles spares) [] (losses-are roles spares) n)

module _ (who : Who) (end roles spares left : ℕ) (longer : Bool) (n late late_spares : ℕ) where
  abbrev early : List Event
  early = losses_of roles spares

  abbrev rest : List Event
  rest = length_by longer n ++ losses_of late late_spares

  -- it gives no role and settles nothing
  pub ending-gives : list_any (λ e. gives_some e.event) (entries_of who end (ending_events roles spares left (length_by longer n) late late_spares)) ≡ false
  ending-gives = (early-losses roles spares).gives who end (Step Finished left ∷ rest) (of longer)
    where
      of : (b : Bool) → list_any (λ e. gives_some e.event) (entries_of who end (length_by b n ++ losses_of late late_spares)) ≡ false
      of true = only-gives who end late late_spares
      of false = only-gives who end late late_spares

  pub ending-settles : list_any (λ e. settles e.event) (entries_of who end (ending_events roles spares left (length_by longer n) late late_spares)) ≡ false
  ending-settles =
      ap (λ (l : List Entry). list_any (λ e. settles e.event) l) (entries-both who end early (Step Finished left ∷ rest))
      ∙ list_any-append (λ e. settles e.event) (entries_of who end early) (entries_of who end (Step Finished left ∷ rest))
      ∙ ap₂ (λ (a b : Bool). a || b) (settle-none (entries_of who end early) (only-adds who end roles spares)) (of longer)
    where
      of : (b : Bool) → list_any (λ e. settles e.event) (entries_of who end (length_by b n ++ losses_of late late_spares)) ≡ false
      of true = settle-none (entries_of who end (losses_of late late_spares)) (only-adds who end late late_spares)
      of false = settle-none (entries_of who end (losses_of late late_spares)) (only-adds who end late late_spares)

  -- the level stays
  pub ending-level : (level : ℕ) → fold (λ level e. level_after level e.event) level (entries_of who end (ending_events roles spares left (length_by longer n) late late_spares)) ≡ level
  ending-level level = (early-losses roles spares).level who end (Step Finished left ∷ rest) level ∙ of longer
    where
      of : (b : Bool) → fold (λ level e. level_after level e.event) level (entries_of who end (length_by b n ++ losses_of late late_spares)) ≡ level
      of true = only-level who end late late_spares level
      of false = only-level who end late late_spares level

  -- each sector has the values that it had, but for the new length
  pub ending-values : (x : ℕ) (values : List Sector) → fold (λ values e. values_after x values e.event) values (entries_of who end (ending_events roles spares left (length_by longer n) late late_spares))
      ≡ cond longer (resized (nat_lt x n) values) values
  ending-values x values = (early-losses roles spares).values who end (Step Finished left ∷ rest) x values ∙ of longer
    where
      of : (b : Bool) → fold (λ values e. values_after x values e.event) values (entries_of who end (length_by b n ++ losses_of late late_spares)) ≡ cond b (resized (nat_lt x n) values) values
      of true = only-values who end late late_spares x (resized (nat_lt x n) values)
      of false = only-values who end late late_spares x values

  pub ending-length : (m : ℕ) → length_of m (entries_of who end (ending_events roles spares left (length_by longer n) late late_spares)) ≡ cond longer n m
  ending-length m = length-losses who end early (Step Finished left ∷ rest) (losses-are roles spares) m ∙ of longer
    where
      of : (b : Bool) → length_of m (entries_of who end (length_by b n ++ losses_of late late_spares)) ≡ cond b n m
      of true = only-length who end late late_spares n
      of false = only-length who end late late_spares m

  -- these roles are told lost
  pub ending-lost : (role : ℕ) → role < 16 → IsAmong roles role → is_lost (entries_of who end (ending_events roles spares left (length_by longer n) late late_spares)) role ≡ true
  ending-lost role lt has = (early-losses roles spares).lost who end (Step Finished left ∷ rest) role lt has

  pub ending-late : (role : ℕ) → role < 16 → IsAmong late role → is_lost (entries_of who end (ending_events roles spares left (length_by longer n) late late_spares)) role ≡ true
  ending-late role lt has =
      ap (λ (l : List Entry). is_lost l role) (entries-both who end early (Step Finished left ∷ rest))
      ∙ list_any-append (λ e. loses_role role e.event) (entries_of who end early) (entries_of who end (Step Finished left ∷ rest))
      ∙ or-right (is_lost (entries_of who end early) role) (is_lost (entries_of who end (Step Finished left ∷ rest)) role) (of longer)
    where
      of : (b : Bool) → is_lost (entries_of who end (length_by b n ++ losses_of late late_spares)) role ≡ true
      of true = only-lost who end late late_spares role lt has
      of false = only-lost who end late late_spares role lt has

  -- it ends where each of its entries does
  pub ending-last : (first : ℕ) (entries : List Entry) → last_end_from first (entries ++ entries_of who end (ending_events roles spares left (length_by longer n) late late_spares)) ≡ end
  ending-last first entries = of (losses_of roles spares)
    where
      of : (xs : List Event) → last_end_from first (entries ++ entries_of who end (xs ++ Step Finished left ∷ rest)) ≡ end
      of [] = call-ends first entries who end (Step Finished left) rest
      of (x ∷ xs) = call-ends first entries who end x (xs ++ Step Finished left ∷ rest)

  -- what stands behind the step comes with it
  come-losses : (xs : List Event) → AreLossEvents xs → list_all comes_with_finish xs ≡ true
  come-losses [] are = refl
  come-losses (Lost role Fault ∷ xs) are = come-losses xs are
  come-losses (SpareLost slot ∷ xs) are = come-losses xs are
  come-losses (event ∷ xs) are = absurd are

  pub ending-comes : list_all comes_with_finish (length_by longer n ++ losses_of late late_spares) ≡ true
  ending-comes = of longer
    where
      of : (b : Bool) → list_all comes_with_finish (length_by b n ++ losses_of late late_spares) ≡ true
      of true = come-losses (losses_of late late_spares) (losses-are late late_spares)
      of false = come-losses (losses_of late late_spares) (losses-are late late_spares)

  -- and none of it ends a reshape again
  pub ending-ends : list_any ends_reshape (length_by longer n ++ losses_of late late_spares) ≡ false
  ending-ends = of longer
    where
      of : (b : Bool) → list_any ends_reshape (length_by b n ++ losses_of late late_spares) ≡ false
      of true = only-ends who end late late_spares
      of false = only-ends who end late late_spares

-- ---- what comes with a step

-- what comes with a finish comes with any step
pub comes-more : (events : List Event) → list_all comes_with_finish events ≡ true → list_all comes_with_step events ≡ true
comes-more [] all = refl
comes-more (x ∷ events) all =
    let parts = both (comes_with_finish x) (list_all comes_with_finish events) all in
    and-true (comes_with_step x) (list_all comes_with_step events) (ap (λ (b : Bool). b || is_rebuilt x) parts.0) (comes-more events parts.1)

-- ---- the step before

and-false : (a : Bool) → (a && false) ≡ false
and-false true = refl
and-false false = refl

ends-other : (before : List Entry) (e : Entry) → is_loss e.event ≡ false → list_all (λ e. is_loss e.event) (before ++ e ∷ []) ≡ false
ends-other [] e other = ap (λ (b : Bool). b && true) other
ends-other (x ∷ before) e other = ap (λ (b : Bool). is_loss x.event && b) (ends-other before e other) ∙ and-false (is_loss x.event)

step-by : (n : ℕ) (b : Bool) (x : Entry) (entries before : List Entry) → b ≡ false → take n entries ≡ before → take (cond b 0 (1 + n)) (x ∷ entries) ≡ x ∷ before
step-by n b x entries before other rest =
    ap (λ (k : ℕ). take k (x ∷ entries)) (ap (λ (c : Bool). cond c 0 (1 + n)) other ∙ next n) ∙ ap (λ (l : List Entry). x ∷ l) rest
  where
    next : (k : ℕ) → 1 + k ≡ suc k
    next k = omega arith

-- before it stands what stood there
pub before-step : (before : List Entry) (e : Entry) → is_loss e.event ≡ false → before_last_step (before ++ e ∷ []) ≡ before
before-step [] e other = refl
before-step (x ∷ before) e other = step-by _ (list_all (λ e. is_loss e.event) (before ++ e ∷ [])) x (before ++ e ∷ []) before (ends-other before e other) (before-step before e other)

-- ---- what is told

-- A call tells more with more entries that add, whatever numbers are known.
module _ (world : World) (carried : ℕ → ℕ → Bool) (entries xs ys : List Entry) (first : AreAdding xs) (second : AreAdding ys) where
  abbrev opening : List Sector
  opening = opening_list world

  longer-all : (entries ++ xs) ++ ys ≡ entries ++ (xs ++ ys)
  longer-all = append_assoc entries xs ys

  longer-length : length_of (length opening) (entries ++ xs) ≡ length_of (length opening) (entries ++ (xs ++ ys))
  longer-length = sym (length-adding (length opening) (entries ++ xs) ys second) ∙ ap (λ (l : List Entry). length_of (length opening) l) longer-all

  longer-values : (x : ℕ) (v : Sector) → IsIn (values_of opening (entries ++ xs) x) v → IsIn (values_of opening (entries ++ (xs ++ ys)) x) v
  longer-values x v may = subst (λ (l : List Entry). IsIn (values_of opening l x) v) longer-all (values-adding opening (entries ++ xs) ys second x v may)

  three : (a b c : Bool) → (a || b) ≡ true → (a || (b || c)) ≡ true
  three true b c is = refl
  three false true c is = refl
  three false false c is = absurd (cc)

  four : (a b c d : Bool) → (a || (b || c)) ≡ true → (a || (b || (c || d))) ≡ true
  four true b c d is = refl
  four false true c d is = refl
  four false false true d is = refl
  four false false false d is = absurd (cc)

  pub told-longer : IsMoreTold (told_by world carried true entries xs) (told_by world (λ slot number. true) true entries (xs ++ ys))
  told-longer = record {
    size = longer-length;
    values = λ x lt v may. longer-values x v may;
    gone = λ role is. ap (λ (b : Bool). is_gone_after world entries role || b) (list_any-append (loses world role) xs ys)
        ∙ three (is_gone_after world entries role) (list_any (loses world role) xs) (list_any (loses world role) ys) is;
    unclean = λ is. ap (λ (b : Bool). is_unsynced world entries || (is_unsettled entries || b)) (list_any-append (λ e. unsettles e.event) xs ys)
        ∙ four (is_unsynced world entries) (is_unsettled entries) (list_any (λ e. unsettles e.event) xs) (list_any (λ e. unsettles e.event) ys) is;
    reshaping = λ is. is;
    carried = λ slot number is. refl;
  }
