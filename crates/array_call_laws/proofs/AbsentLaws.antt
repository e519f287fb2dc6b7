-- The losses that an opening tells.
use Rattle.std.proofs.Common.{not, ◌≡◌, inl, inr, ℕ, zero, suc, ◌+◌, ◌<◌, ◌≤◌, ◌==◌, ◌||◌, Bool, true, false, Option, None, List, [], ◌∷◌, ◌++◌, refl, sym, ◌∙◌, ap, subst, arith}
use Rattle.std.proofs.lemmas.Bool.Decides.{nat_tests}
use Rattle.std.proofs.lemmas.Bool.{cases_lt}
use Rattle.std.proofs.lemmas.List.Folds.{list_any-append}
use Rattle.std.specs.Prelude.{fold, slice_index_or, IsTrue}
use Rattle.std.specs.List.{list_any}
use Rattle.array_call_specs.specs.raid_types_Sectors.{Sector}
use Rattle.array_call_specs.specs.raid_types_the_Who.{Who}
use Rattle.array_call_specs.specs.raid_types_the_Role.{Role}
use Rattle.array_call_specs.specs.raid_types_the_Role_TheVariants.{Whole, Recovering, Missing}
use Rattle.array_call_specs.specs.sb_specs_Reading.{Reading, is_whole, role_state}
use Rattle.array_call_specs.specs.stripe_row_Rows.{is_missing}
use Rattle.array_call_specs.specs.history_the_Entry.{Entry}
use Rattle.array_call_specs.specs.history_the_Event.{Event}
use Rattle.array_call_specs.specs.history_the_Event_TheVariants.{Lost}
use Rattle.array_call_specs.specs.history_the_LostCause.{LostCause}
use Rattle.array_call_specs.specs.history_the_LostCause_TheVariants.{Absent, Recovering as ByRecovering}
use Rattle.array_call_specs.specs.history_Flat.{now, length_after, limit_after, values_after}
use Rattle.array_call_specs.specs.history_Legal.{left_after}
use Rattle.array_call_specs.specs.history_Losses.{is_resync_end}
use Rattle.array_call_specs.specs.history_Transfers.{last_end_from}
use Rattle.array_call_specs.specs.history_Plain.{loses_role, entries_of}
use Rattle.array_call_specs.specs.history_OneShape.{ShapeOpening, is_lost, is_gone_now, IsOneShapeLegal, KeepShape, is_spare_now}
use Rattle.array_call_specs.proofs.history_OneShapeGone.{gone-lost}
use Rattle.array_call_specs.proofs.history_laws_OneShapeGrowing.{AreMissing, loss_events, found-legal, call-ends, entries-both}
use Rattle.array_call_specs.specs.Adopting.{opener, found_loss, absent_loss, absent_losses}
use Rattle.array_call_specs.proofs.history_append_CallLaws.{GivesNone}
use Rattle.array_call_specs.proofs.NowLaws.{now-quiet}
use Rattle.array_call_specs.proofs.OnlyLaws.{either, gone-or}

pub absents-first : (r : Reading) → absent_losses r 0 ≡ []
unfolding absent_losses
absents-first r = refl

absents-more : (r : Reading) (n : ℕ) → absent_losses r (suc n) ≡ absent_losses r n ++ absent_loss r n
unfolding absent_losses
absents-more r n = refl

pub absents-next : (r : Reading) (n : ℕ) → absent_losses r (n + 1) ≡ absent_losses r n ++ absent_loss r n
absents-next r n = let next : n + 1 ≡ suc n = omega arith in ap (absent_losses r) next ∙ absents-more r n

-- ---- as roles that were found missing

-- the role by its state, if it isn't whole
abbrev found_as : ℕ → Role → List (ℕ × LostCause)
found_as role (Whole slot) = []
found_as role (Recovering slot) = (role, ByRecovering) ∷ []
found_as role Missing = (role, Absent) ∷ []

abbrev found_one : Reading → ℕ → List (ℕ × LostCause)
found_one r role = found_as role (role_state r role)

-- the roles below n that aren't whole
abbrev found_below : Reading → ℕ → List (ℕ × LostCause)
found_below r zero = []
found_below r (suc n) = found_below r n ++ found_one r n

events-both : (xs ys : List (ℕ × LostCause)) → loss_events (xs ++ ys) ≡ loss_events xs ++ loss_events ys
events-both [] ys = refl
events-both (x ∷ xs) ys = ap (λ (l : List Event). Lost x.0 x.1 ∷ l) (events-both xs ys)

one-is : (r : Reading) (role : ℕ) → loss_events (found_one r role) ≡ absent_loss r role
one-is r role = by (role_state r role)
  where
    by : (state : Role) → loss_events (found_as role state) ≡ found_loss role state
    by (Whole slot) = refl
    by (Recovering slot) = refl
    by Missing = refl

found-are : (r : Reading) (n : ℕ) → loss_events (found_below r n) ≡ absent_losses r n
found-are r zero = sym (absents-first r)
found-are r (suc n) =
    events-both (found_below r n) (found_one r n) ∙ ap (λ (l : List Event). l ++ loss_events (found_one r n)) (found-are r n)
    ∙ ap (λ (l : List Event). absent_losses r n ++ l) (one-is r n) ∙ sym (absents-more r n)

missing-both : (opening : ShapeOpening) (xs ys : List (ℕ × LostCause)) → AreMissing opening xs → AreMissing opening ys → AreMissing opening (xs ++ ys)
missing-both opening [] ys one two = two
missing-both opening (x ∷ xs) ys one two = (one.0, missing-both opening xs ys one.1 two)

missing-below : (opening : ShapeOpening) (r : Reading) (n : ℕ) → ((role : ℕ) → role < n → is_missing r role ≡ true → IsTrue (opening.missing role)) → AreMissing opening (found_below r n)
missing-below opening r zero was = tt
missing-below opening r (suc n) was = missing-both opening (found_below r n) (found_one r n) (missing-below opening r n (λ role lt is. was role (omega (arith, lt)) is)) (by (role_state r n) refl)
  where
    by : (state : Role) → role_state r n ≡ state → AreMissing opening (found_as n state)
    by (Whole slot) is = tt
    by (Recovering slot) is = (was n (omega arith) (ap (λ (s : Role). not (is_whole s)) is), tt)
    by Missing is = (was n (omega arith) (ap (λ (s : Role). not (is_whole s)) is), tt)

-- they are legal where the opening found those roles missing
pub absents-legal : (opening : ShapeOpening) (r : Reading) (n end : ℕ) → opening.first ≤ end → ((role : ℕ) → role < n → is_missing r role ≡ true → IsTrue (opening.missing role))
    → IsOneShapeLegal opening end (entries_of opener end (absent_losses r n))
absents-legal opening r n end rises was =
    subst (λ (l : List Event). IsOneShapeLegal opening end (entries_of opener end l)) (found-are r n)
    (found-legal opening opener end refl refl end (found_below r n) rises (omega arith) (missing-below opening r n was))

-- ---- what they leave

-- losses of roles that were found missing
abbrev pub AreAbsent : List Event → Type 0
AreAbsent [] = Unit {0}
AreAbsent (Lost role Absent ∷ events) = AreAbsent events
AreAbsent (Lost role ByRecovering ∷ events) = AreAbsent events
AreAbsent (event ∷ events) = ⊥

absent-both : (xs ys : List Event) → AreAbsent xs → AreAbsent ys → AreAbsent (xs ++ ys)
absent-both [] ys one two = two
absent-both (Lost role Absent ∷ xs) ys one two = absent-both xs ys one two
absent-both (Lost role ByRecovering ∷ xs) ys one two = absent-both xs ys one two
absent-both (event ∷ xs) ys one two = absurd one

pub absents-are : (r : Reading) (n : ℕ) → AreAbsent (absent_losses r n)
absents-are r zero = subst AreAbsent (sym (absents-first r)) tt
absents-are r (suc n) = subst AreAbsent (sym (absents-more r n)) (absent-both (absent_losses r n) (absent_loss r n) (absents-are r n) (by (role_state r n)))
  where
    by : (state : Role) → AreAbsent (found_loss n state)
    by (Whole slot) = tt
    by (Recovering slot) = tt
    by Missing = tt

pub absents-length : (who : Who) (end n : ℕ) (xs : List Event) → AreAbsent xs → fold (λ n e. length_after n e.event) n (entries_of who end xs) ≡ n
absents-length who end n [] are = refl
absents-length who end n (Lost role Absent ∷ xs) are = absents-length who end n xs are
absents-length who end n (Lost role ByRecovering ∷ xs) are = absents-length who end n xs are
absents-length who end n (event ∷ xs) are = absurd are

pub absents-limit : (who : Who) (end : ℕ) (limit : Option ℕ) (xs : List Event) → AreAbsent xs → fold (λ (limit : Option ℕ) e. limit_after limit e.event) limit (entries_of who end xs) ≡ limit
absents-limit who end limit [] are = refl
absents-limit who end limit (Lost role Absent ∷ xs) are = absents-limit who end limit xs are
absents-limit who end limit (Lost role ByRecovering ∷ xs) are = absents-limit who end limit xs are
absents-limit who end limit (event ∷ xs) are = absurd are

pub absents-left : (who : Who) (end : ℕ) (xs : List Event) → AreAbsent xs → fold (λ left e. left_after left e.event) None (entries_of who end xs) ≡ None
absents-left who end [] are = refl
absents-left who end (Lost role Absent ∷ xs) are = absents-left who end xs are
absents-left who end (Lost role ByRecovering ∷ xs) are = absents-left who end xs are
absents-left who end (event ∷ xs) are = absurd are

pub absents-values : (who : Who) (end x : ℕ) (values : List Sector) (xs : List Event) → AreAbsent xs → fold (λ values e. values_after x values e.event) values (entries_of who end xs) ≡ values
absents-values who end x values [] are = refl
absents-values who end x values (Lost role Absent ∷ xs) are = absents-values who end x values xs are
absents-values who end x values (Lost role ByRecovering ∷ xs) are = absents-values who end x values xs are
absents-values who end x values (event ∷ xs) are = absurd are

-- each sector holds what it held
pub absents-now : (list : List Sector) (who : Who) (end : ℕ) (xs : List Event) → AreAbsent xs → now list (entries_of who end xs) ≡ now list []
absents-now list who end xs are = λ i x. now-quiet list [] (entries_of who end xs) x (λ values. ap (λ (l : List Sector). slice_index_or l 0 []) (absents-values who end x values xs are)) i

pub absents-end : (first : ℕ) (who : Who) (end : ℕ) (xs : List Event) → first ≡ end → last_end_from first (entries_of who end xs) ≡ end
absents-end first who end [] is = is
absents-end first who end (x ∷ xs) is = call-ends first [] who end x xs

-- the shape stays
pub absents-keep : (who : Who) (end : ℕ) (xs : List Event) → AreAbsent xs → KeepShape (entries_of who end xs)
absents-keep who end [] are = refl
absents-keep who end (Lost role Absent ∷ xs) are = absents-keep who end xs are
absents-keep who end (Lost role ByRecovering ∷ xs) are = absents-keep who end xs are
absents-keep who end (event ∷ xs) are = absurd are

-- no role is given back
absents-give : (who : Who) (end : ℕ) (xs : List Event) → AreAbsent xs → GivesNone (entries_of who end xs)
absents-give who end [] are role = refl
absents-give who end (Lost lost Absent ∷ xs) are role = absents-give who end xs are role
absents-give who end (Lost lost ByRecovering ∷ xs) are role = absents-give who end xs are role
absents-give who end (event ∷ xs) are role = absurd are

-- and no resync ends
pub absents-ended : (who : Who) (end : ℕ) (xs : List Event) → AreAbsent xs → list_any (λ e. is_resync_end e.event) (entries_of who end xs) ≡ false
absents-ended who end [] are = refl
absents-ended who end (Lost role Absent ∷ xs) are = absents-ended who end xs are
absents-ended who end (Lost role ByRecovering ∷ xs) are = absents-ended who end xs are
absents-ended who end (event ∷ xs) are = absurd are

-- ---- what they tell

any-one : (r : Reading) (who : Who) (end role : ℕ) → is_missing r role ≡ true → list_any (λ e. loses_role role e.event) (entries_of who end (absent_loss r role)) ≡ true
any-one r who end role is = by (role_state r role) is
  where
    itself : (n : ℕ) → ((n == n) || false) ≡ true
    itself n = grind (arith, nat_tests)

    by : (state : Role) → not (is_whole state) ≡ true → list_any (λ e. loses_role role e.event) (entries_of who end (found_loss role state)) ≡ true
    by (Whole slot) is = absurd (cc)
    by (Recovering slot) is = itself role
    by Missing is = itself role

-- each of the missing roles is lost
absents-lost : (r : Reading) (who : Who) (end n role : ℕ) → role < n → is_missing r role ≡ true → IsTrue (is_lost (entries_of who end (absent_losses r n)) role)
absents-lost r who end zero role lt is = absurd (omega (arith, lt))
absents-lost r who end (suc n) role lt is =
    ap (λ (l : List Event). list_any (λ e. loses_role role e.event) (entries_of who end l)) (absents-more r n)
    ∙ ap (λ (l : List Entry). list_any (λ e. loses_role role e.event) l) (entries-both who end (absent_losses r n) (absent_loss r n))
    ∙ list_any-append (λ e. loses_role role e.event) (entries_of who end (absent_losses r n)) (entries_of who end (absent_loss r n))
    ∙ elim (cases_lt role n) [
      | inl below ↦ ap (λ (b : Bool). b || list_any (λ e. loses_role role e.event) (entries_of who end (absent_loss r n))) (absents-lost r who end n role below is)
      | inr above ↦
          let same : n ≡ role = omega (arith, lt, above) in
          ap (λ (b : Bool). list_any (λ e. loses_role role e.event) (entries_of who end (absent_losses r n)) || b)
          (ap (λ (k : ℕ). list_any (λ e. loses_role role e.event) (entries_of who end (absent_loss r k))) same ∙ any-one r who end role is)
          ∙ last (list_any (λ e. loses_role role e.event) (entries_of who end (absent_losses r n)))
    ]
  where
    last : (b : Bool) → (b || true) ≡ true
    last b = grind (arith, nat_tests)

-- and no other role is
absents-only : (r : Reading) (who : Who) (end n role : ℕ) → IsTrue (is_lost (entries_of who end (absent_losses r n)) role) → is_missing r role ≡ true
absents-only r who end zero role lost = absurd (let clash = sym (ap (λ (l : List Event). list_any (λ e. loses_role role e.event) (entries_of who end l)) (absents-first r)) ∙ lost in cc)
absents-only r who end (suc n) role lost = elim (either (list_any (λ e. loses_role role e.event) (entries_of who end (absent_losses r n))) (list_any (λ e. loses_role role e.event) (entries_of who end (absent_loss r n)))
    (sym (ap (λ (l : List Event). list_any (λ e. loses_role role e.event) (entries_of who end l)) (absents-more r n)
    ∙ ap (λ (l : List Entry). list_any (λ e. loses_role role e.event) l) (entries-both who end (absent_losses r n) (absent_loss r n))
    ∙ list_any-append (λ e. loses_role role e.event) (entries_of who end (absent_losses r n)) (entries_of who end (absent_loss r n))) ∙ lost)) [
      | inl before ↦ absents-only r who end n role before
      | inr here ↦ by (role_state r n) refl here
    ]
  where
    equal : (a b : ℕ) → ((a == b) || false) ≡ true → a ≡ b
    equal a b e = grind (arith, nat_tests, e)

    by : (state : Role) → role_state r n ≡ state → list_any (λ e. loses_role role e.event) (entries_of who end (found_loss n state)) ≡ true → is_missing r role ≡ true
    by (Whole slot) is told = absurd (cc)
    by (Recovering slot) is told = subst (λ (k : ℕ). is_missing r k ≡ true) (equal n role told) (ap (λ (s : Role). not (is_whole s)) is)
    by Missing is told = subst (λ (k : ℕ). is_missing r k ≡ true) (equal n role told) (ap (λ (s : Role). not (is_whole s)) is)

pub absents-missing : (r : Reading) (who : Who) (end n role : ℕ) → is_gone_now (entries_of who end (absent_losses r n)) role ≡ true → is_missing r role ≡ true
absents-missing r who end n role gone = elim (gone-or role [] (entries_of who end (absent_losses r n)) gone) [
  | inl none ↦ absurd (cc)
  | inr lost ↦ absents-only r who end n role lost
]

-- no slot is told to be a spare
pub absents-spares : (who : Who) (end slot : ℕ) (xs : List Event) → AreAbsent xs → is_spare_now (entries_of who end xs) slot ≡ false
absents-spares who end slot [] are = refl
absents-spares who end slot (Lost role Absent ∷ xs) are = absents-spares who end slot xs are
absents-spares who end slot (Lost role ByRecovering ∷ xs) are = absents-spares who end slot xs are
absents-spares who end slot (event ∷ xs) are = absurd are

-- and is gone, since none is given back
pub absents-told : (r : Reading) (who : Who) (end n role : ℕ) → role < n → is_missing r role ≡ true → IsTrue (is_gone_now (entries_of who end (absent_losses r n)) role)
absents-told r who end n role lt is =
    gone-lost (entries_of who end (absent_losses r n)) role (absents-give who end (absent_losses r n) (absents-are r n) role) ∙ absents-lost r who end n role lt is
