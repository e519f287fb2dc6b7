-- The losses that an opening tells: they are found ones, each missing role is gone by them, and nothing else is told.
use Rattle.std.proofs.Common.{◌≡◌, inl, inr, ℕ, zero, suc, ◌<◌, ◌==◌, ◌||◌, Bool, true, false, not, Option, None, List, [], ◌∷◌, ◌++◌, fold, refl, sym, ◌∙◌, ap, ap₂, arith}
use Rattle.std.specs.List.{list_any}
use Rattle.std.proofs.lemmas.Bool.{cases_lt}
use Rattle.std.proofs.lemmas.Bool.Decides.{nat_tests}
use Rattle.std.proofs.lemmas.List.Folds.{list_any-append}
use Rattle.array_reshaping_invariant.specs.raid_types_the_Who.{Who}
use Rattle.array_reshaping_invariant.specs.raid_types_the_Role.{Role}
use Rattle.array_reshaping_invariant.specs.raid_types_the_Role_TheVariants.{Whole, Recovering, Missing}
use Rattle.array_reshaping_invariant.specs.raid_types_Sectors.{Sector}
use Rattle.array_reshaping_invariant.specs.sb_specs_Reading.{Reading, role_state, is_whole}
use Rattle.array_reshaping_invariant.specs.stripe_row_Rows.{is_missing}
use Rattle.array_reshaping_invariant.specs.history_the_Entry.{Entry}
use Rattle.array_reshaping_invariant.specs.history_the_Event.{Event}
use Rattle.array_reshaping_invariant.specs.history_the_Event_TheVariants.{Lost}
use Rattle.array_reshaping_invariant.specs.history_the_LostCause.{LostCause}
use Rattle.array_reshaping_invariant.specs.history_the_LostCause_TheVariants.{Absent, Recovering as ByRecovering}
use Rattle.array_reshaping_invariant.specs.history_Flat.{length_of, limit_of, first_values, values_after, values_of}
use Rattle.array_reshaping_invariant.specs.history_Legal.{IsAbsentAtFirst, level_after, left_after, told_left}
use Rattle.array_reshaping_invariant.specs.history_Losses.{is_gone_after, is_resync_end}
use Rattle.array_reshaping_invariant.specs.history_OneShape.{is_lost}
use Rattle.array_reshaping_invariant.specs.history_Plain.{loses_role, entries_of}
use Rattle.array_reshaping_invariant.specs.history_World.{World}
use Rattle.array_reshaping_invariant.proofs.history_laws_OneShapeGrowing.{entries-both, loss_events}
use Rattle.array_reshaping_invariant.specs.array_call_specs_Adopting.{found_loss, absent_loss, absent_losses}
use Rattle.array_reshaping_invariant.specs.history_invariant_Recorded.{gives_some}
use Rattle.array_reshaping_invariant.proofs.history_invariant_Entered.{gone-lost}
use Rattle.array_reshaping_invariant.proofs.history_invariant_Ledgers.{any-gone}
use Rattle.array_reshaping_invariant.proofs.history_invariant_Longer.{regains-none}
use Rattle.array_reshaping_invariant.proofs.history_invariant_Opened.{AreFound}
use Rattle.array_reshaping_invariant.proofs.history_invariant_Tests.{or-left, or-right}

-- ---- as they are found

abbrev one-found : ℕ → Role → List (ℕ × LostCause)
one-found role (Whole slot) = []
one-found role (Recovering slot) = (role, ByRecovering) ∷ []
one-found role Missing = (role, Absent) ∷ []

-- a loss for each role below n that isn't whole
abbrev pub all-found : Reading → ℕ → List (ℕ × LostCause)
all-found r zero = []
all-found r (suc n) = all-found r n ++ one-found n (role_state r n)

events-both : (xs ys : List (ℕ × LostCause)) → loss_events (xs ++ ys) ≡ loss_events xs ++ loss_events ys
events-both [] ys = refl
events-both (x ∷ xs) ys = ap (λ (l : List Event). Lost x.0 x.1 ∷ l) (events-both xs ys)

one-events : (role : ℕ) (state : Role) → loss_events (one-found role state) ≡ found_loss role state
one-events role (Whole slot) = refl
one-events role (Recovering slot) = refl
one-events role Missing = refl

pub events-are : (r : Reading) (n : ℕ) → loss_events (all-found r n) ≡ absent_losses r n
unfolding absent_losses
events-are r zero = refl
events-are r (suc n) = events-both (all-found r n) (one-found n (role_state r n)) ∙ ap₂ (λ (a b : List Event). a ++ b) (events-are r n) (one-events n (role_state r n))

found-both : (world : World) (xs ys : List (ℕ × LostCause)) → AreFound world xs → AreFound world ys → AreFound world (xs ++ ys)
found-both world [] ys one two = two
found-both world (x ∷ xs) ys one two = (one.0, found-both world xs ys one.1 two)

-- each is one that the opening found
pub all-absent : (world : World) (r : Reading) (n : ℕ) → ((role : ℕ) → role < n → is_missing r role ≡ true → IsAbsentAtFirst world role) → AreFound world (all-found r n)
all-absent world r zero each = tt
all-absent world r (suc n) each =
    found-both world (all-found r n) (one-found n (role_state r n)) (all-absent world r n (λ role lt miss. each role (omega (arith, lt)) miss)) (of (role_state r n) refl)
  where
    of : (state : Role) → role_state r n ≡ state → AreFound world (one-found n state)
    of (Whole slot) is = tt
    of (Recovering slot) is = (each n (omega arith) (ap (λ (s : Role). not (is_whole s)) is), tt)
    of Missing is = (each n (omega arith) (ap (λ (s : Role). not (is_whole s)) is), tt)

-- ---- who is gone by them

told-here : (n role : ℕ) (rest : Bool) → role ≡ n → ((n == role) || rest) ≡ true
told-here n role rest same = grind (arith, nat_tests, same)

told-one : (who : Who) (end n role : ℕ) (state : Role) → role ≡ n → not (is_whole state) ≡ true → is_lost (entries_of who end (found_loss n state)) role ≡ true
told-one who end n role (Whole slot) same miss = absurd (cc)
told-one who end n role (Recovering slot) same miss = told-here n role false same
told-one who end n role Missing same miss = told-here n role false same

told-lost : (who : Who) (end : ℕ) (r : Reading) (n role : ℕ) → role < n → is_missing r role ≡ true → is_lost (entries_of who end (absent_losses r n)) role ≡ true
unfolding absent_losses
told-lost who end r zero role lt miss = absurd (omega (arith, lt))
told-lost who end r (suc n) role lt miss =
    ap (λ (l : List Entry). is_lost l role) (entries-both who end (absent_losses r n) (absent_loss r n))
    ∙ list_any-append (λ (e : Entry). loses_role role e.event) (entries_of who end (absent_losses r n)) (entries_of who end (absent_loss r n))
    ∙ elim (cases_lt role n) [
      | inl below ↦ or-left (is_lost (entries_of who end (absent_losses r n)) role) (is_lost (entries_of who end (absent_loss r n)) role) (told-lost who end r n role below miss)
      | inr above ↦ (let same : role ≡ n = omega (arith, lt, above) in
          or-right (is_lost (entries_of who end (absent_losses r n)) role) (is_lost (entries_of who end (absent_loss r n)) role)
          (told-one who end n role (role_state r n) same (ap (λ (k : ℕ). is_missing r k) (sym same) ∙ miss)))
    ]

-- ---- what else they tell

none-given : (who : Who) (end : ℕ) (found : List (ℕ × LostCause)) → list_any (λ (e : Entry). gives_some e.event) (entries_of who end (loss_events found)) ≡ false
none-given who end [] = refl
none-given who end (x ∷ found) = none-given who end found

none-ended : (who : Who) (end : ℕ) (found : List (ℕ × LostCause)) → list_any (λ (e : Entry). is_resync_end e.event) (entries_of who end (loss_events found)) ≡ false
none-ended who end [] = refl
none-ended who end (x ∷ found) = none-ended who end found

level-kept : (n : ℕ) (who : Who) (end : ℕ) (found : List (ℕ × LostCause)) → fold (λ (level : ℕ) (e : Entry). level_after level e.event) n (entries_of who end (loss_events found)) ≡ n
level-kept n who end [] = refl
level-kept n who end (x ∷ found) = level-kept n who end found

none-left : (who : Who) (end : ℕ) (found : List (ℕ × LostCause)) → fold (λ (left : Option ℕ) (e : Entry). left_after left e.event) None (entries_of who end (loss_events found)) ≡ None
none-left who end [] = refl
none-left who end (x ∷ found) = none-left who end found

none-limited : (who : Who) (end : ℕ) (found : List (ℕ × LostCause)) → limit_of (entries_of who end (loss_events found)) ≡ None
none-limited who end [] = refl
none-limited who end (x ∷ found) = none-limited who end found

length-kept : (n : ℕ) (who : Who) (end : ℕ) (found : List (ℕ × LostCause)) → length_of n (entries_of who end (loss_events found)) ≡ n
length-kept n who end [] = refl
length-kept n who end (x ∷ found) = length-kept n who end found

values-kept : (x : ℕ) (values : List Sector) (who : Who) (end : ℕ) (found : List (ℕ × LostCause)) → fold (λ (values : List Sector) (e : Entry). values_after x values e.event) values (entries_of who end (loss_events found)) ≡ values
values-kept x values who end [] = refl
values-kept x values who end (loss ∷ found) = values-kept x values who end found

module _ (who : Who) (end : ℕ) (r : Reading) (n : ℕ) where
  abbrev entries : List Entry
  entries = entries_of who end (absent_losses r n)

  as-found : entries_of who end (loss_events (all-found r n)) ≡ entries_of who end (absent_losses r n)
  as-found = ap (entries_of who end) (events-are r n)

  -- each role that isn't whole is gone
  pub all-gone : (world : World) (role : ℕ) → role < n → is_missing r role ≡ true → is_gone_after world (entries_of who end (absent_losses r n)) role ≡ true
  all-gone world role lt miss =
      any-gone world role [] entries
      (regains-none world role entries (ap (list_any (λ (e : Entry). gives_some e.event)) (sym as-found) ∙ none-given who end (all-found r n)))
      (gone-lost world [] entries role (told-lost who end r n role lt miss))

  pub no-resync : list_any (λ (e : Entry). is_resync_end e.event) (entries_of who end (absent_losses r n)) ≡ false
  no-resync = ap (list_any (λ (e : Entry). is_resync_end e.event)) (sym as-found) ∙ none-ended who end (all-found r n)

  pub same-level : (level : ℕ) → fold (λ (level : ℕ) (e : Entry). level_after level e.event) level (entries_of who end (absent_losses r n)) ≡ level
  same-level level = ap (fold (λ (level : ℕ) (e : Entry). level_after level e.event) level) (sym as-found) ∙ level-kept level who end (all-found r n)

  pub no-left : told_left (entries_of who end (absent_losses r n)) ≡ None
  no-left = ap told_left (sym as-found) ∙ none-left who end (all-found r n)

  pub no-limit : limit_of (entries_of who end (absent_losses r n)) ≡ None
  no-limit = ap limit_of (sym as-found) ∙ none-limited who end (all-found r n)

  pub same-length : (size : ℕ) → length_of size (entries_of who end (absent_losses r n)) ≡ size
  same-length size = ap (length_of size) (sym as-found) ∙ length-kept size who end (all-found r n)

  pub same-values : (list : List Sector) (x : ℕ) → values_of list (entries_of who end (absent_losses r n)) x ≡ first_values list x
  unfolding values_of
  same-values list x = ap (λ (l : List Entry). fold (λ (values : List Sector) (e : Entry). values_after x values e.event) (first_values list x) l) (sym as-found) ∙ values-kept x (first_values list x) who end (all-found r n)
