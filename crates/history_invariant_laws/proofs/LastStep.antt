-- What a history says of its last step, and that calls keep it: it ended with the tape, and past the list's end no sector has a value.
use Rattle.std.proofs.Common.{◌≡◌, ℕ, ◌+◌, ◌≤◌, nat_lt, Bool, true, false, not, cond, Option, Some, List, [], ◌∷◌, ◌++◌, length, fold, refl, sym, ◌∙◌, ap, arith, append_assoc, append-nil}
use Rattle.std.specs.Prelude.{filter, ⊤}
use Rattle.std.specs.Option.{option_map_or}
use Rattle.std.proofs.lemmas.Bool.Decides.{nat_tests}
use Rattle.std.proofs.lemmas.List.Elements.{filter-append}
use Rattle.history_invariant.specs.raid_types_Sectors.{Sector}
use Rattle.history_invariant.specs.raid_types_the_Who.{Who}
use Rattle.history_invariant.specs.bank_the_Operation.{Operation}
use Rattle.history_invariant.specs.history_the_Entry.{Entry}
use Rattle.history_invariant.specs.history_the_Event.{Event}
use Rattle.history_invariant.specs.history_the_Event_TheVariants.{Wrote, Torn, Lost, SpareLost, Resized}
use Rattle.history_invariant.specs.history_the_LostCause.{LostCause}
use Rattle.history_invariant.specs.history_the_LostCause_TheVariants.{Fault}
use Rattle.history_invariant.specs.history_Flat.{last_of, covers, sector_at, behind, resized, values_of, values_after}
use Rattle.history_invariant.specs.history_Growing.{grown, EndBy}
use Rattle.history_invariant.specs.history_Legal.{is_loss, last_but_losses, end_before}
use Rattle.history_invariant.specs.history_Plain.{entries_of}
use Rattle.history_invariant.specs.history_World.{World, opening_list}
use Rattle.history_invariant.proofs.history_OneShapeLegal.{last-snoc}
use Rattle.history_invariant.proofs.history_append_CallLaws.{AreLossEvents}
use Rattle.history_invariant.proofs.history_append_LosingLaws.{entries-both}
use Rattle.history_invariant.specs.Recorded.{entry_of}
use Rattle.history_invariant.proofs.Entered.{values-more}
use Rattle.history_invariant.proofs.Growing.{opening-grown}
use Rattle.history_invariant.proofs.Lists.{past-none}
use Rattle.history_invariant.proofs.Opened.{AreFound, opened-kept}
use Rattle.history_invariant.proofs.Turned.{filled-before}
use Rattle.history_invariant.proofs.history_laws_OneShapeGrowing.{loss_events}
use Rattle.history_invariant_laws.specs.Reliable.{IsNonePast, HasLastStep}

-- ---- the step before

losses-none : (who : Who) (end : ℕ) (xs : List Event) → AreLossEvents xs → filter (λ e. not (is_loss e.event)) (entries_of who end xs) ≡ []
losses-none who end [] are = refl
losses-none who end (Lost role Fault ∷ xs) are = losses-none who end xs are
losses-none who end (SpareLost slot ∷ xs) are = losses-none who end xs are
losses-none who end (event ∷ xs) are = absurd are

-- behind losses it is the same
pub last-behind : (before : List Entry) (who : Who) (end : ℕ) (xs : List Event) → AreLossEvents xs → last_but_losses (before ++ entries_of who end xs) ≡ last_but_losses before
last-behind before who end xs are =
    ap last_of (filter-append (λ e. not (is_loss e.event)) before (entries_of who end xs)
    ∙ ap (λ (l : List Entry). filter (λ e. not (is_loss e.event)) before ++ l) (losses-none who end xs are) ∙ append-nil (filter (λ e. not (is_loss e.event)) before))

-- and behind an entry that is no loss it is that
pub last-step : (before : List Entry) (e : Entry) → is_loss e.event ≡ false → last_but_losses (before ++ e ∷ []) ≡ Some e
last-step before e other =
    ap last_of (filter-append (λ e. not (is_loss e.event)) before (e ∷ [])
    ∙ ap (λ (b : Bool). filter (λ e. not (is_loss e.event)) before ++ cond (not b) (e ∷ []) []) other) ∙ last-snoc (filter (λ e. not (is_loss e.event)) before) e

-- behind a call whose last event but for losses is no loss it is the call's end
pub last-of : (world : World) (entries : List Entry) (who : Who) (end : ℕ) (xs : List Event) (event : Event) (ys : List Event) → is_loss event ≡ false → AreLossEvents ys
    → end_before world (entries ++ entries_of who end (xs ++ event ∷ ys)) ≡ end
last-of world entries who end xs event ys other losses =
    ap (λ (o : Option Entry). option_map_or (λ e. e.end) o world.first) (
    ap (λ (l : List Entry). last_but_losses l) parts
    ∙ last-behind ((entries ++ entries_of who end xs) ++ entry_of who end event ∷ []) who end ys losses
    ∙ last-step (entries ++ entries_of who end xs) (entry_of who end event) other)
  where
    parts : entries ++ entries_of who end (xs ++ event ∷ ys) ≡ ((entries ++ entries_of who end xs) ++ entry_of who end event ∷ []) ++ entries_of who end ys
    parts =
        ap (λ (l : List Entry). entries ++ l) (entries-both who end xs (event ∷ ys))
        ∙ sym (append_assoc entries (entries_of who end xs) (entry_of who end event ∷ entries_of who end ys))
        ∙ sym (append_assoc (entries ++ entries_of who end xs) (entry_of who end event ∷ []) (entries_of who end ys))

-- A call keeps it that ends with the tape, and enters some event that is no loss, and behind that only losses, if it gives no sector past the list's end a value.
pub keeps-last : (world : World) (ops : List Operation) (entries : List Entry) (size size' : ℕ) (who : Who) (xs : List Event) (event : Event) (ys : List Event) → world.first ≤ length world.tape → EndBy (length world.tape) entries
    → is_loss event ≡ false → AreLossEvents ys
    → ((x : ℕ) (values : List Sector) → size' ≤ x → (size ≤ x → values ≡ [])
    → fold (λ values e. values_after x values e.event) values (entries_of who (length (world.tape ++ ops)) (xs ++ event ∷ ys)) ≡ [])
    → IsNonePast world entries size → HasLastStep (grown world ops) (entries ++ entries_of who (length (world.tape ++ ops)) (xs ++ event ∷ ys)) size'
keeps-last world ops entries size size' who xs event ys begun ends other losses none was = record {
  last = last-of (grown world ops) entries who (length (world.tape ++ ops)) xs event ys other losses;
  past = λ fills x past.
      ap (λ (l : List Sector). values_of l (entries ++ added) x) (opening-grown world ops begun) ∙ values-more (opening_list world) entries added x
      ∙ none x (values_of (opening_list world) entries x) past (was (filled-before world ops entries added begun ends fills) x);
}
  where
    added : List Entry
    added = entries_of who (length (world.tape ++ ops)) (xs ++ event ∷ ys)

-- ---- what a call writes

-- the event gives no sector a value that lies past the end of a list of this size
abbrev pub IsWithin : ℕ → Event → Type 0
IsWithin size (Wrote at body) = at + length body ≤ size
IsWithin size (Resized n) = n ≤ size
IsWithin size event = ⊤

abbrev pub AreWithin : ℕ → List Event → Type 0
AreWithin size [] = ⊤
AreWithin size (event ∷ events) = IsWithin size event × AreWithin size events

pub losses-within : (size : ℕ) (xs tail : List Event) → AreLossEvents xs → AreWithin size tail → AreWithin size (xs ++ tail)
losses-within size [] tail are within = within
losses-within size (Lost role Fault ∷ xs) tail are within = (tt, losses-within size xs tail are within)
losses-within size (SpareLost slot ∷ xs) tail are within = (tt, losses-within size xs tail are within)
losses-within size (event ∷ xs) tail are within = absurd are

not-covered : (at : ℕ) (body : List Sector) (x : ℕ) → at + length body ≤ x → covers at body x ≡ false
not-covered at body x le = grind (arith, nat_tests, le)

not-below : (x n : ℕ) → n ≤ x → nat_lt x n ≡ false
not-below x n le = grind (arith, nat_tests, le)

one-past : (size x : ℕ) (event : Event) → size ≤ x → IsWithin size event → values_after x [] event ≡ []
one-past size x (Wrote at body) le within = ap (λ (b : Bool). cond b (sector_at at body x ∷ []) []) (not-covered at body x (omega (arith, le, within)))
one-past size x (Torn at body) le within = of (covers at body x)
  where
    of : (b : Bool) → cond b (behind (sector_at at body x) []) [] ≡ []
    of true = refl
    of false = refl
one-past size x (Resized n) le within = ap (λ (b : Bool). resized b []) (not-below x n (omega (arith, le, within)))
one-past size x event le within = refl

pub none-past : (size x : ℕ) (who : Who) (end : ℕ) (events : List Event) → size ≤ x → AreWithin size events → fold (λ values e. values_after x values e.event) [] (entries_of who end events) ≡ []
none-past size x who end [] le within = refl
none-past size x who end (event ∷ events) le within =
    ap (λ (values : List Sector). fold (λ values e. values_after x values e.event) values (entries_of who end events)) (one-past size x event le within.0) ∙ none-past size x who end events le within.1

-- ---- an opening

found-none : (who : Who) (end : ℕ) (found : List (ℕ × LostCause)) → filter (λ e. not (is_loss e.event)) (entries_of who end (loss_events found)) ≡ []
found-none who end [] = refl
found-none who end (loss ∷ found) = found-none who end found

-- and so an opening begins, whose losses stand first
pub opened-last : (world : World) (who : Who) (found : List (ℕ × LostCause)) → who.caller ≡ 254 → who.number ≡ 0 → world.first ≡ length world.tape → AreFound world found
    → HasLastStep world (entries_of who (length world.tape) (loss_events found)) (length (opening_list world))
opened-last world who found caller number first are = record {
  last = ap (λ (l : List Entry). option_map_or (λ e. e.end) (last_of l) world.first) (found-none who (length world.tape) found) ∙ first;
  past = λ fills x le.
      let kept = opened-kept ⊤ world who found caller number first are in
      past-none world (entries_of who (length world.tape) (loss_events found)) (kept.legal tt) x (let n = kept.sized in omega (arith, le, n));
}
