-- How a legal history grows by a call.
use Rattle.std.proofs.Common.{◌≡◌, ℕ, ◌+◌, ◌==◌, ◌&&◌, Bool, true, false, cond, Option, Some, List, [], ◌∷◌, ◌++◌, unwrap_or, refl, ◌∙◌, ap, arith}
use Rattle.std.proofs.lemmas.Bool.Decides.{nat_tests}
use Rattle.std.specs.Prelude.{fold}
use Rattle.history_laws.specs.raid_types_the_Who.{Who}
use Rattle.array_members.specs.history_the_Entry.{Entry}
use Rattle.array_members.specs.history_the_Event.{Event}
use Rattle.array_members.specs.history_Flat.{is_same_call, rest_of_call, last_of, number_after}
use Rattle.array_members.specs.history_Growing.{BeginAnother}
use Rattle.array_members.specs.history_Plain.{entries_of}

-- one entry of a call
abbrev pub one : Who → ℕ → Event → Entry
one who end event = record { caller = who.caller; number = who.number; end = end; event = event }

-- ---- one call

same_call : (who : Who) (end : ℕ) (a b : Event) → is_same_call (one who end a) (one who end b) ≡ true
same_call who end a b = grind (arith, nat_tests)

-- all of a call's entries are of the call
pub rest_whole : (who : Who) (end : ℕ) (event : Event) (events : List Event) → rest_of_call (one who end event) (entries_of who end events) ≡ entries_of who end events
rest_whole who end event [] = refl
rest_whole who end event (next ∷ events) =
    ap (λ (b : Bool). cond b (one who end next ∷ rest_of_call (one who end event) (entries_of who end events)) []) (same_call who end event next)
    ∙ ap (λ (l : List Entry). one who end next ∷ l) (rest_whole who end event events)

pub last-snoc : (xs : List Entry) (e : Entry) → last_of (xs ++ e ∷ []) ≡ Some e
last-snoc [] e = refl
last-snoc (x ∷ xs) e = ap (λ (o : Option Entry). Some (unwrap_or o x)) (last-snoc xs e)

-- the next number begins another call
pub begins : (entries : List Entry) (start : ℕ) (who : Who) (end : ℕ) (event : Event) (events : List Event)
    → who.number ≡ fold (number_after who.caller) start entries → BeginAnother (last_of entries) (entries_of who end (event ∷ events))
begins [] start who end event events number = tt
begins (e ∷ []) start who end event events number = other e.caller e.number who.caller who.number start number
  where
    other : (c n caller n' start : ℕ) → n' ≡ (cond (c == caller) (n + 1) start) → ((c == caller) && (n == n')) ≡ false
    other c n caller n' start is = grind (arith, nat_tests, is)
begins (e ∷ x ∷ entries) start who end event events number = begins (x ∷ entries) (number_after who.caller start e) who end event events number
