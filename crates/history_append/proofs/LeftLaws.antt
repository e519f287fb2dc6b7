-- The steps left that a history tells.
use Rattle.std.proofs.Common.{◌≡◌, ℕ, Bool, true, false, cond, Option, Some, None, List, [], ◌∷◌, ◌++◌, refl, sym, ◌∙◌, subst}
use Rattle.std.specs.Prelude.{fold, IfSome}
use Rattle.std.specs.List.{list_any}
use Rattle.history_laws.specs.raid_types_the_Who.{Who}
use Rattle.array_members.specs.history_the_Entry.{Entry}
use Rattle.array_members.specs.history_the_Event.{Event}
use Rattle.array_members.specs.history_the_Event_TheVariants.{Lost, SpareLost}
use Rattle.array_members.specs.history_the_LostCause_TheVariants.{Fault}
use Rattle.array_members.specs.history_Legal.{left_after, told_left, KeepsLeft, disturbs, call_before}
use Rattle.array_members.specs.history_Plain.{entries_of}
use Rattle.history_append.proofs.CallLaws.{AreLossEvents}

-- these events tell this number of steps left, or none
abbrev pub TellLeft : ℕ → Who → ℕ → List Event → Type 0
TellLeft steps who end events = (left : Option ℕ) → IfSome left (λ n. n ≡ steps) → IfSome (fold (λ left e. left_after left e.event) left (entries_of who end events)) (λ n. n ≡ steps)

-- behind losses too
pub left-behind : (steps : ℕ) (who : Who) (end : ℕ) (xs tail : List Event) → AreLossEvents xs → TellLeft steps who end tail → TellLeft steps who end (xs ++ tail)
left-behind steps who end [] tail are tell left is = tell left is
left-behind steps who end (Lost role Fault ∷ xs) tail are tell left is = left-behind steps who end xs tail are tell None tt
left-behind steps who end (SpareLost slot ∷ xs) tail are tell left is = left-behind steps who end xs tail are tell None tt
left-behind steps who end (event ∷ xs) tail are tell left is = absurd are

-- one call behind others
pub fold-left : (left : Option ℕ) (entries added : List Entry) → fold (λ left e. left_after left e.event) left (entries ++ added) ≡ fold (λ left e. left_after left e.event) (fold (λ left e. left_after left e.event) left entries) added
fold-left left [] added = refl
fold-left left (e ∷ entries) added = fold-left (left_after left e.event) entries added

-- after a call
pub left-more : (steps : ℕ) (entries : List Entry) (who : Who) (end : ℕ) (events : List Event) → IfSome (told_left entries) (λ n. n ≡ steps) → TellLeft steps who end events
    → IfSome (told_left (entries ++ entries_of who end events)) (λ n. n ≡ steps)
left-more steps entries who end events was tell = subst (λ (o : Option ℕ). IfSome o (λ n. n ≡ steps)) (sym (fold-left None entries (entries_of who end events))) (tell (told_left entries) was)

-- a call that tells it keeps what was told
pub keeps-left : (steps : ℕ) (before : List Entry) (e : Entry) (rest : List Entry) (left : ℕ) → IfSome (told_left before) (λ n. n ≡ steps) → left ≡ steps → KeepsLeft before e rest left
keeps-left steps before e rest left was is = by (list_any (λ e. disturbs e.event) (call_before before e ++ rest)) (told_left before) was
  where
    by : (b : Bool) (o : Option ℕ) → IfSome o (λ n. n ≡ steps) → IfSome (cond b None o) (λ n. left ≡ n)
    by true o was = tt
    by false None was = tt
    by false (Some n) was = is ∙ sym was
