-- How much of a list can be read and written, by the entries that tell its length and its limit.
use Rattle.std.proofs.Common.{◌≡◌, ℕ, ◌≤◌, Option, Some, None, List, [], ◌∷◌, ◌++◌, min, ◌∙◌, ap, arith}
use Rattle.std.proofs.Math.Nat.{min-le_right}
use Rattle.std.proofs.lemmas.List.Sums.{fold-append}
use Rattle.std.specs.Prelude.{fold}
use Rattle.std.specs.Option.{option_map_or}
use Rattle.history_invariant_laws.specs.raid_types_the_Who.{Who}
use Rattle.array_reshaping_state.specs.history_the_Entry.{Entry}
use Rattle.array_reshaping_state.specs.history_the_Event_TheVariants.{Visible}
use Rattle.array_reshaping_state.specs.history_Flat.{length_of, limit_of, limit_after, visible_of}
use Rattle.array_reshaping_state.specs.history_Plain.{entries_of}
use Rattle.array_reshaping_state.specs.Left.{visible_by}

-- the visible size, by the length and the limit that the entries tell
pub visible-is : (n size : ℕ) (limit : Option ℕ) (entries : List Entry) → length_of n entries ≡ size → limit_of entries ≡ limit → visible_of n entries ≡ visible_by size limit
visible-is n size limit entries sized limited = λ i. option_map_or (λ most. min most (sized i)) (limited i) (sized i)

-- no more is visible than there is
pub visible-within : (n : ℕ) (limit : Option ℕ) → visible_by n limit ≤ n
visible-within n None = omega arith
visible-within n (Some most) = min-le_right most n

-- a limit that is told holds then
pub limit-behind : (entries : List Entry) (who : Who) (end : ℕ) (limit : Option ℕ) (count : ℕ) → limit_of (entries ++ entries_of who end (Visible limit count ∷ [])) ≡ limit
limit-behind entries who end limit count = fold-append (λ (limit : Option ℕ) e. limit_after limit e.event) None entries (entries_of who end (Visible limit count ∷ []))

-- entries that tell no limit leave it
pub limit-kept : (limit : Option ℕ) (entries added : List Entry) → limit_of entries ≡ limit → fold (λ (limit : Option ℕ) e. limit_after limit e.event) limit added ≡ limit → limit_of (entries ++ added) ≡ limit
limit-kept limit entries added limited quiet =
    fold-append (λ (limit : Option ℕ) e. limit_after limit e.event) None entries added ∙ ap (λ (limit : Option ℕ). fold (λ limit e. limit_after limit e.event) limit added) limited ∙ quiet
