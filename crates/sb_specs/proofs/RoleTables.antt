-- Tables of role entries, one entry more.
use Rattle.std.proofs.Common.{◌≡◌, ℕ, zero, suc, ◌+◌, ◌<◌, List, [], ◌∷◌, ◌++◌, length, take, drop, map, set, get_or, Option, refl, ap, ◌∙◌, arith}
use Rattle.sb_codec.specs.declared.sb.Sb.{Sb}
use Rattle.sb_specs.specs.Update.{with_entry, with_entries, own_in}

-- one role more was looked at

-- one entry more was changed
changed-suc : (f : ℕ → ℕ) (table : List ℕ) (i d : ℕ) → i < length table
    → set (map f (take i table) ++ drop i table) i (f (get_or (map f (take i table) ++ drop i table) i d)) ≡ map f (take (suc i) table) ++ drop (suc i) table
changed-suc f [] i d lt = absurd (omega (arith, lt))
changed-suc f (x ∷ table) zero d lt = refl
changed-suc f (x ∷ table) (suc i) d lt = ap (λ (l : List ℕ). f x ∷ l) (changed-suc f table i d (omega (arith, lt)))

pub changed-more : (f : ℕ → ℕ) (table : List ℕ) (i d : ℕ) → i < length table
    → set (map f (take i table) ++ drop i table) i (f (get_or (map f (take i table) ++ drop i table) i d)) ≡ map f (take (i + 1) table) ++ drop (i + 1) table
changed-more f table i d lt =
    let next : suc i ≡ i + 1 = omega arith in
    changed-suc f table i d lt ∙ ap (λ (n : ℕ). map f (take n table) ++ drop n table) next

-- one slot more was entered
pub entries-first : (entries : ℕ → Option ℕ) (own : List (Option Sb)) (table : List ℕ) → with_entries entries own 0 table ≡ table
unfolding with_entries
entries-first entries own table = refl

entries-suc : (entries : ℕ → Option ℕ) (own : List (Option Sb)) (n : ℕ) (table : List ℕ) → with_entries entries own (suc n) table ≡ with_entry (entries n) (own_in own n) (with_entries entries own n table)
unfolding with_entries
entries-suc entries own n table = refl

pub entries-more : (entries : ℕ → Option ℕ) (own : List (Option Sb)) (n : ℕ) (table : List ℕ) → with_entries entries own (n + 1) table ≡ with_entry (entries n) (own_in own n) (with_entries entries own n table)
entries-more entries own n table =
    let next : n + 1 ≡ suc n = omega arith in
    ap (λ (m : ℕ). with_entries entries own m table) next ∙ entries-suc entries own n table
