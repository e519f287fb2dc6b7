-- The role entries of a new array.
use Rattle.std.proofs.Common.{◌≡◌, ◌<◌, ◌≤◌, ◌+◌, ◌++◌, ℕ, suc, List, [], ◌∷◌, cond, nat_lt, length, get_or, take, drop, replicate, refl, sym, ap, ap₂, ◌∙◌, arith, append-nil}
use Rattle.std.proofs.lemmas.Bool.Decides.{nat_tests}
use Rattle.std.proofs.lemmas.List.{ext_get_or, get_or-take, get_or-replicate, length-take-le, length-drop, drop_all}
use Rattle.std.specs.Prelude.{slice_index_or}
use borrow.Rule.Slice.PartMut.{put_mid}
use Rattle.array_found_laws.specs.raid_types_Search.{tabulate}
use Rattle.array_found_laws.proofs.raid_types_Tabulated.{length-tabulate, get_or-tabulate}
use Rattle.sb_add_spare.specs.history_Created.{first_entries}

pub entries-first : (i : ℕ) → i < 384 → slice_index_or (replicate 384 0xfffe) i 0 ≡ cond (nat_lt i 0) i 0xfffe
entries-first i h = get_or-replicate 384 i 0xfffe 0 h ∙ sym (none_below i)
  where
    none_below : (i : ℕ) → cond (nat_lt i 0) i 0xfffe ≡ 0xfffe
    none_below i = grind (arith, nat_tests)

-- the first 128 entries are those of the array, and behind them stand the given ones
pub entries-joined : (disks : ℕ) (entries second : List ℕ) → disks ≤ 128 → length second ≡ 256 → length entries ≡ 384
    → ((i : ℕ) → i < 384 → get_or entries i 0 ≡ cond (nat_lt i disks) i 0xfffe)
    → put_mid 128 256 entries second ≡ first_entries disks ++ second
entries-joined disks entries second few long whole each = ap₂ (λ a b. a ++ b) head tail
  where
    count : length (take 128 entries) ≡ 128
    count = length-take-le 128 entries (omega (arith, whole))

    head : take 128 entries ≡ first_entries disks
    head =
        let f : ℕ → ℕ = λ number. cond (nat_lt number disks) number 0xfffe in
        ext_get_or 0 (take 128 entries) (tabulate 128 f) (count ∙ sym (length-tabulate 128 f))
        (λ i h. let within : i < 128 = omega (arith, h, count) in
        get_or-take 128 entries i 0 within ∙ each i (omega (arith, within)) ∙ sym (get_or-tabulate 128 f i 0 within))

    tail : second ++ drop 256 (drop 128 entries) ≡ second
    tail = ap (λ l. second ++ l) (drop_all 256 (drop 128 entries) (omega (arith, whole, length-drop 128 entries))) ∙ append-nil second

-- ---- lists by number

pub tabulated-none : {X : Type 0} (f : ℕ → X) → tabulate 0 f ≡ []
unfolding tabulate
tabulated-none f = refl

pub tabulated-more : {X : Type 0} (n : ℕ) (f : ℕ → X) → tabulate (n + 1) f ≡ tabulate n f ++ f n ∷ []
unfolding tabulate
tabulated-more n f = let next : n + 1 ≡ suc n = omega arith in ap (λ m. tabulate m f) next
