-- A set of values that bounds what a stop may leave before a stretch of operations, and has all that they write, bounds it
-- at each mark of the stretch: so one proof about these values serves every image of every mark.
use Rattle.std.proofs.Common.{◌≡◌, ◌⊎◌, inl, inr, ℕ, ◌≤◌, List, [], ◌∷◌, length, sym, ◌∙◌, subst}
use Rattle.std.proofs.lemmas.Bool.{cases_eq}
use Rattle.raid_types.specs.Sectors.{Sector}
use Rattle.bank.specs.declared.bank.Operation.{Operation}
use Rattle.bank.specs.declared.bank.Operation.TheVariants.{Write, Flush}
use Rattle.bank.specs.Tape.{Contents, IsIn, IsImage, IsDrawn, choices_after, run, EachMark}
use Rattle.bank.specs.Stretches.{IsBoundedBy, AreWritesWithin}
use Rattle.bank.proofs.Laws.{choices_after-write_here, choices_after-write_other, choices-kept, kept_in}
use Rattle.bank.proofs.Marks.{Along}
use Rattle.bank.proofs.Images.{drawn-fewer, image-drawn}

-- a value after a write was there before, or is what it wrote
written-in : (s k t j : ℕ) (w v : Sector) (vs : List Sector) → IsIn (choices_after s k (Write t j w) vs) v → IsIn vs v ⊎ ((t ≡ s) × (j ≡ k) × (v ≡ w))
written-in s k t j w v vs held = elim (cases_eq t s) [
  | inl same ↦ elim (cases_eq j k) [
    | inl same' ↦ here same same' (subst (λ (l : List Sector). IsIn l v) ((λ i. choices_after s k (Write (same i) (same' i) w) vs) ∙ choices_after-write_here s k w vs) held)
    | inr other ↦ inl (subst (λ (l : List Sector). IsIn l v) (choices_after-write_other s k t j w vs (inr other)) held)
  ]
  | inr other ↦ inl (subst (λ (l : List Sector). IsIn l v) (choices_after-write_other s k t j w vs (inl other)) held)
]
  where
    here : t ≡ s → j ≡ k → (v ≡ w) ⊎ IsIn vs v → IsIn vs v ⊎ ((t ≡ s) × (j ≡ k) × (v ≡ w))
    here same same' (inl new) = inr (same, same', new)
    here same same' (inr old) = inl old

one_bounded : (bound d : ℕ → ℕ → List Sector) (op : Operation) → IsBoundedBy bound d → AreWritesWithin bound (op ∷ []) → IsBoundedBy bound (run d (op ∷ []))
one_bounded bound d (Flush t) bounded within s k v held =
    bounded s k v (kept_in (d s k) (choices_after s k (Flush t) (d s k)) v (choices-kept s k (d s k) (Flush t ∷ []) tt) held)
one_bounded bound d (Write t j w) bounded within s k v held = by_case (written-in s k t j w v (d s k) held)
  where
    by_case : IsIn (d s k) v ⊎ ((t ≡ s) × (j ≡ k) × (v ≡ w)) → IsIn (bound s k) v
    by_case (inl old) = bounded s k v old
    by_case (inr new) = subst (λ (x : Sector). IsIn (bound s k) x) (sym new.2) (subst (λ (a : ℕ). IsIn (bound a k) w) new.0 (subst (λ (b : ℕ). IsIn (bound t b) w) new.1 within.0))

pub bounded-along : (bound d : ℕ → ℕ → List Sector) (ops : List Operation) → IsBoundedBy bound d → AreWritesWithin bound ops → Along (IsBoundedBy bound) d ops
bounded-along bound d [] bounded within = bounded
bounded-along bound d (Write t j w ∷ ops) bounded within =
    (bounded, bounded-along bound (run d (Write t j w ∷ [])) ops (one_bounded bound d (Write t j w) bounded (within.0, tt)) within.1)
bounded-along bound d (Flush t ∷ ops) bounded within =
    (bounded, bounded-along bound (run d (Flush t ∷ [])) ops (one_bounded bound d (Flush t) bounded tt) within)

-- so each image of each mark is drawn from these values
pub bounded-image : {tells : Type 0} (start : Contents) (bound : ℕ → ℕ → List Sector) (old new : List Operation) → EachMark tells start old new (IsBoundedBy bound)
    → tells → (m : ℕ) → length old ≤ m → m ≤ length new → (c : Contents) → IsImage start new m c → IsDrawn bound c
bounded-image start bound old new marks told m low high c image =
    drawn-fewer _ bound c (marks.each told m low high) (image-drawn start new m c high image)
