-- What a cache's rows keep: each row stands once, and a delayed row leaves only where a call gives it out.
use Rattle.std.proofs.Common.{◌≡◌, ℕ, zero, suc, ◌-◌, ◌<◌, ◌≤◌, ◌⊎◌, inl, inr, ◌==◌, Bool, true, false, ◌&&◌, cond, List, [], ◌∷◌, length, take, slice_get, Option, Some, None, bit_or, refl, sym, ap, ap₂, ◌∙◌, subst, arith}
use Rattle.std.specs.Option.{option_map_or}
use Rattle.std.specs.List.{find}
use Rattle.std.proofs.lemmas.Bool.Decides.{nat_tests}
use Rattle.std.proofs.lemmas.Grind.{common_steps}
use Rattle.raid_types.specs.declared.places.Side.{Side}
use Rattle.raid_types.specs.declared.places.Side.TheVariants.{Old, New}
use Rattle.stripe_cache.specs.declared.cached.Cached.{Cached}
use Rattle.stripe_cache.specs.Rows.{Rows, same_side, is_row, is_delayed, held_row, without, used, kept, pushed_out, if_delayed, leaving}
use Rattle.stripe_cache.specs.Apart.{IsApart, IsCache}
use Rattle.stripe_cache.proofs.Views.{without-none}

-- names of rows
side_true : (a b : Side) → same_side a b ≡ true → a ≡ b
side_true Old Old h = refl
side_true New New h = refl
side_true Old New h = absurd (cc)
side_true New Old h = absurd (cc)

side_self : (a : Side) → same_side a a ≡ true
side_self Old = refl
side_self New = refl

both : (a b : Bool) → (a && b) ≡ true → (a ≡ true) × (b ≡ true)
both true b h = (refl, h)
both false b h = absurd (cc)

pub is_row-true : (s : Side) (r : ℕ) (c : Cached) → is_row s r c ≡ true → (s ≡ c.side) × (r ≡ c.row)
is_row-true s r c h =
    let parts : (same_side s c.side ≡ true) × ((r == c.row) ≡ true) = both (same_side s c.side) (r == c.row) h in
    (side_true s c.side parts.0, same r c.row parts.1)
  where
    same : (a b : ℕ) → (a == b) ≡ true → a ≡ b
    same a b h = grind (arith, nat_tests)

pub is_row-self : (c : Cached) → is_row c.side c.row c ≡ true
is_row-self c = ap₂ (λ a b. a && b) (side_self c.side) (same c.row)
  where
    same : (a : ℕ) → (a == a) ≡ true
    same a = grind (arith, nat_tests)

-- a row of this name has the tests of the name
same_test : (s : Side) (r : ℕ) (c d : Cached) → is_row s r c ≡ true → is_row c.side c.row d ≡ is_row s r d
same_test s r c d h = let names : (s ≡ c.side) × (r ≡ c.row) = is_row-true s r c h in ap₂ (λ s r. is_row s r d) (sym names.0) (sym names.1)

same_find : (s : Side) (r : ℕ) (c : Cached) (rows : List Cached) → is_row s r c ≡ true → find (is_row c.side c.row) rows ≡ find (is_row s r) rows
same_find s r c rows h = let names : (s ≡ c.side) × (r ≡ c.row) = is_row-true s r c h in ap₂ (λ s r. find (is_row s r) rows) (sym names.0) (sym names.1)

by_bool : (P : Type 0) (b : Bool) → (b ≡ true → P) → (b ≡ false → P) → P
by_bool P true yes' no' = yes' refl
by_bool P false yes' no' = no' refl

-- one step of each function
find-here : (q : Cached → Bool) (c : Cached) (cs : List Cached) → q c ≡ true → find q (c ∷ cs) ≡ Some c
find-here q c cs h = ap (λ b. cond b (Some c) (find q cs)) h

find-later : (q : Cached → Bool) (c : Cached) (cs : List Cached) → q c ≡ false → find q (c ∷ cs) ≡ find q cs
find-later q c cs h = ap (λ b. cond b (Some c) (find q cs)) h

without-here : (p : Cached → Bool) (c : Cached) (cs : List Cached) → p c ≡ true → without p (c ∷ cs) ≡ cs
without-here p c cs h = ap (λ b. cond b cs (c ∷ without p cs)) h

without-later : (p : Cached → Bool) (c : Cached) (cs : List Cached) → p c ≡ false → without p (c ∷ cs) ≡ c ∷ without p cs
without-later p c cs h = ap (λ b. cond b cs (c ∷ without p cs)) h

some_none : (P : Type 0) (c : Cached) (o : Option Cached) → o ≡ Some c → o ≡ None → P
some_none P c o e f = absurd (cc)

inner : (c d : Cached) → Some c ≡ Some d → c ≡ d
inner c d h = cc

-- what is found passes
pub find-passes : (q : Cached → Bool) (cs : List Cached) (d : Cached) → find q cs ≡ Some d → q d ≡ true
find-passes q [] d h = absurd (cc)
find-passes q (c ∷ cs) d h = by_bool (q d ≡ true) (q c)
    (λ t. subst (λ c. q c ≡ true) (inner c d (sym (find-here q c cs t) ∙ h)) t)
    (λ t. find-passes q cs d (sym (find-later q c cs t) ∙ h))

-- where none is found none is found that another test finds
none_of : (q p : Cached → Bool) (cs : List Cached) (d : Cached) → find q cs ≡ None → find p cs ≡ Some d → q d ≡ false
none_of q p [] d none found = absurd (cc)
none_of q p (c ∷ cs) d none found = by_bool (q d ≡ false) (q c)
    (λ t. some_none (q d ≡ false) c (find q (c ∷ cs)) (find-here q c cs t) none)
    (λ t. by_bool (q d ≡ false) (p c)
    (λ u. subst (λ c. q c ≡ false) (inner c d (sym (find-here p c cs u) ∙ found)) t)
    (λ u. none_of q p cs d (sym (find-later q c cs t) ∙ none) (sym (find-later p c cs u) ∙ found)))

none_without : (q p : Cached → Bool) (cs : List Cached) → find q cs ≡ None → find q (without p cs) ≡ None
none_without q p [] none = refl
none_without q p (c ∷ cs) none = by_bool (find q (without p (c ∷ cs)) ≡ None) (q c)
    (λ t. some_none (find q (without p (c ∷ cs)) ≡ None) c (find q (c ∷ cs)) (find-here q c cs t) none)
    (λ t. let rest : find q cs ≡ None = sym (find-later q c cs t) ∙ none in by_bool (find q (without p (c ∷ cs)) ≡ None) (p c)
    (λ u. ap (λ xs. find q xs) (without-here p c cs u) ∙ rest)
    (λ u. ap (λ xs. find q xs) (without-later p c cs u) ∙ find-later q c (without p cs) t ∙ none_without q p cs rest))

none_take : (q : Cached → Bool) (n : ℕ) (cs : List Cached) → find q cs ≡ None → find q (take n cs) ≡ None
none_take q zero cs none = refl
none_take q (suc n) [] none = refl
none_take q (suc n) (c ∷ cs) none = by_bool (find q (take (suc n) (c ∷ cs)) ≡ None) (q c)
    (λ t. some_none (find q (take (suc n) (c ∷ cs)) ≡ None) c (find q (c ∷ cs)) (find-here q c cs t) none)
    (λ t. find-later q c (take n cs) t ∙ none_take q n cs (sym (find-later q c cs t) ∙ none))

-- rows stay apart
apart_without : (p : Cached → Bool) (cs : List Cached) → IsApart cs → IsApart (without p cs)
apart_without p [] apart = tt
apart_without p (c ∷ cs) apart = by_bool (IsApart (without p (c ∷ cs))) (p c)
    (λ t. subst IsApart (sym (without-here p c cs t)) apart.1)
    (λ t. subst IsApart (sym (without-later p c cs t)) (none_without (is_row c.side c.row) p cs apart.0, apart_without p cs apart.1))

apart_take : (n : ℕ) (cs : List Cached) → IsApart cs → IsApart (take n cs)
apart_take zero cs apart = tt
apart_take (suc n) [] apart = tt
apart_take (suc n) (c ∷ cs) apart = (none_take (is_row c.side c.row) n cs apart.0, apart_take n cs apart.1)

-- a row that is taken out by any test is gone
gone : (p : Cached → Bool) (s : Side) (r : ℕ) (cs : List Cached) (d : Cached) → IsApart cs → find p cs ≡ Some d → is_row s r d ≡ true → find (is_row s r) (without p cs) ≡ None
gone p s r [] d apart found name = absurd (cc)
gone p s r (c ∷ cs) d apart found name = by_bool (find (is_row s r) (without p (c ∷ cs)) ≡ None) (p c)
    (λ t. let same : c ≡ d = inner c d (sym (find-here p c cs t) ∙ found) in
    ap (λ xs. find (is_row s r) xs) (without-here p c cs t) ∙ sym (same_find s r c cs (subst (λ d. is_row s r d ≡ true) (sym same) name)) ∙ apart.0)
    (λ t. let later : find p cs ≡ Some d = sym (find-later p c cs t) ∙ found in
    let other : is_row s r c ≡ false = by_bool (is_row s r c ≡ false) (is_row s r c)
    (λ u. absurd (never (sym name ∙ sym (same_test s r c d u) ∙ none_of (is_row c.side c.row) p cs d apart.0 later)))
    (λ u. u) in
    ap (λ xs. find (is_row s r) xs) (without-later p c cs t) ∙ find-later (is_row s r) c (without p cs) other ∙ gone p s r cs d apart.1 later name)
  where
    never : true ≡ false → ⊥
    never h = cc

-- the other rows stay
stays : (p : Cached → Bool) (s : Side) (r : ℕ) (cs : List Cached) (d : Cached) → find p cs ≡ Some d → is_row s r d ≡ false → find (is_row s r) (without p cs) ≡ find (is_row s r) cs
stays p s r [] d found name = refl
stays p s r (c ∷ cs) d found name = by_bool (find (is_row s r) (without p (c ∷ cs)) ≡ find (is_row s r) (c ∷ cs)) (p c)
    (λ t. let same : c ≡ d = inner c d (sym (find-here p c cs t) ∙ found) in
    ap (λ xs. find (is_row s r) xs) (without-here p c cs t) ∙ sym (find-later (is_row s r) c cs (subst (λ d. is_row s r d ≡ false) (sym same) name)))
    (λ t. let later : find p cs ≡ Some d = sym (find-later p c cs t) ∙ found in
    ap (λ xs. find (is_row s r) xs) (without-later p c cs t) ∙ ap (λ o. cond (is_row s r c) (Some c) o) (stays p s r cs d later name))

pub length_without : (p : Cached → Bool) (cs : List Cached) (d : Cached) → find p cs ≡ Some d → suc (length (without p cs)) ≡ length cs
length_without p [] d found = absurd (cc)
length_without p (c ∷ cs) d found = by_bool (suc (length (without p (c ∷ cs))) ≡ length (c ∷ cs)) (p c)
    (λ t. ap (λ xs. suc (length xs)) (without-here p c cs t))
    (λ t. ap (λ xs. suc (length xs)) (without-later p c cs t) ∙ ap (λ n. suc n) (length_without p cs d (sym (find-later p c cs t) ∙ found)))

-- a new cache
pub IsCache-new : (room : ℕ) → 0 < room → IsCache (record { held = []; room = room })
IsCache-new room h = record { apart = tt; fits = omega (arith, h); some = h }

-- a use of a row changes no row
pub held_row-used : (side : Side) (row : ℕ) (rows : Rows) → IsCache rows → (s : Side) (r : ℕ) → held_row s r (used side row rows) ≡ held_row s r rows
held_row-used side row rows cache s r = by_row (held_row side row rows) refl
  where
    by_row : (o : Option Cached) → held_row side row rows ≡ o
        → find (is_row s r) (option_map_or (λ cached. cached ∷ without (is_row side row) rows.held) o rows.held) ≡ find (is_row s r) rows.held
    by_row None found = refl
    by_row (Some c) found = by_bool (find (is_row s r) (c ∷ without (is_row side row) rows.held) ≡ find (is_row s r) rows.held) (is_row s r c)
        (λ t. let mine : is_row side row c ≡ true = find-passes (is_row side row) rows.held c found in
        find-here (is_row s r) c (without (is_row side row) rows.held) t
        ∙ sym (sym (same_find s r c rows.held t) ∙ same_find side row c rows.held mine ∙ found))
        (λ t. find-later (is_row s r) c (without (is_row side row) rows.held) t ∙ stays (is_row side row) s r rows.held c found t)

pub IsCache-used : (side : Side) (row : ℕ) (rows : Rows) → IsCache rows → IsCache (used side row rows)
IsCache-used side row rows cache = by_row (held_row side row rows) refl
  where
    by_row : (o : Option Cached) → held_row side row rows ≡ o
        → IsCache (record rows { held = option_map_or (λ cached. cached ∷ without (is_row side row) rows.held) o rows.held })
    by_row None found = cache
    by_row (Some c) found =
        let mine : is_row side row c ≡ true = find-passes (is_row side row) rows.held c found in
        let n : suc (length (without (is_row side row) rows.held)) ≡ length rows.held = length_without (is_row side row) rows.held c found in
        record {
          apart = (same_find side row c (without (is_row side row) rows.held) mine ∙ gone (is_row side row) side row rows.held c cache.apart found mine, apart_without (is_row side row) rows.held cache.apart);
          fits = omega (arith, n, cache.fits);
          some = cache.some;
        }

-- a row that was kept is held, with its sectors, and with its earlier changed roles besides
pub held_row-kept : (cached : Cached) (rows : Rows)
    → held_row cached.side cached.row (kept cached rows)
    ≡ Some (record cached { changed = option_map_or (λ old. bit_or old.changed cached.changed) (held_row cached.side cached.row rows) cached.changed })
held_row-kept cached rows = by_row (held_row cached.side cached.row rows)
  where
    by_row : (o : Option Cached)
        → find (is_row cached.side cached.row) (option_map_or (λ old. record cached { changed = bit_or old.changed cached.changed } ∷ without (is_row cached.side cached.row) rows.held) o (cached ∷ take (rows.room - 1) rows.held))
        ≡ Some (record cached { changed = option_map_or (λ old. bit_or old.changed cached.changed) o cached.changed })
    by_row None = find-here (is_row cached.side cached.row) cached (take (rows.room - 1) rows.held) (is_row-self cached)
    by_row (Some old) = find-here (is_row cached.side cached.row) (record cached { changed = bit_or old.changed cached.changed }) (without (is_row cached.side cached.row) rows.held) (is_row-self cached)

-- of a list that is one longer at most, a front has what it has, but for the last
find-front : (q : Cached → Bool) (n : ℕ) (cs : List Cached) (d : Cached) → length cs ≤ suc n → find q cs ≡ Some d → (find q (take n cs) ≡ Some d) ⊎ (slice_get cs n ≡ Some d)
find-front q n [] d fits found = absurd (cc)
find-front q zero (c ∷ []) d fits found = by_bool ((find q (take zero (c ∷ [])) ≡ Some d) ⊎ (slice_get (c ∷ []) zero ≡ Some d)) (q c)
    (λ t. inr (sym (find-here q c [] t) ∙ found))
    (λ t. absurd (never d (sym (find-later q c [] t) ∙ found)))
  where
    never : (d : Cached) → None ≡ Some d → ⊥
    never d h = cc
find-front q zero (c ∷ b ∷ cs) d fits found = absurd (omega (arith, fits))
find-front q (suc n) (c ∷ cs) d fits found = by_bool ((find q (take (suc n) (c ∷ cs)) ≡ Some d) ⊎ (slice_get (c ∷ cs) (suc n) ≡ Some d)) (q c)
    (λ t. inl (find-here q c (take n cs) t ∙ sym (find-here q c cs t) ∙ found))
    (λ t. elim (find-front q n cs d (omega (arith, fits)) (sym (find-later q c cs t) ∙ found)) [
      | inl here ↦ inl (find-later q c (take n cs) t ∙ here)
      | inr last ↦ inr last
    ])

-- another row stays, or is pushed out
pub held_row-kept_other : (cached : Cached) (rows : Rows) → IsCache rows → (s : Side) (r : ℕ) (d : Cached) → is_row s r cached ≡ false → held_row s r rows ≡ Some d
    → (held_row s r (kept cached rows) ≡ Some d) ⊎ (held_row cached.side cached.row rows ≡ None) × (pushed_out rows ≡ Some d)
held_row-kept_other cached rows cache s r d name found = by_row (held_row cached.side cached.row rows) refl
  where
    by_row : (o : Option Cached) → held_row cached.side cached.row rows ≡ o
        → (find (is_row s r) (option_map_or (λ old. record cached { changed = bit_or old.changed cached.changed } ∷ without (is_row cached.side cached.row) rows.held) o (cached ∷ take (rows.room - 1) rows.held)) ≡ Some d)
        ⊎ (o ≡ None) × (pushed_out rows ≡ Some d)
    by_row None absent = elim (find-front (is_row s r) (rows.room - 1) rows.held d (omega (arith, cache.fits, cache.some)) found) [
      | inl here ↦ inl (find-later (is_row s r) cached (take (rows.room - 1) rows.held) name ∙ here)
      | inr last ↦ inr (refl, last)
    ]
    by_row (Some old) there =
        let mine : is_row cached.side cached.row old ≡ true = find-passes (is_row cached.side cached.row) rows.held old there in
        let other : is_row s r old ≡ false = by_bool (is_row s r old ≡ false) (is_row s r old)
        (λ t. absurd (never (sym (is_row-self cached) ∙ renamed old t mine ∙ name)))
        (λ t. t) in
        inl (find-later (is_row s r) (record cached { changed = bit_or old.changed cached.changed }) (without (is_row cached.side cached.row) rows.held) name
        ∙ stays (is_row cached.side cached.row) s r rows.held old there other ∙ found)
      where
        never : true ≡ false → ⊥
        never h = cc

        -- a row with both names has one
        renamed : (old : Cached) → is_row s r old ≡ true → is_row cached.side cached.row old ≡ true → is_row cached.side cached.row cached ≡ is_row s r cached
        renamed old t mine = sym (same_test cached.side cached.row old cached mine) ∙ same_test s r old cached t

-- a row that isn't held isn't held afterwards, but for the kept one
pub held_row-kept_none : (cached : Cached) (rows : Rows) (s : Side) (r : ℕ) → is_row s r cached ≡ false → held_row s r rows ≡ None → held_row s r (kept cached rows) ≡ None
held_row-kept_none cached rows s r name none = by_row (held_row cached.side cached.row rows)
  where
    by_row : (o : Option Cached)
        → find (is_row s r) (option_map_or (λ old. record cached { changed = bit_or old.changed cached.changed } ∷ without (is_row cached.side cached.row) rows.held) o (cached ∷ take (rows.room - 1) rows.held)) ≡ None
    by_row None = find-later (is_row s r) cached (take (rows.room - 1) rows.held) name ∙ none_take (is_row s r) (rows.room - 1) rows.held none
    by_row (Some old) = find-later (is_row s r) (record cached { changed = bit_or old.changed cached.changed }) (without (is_row cached.side cached.row) rows.held) name
        ∙ none_without (is_row s r) (is_row cached.side cached.row) rows.held none

-- a delayed row stays, or leaves by the answer
pub delayed-kept_other : (cached : Cached) (rows : Rows) → IsCache rows → (s : Side) (r : ℕ) (d : Cached) → is_row s r cached ≡ false → held_row s r rows ≡ Some d → is_delayed d ≡ true
    → (held_row s r (kept cached rows) ≡ Some d) ⊎ (leaving cached rows ≡ Some d)
delayed-kept_other cached rows cache s r d name found delayed = elim (held_row-kept_other cached rows cache s r d name found) [
  | inl here ↦ inl here
  | inr out ↦ inr (ap₂ (λ o p. option_map_or (λ old. None) o (if_delayed p)) out.0 out.1 ∙ ap (λ b. cond b (Some d) None) delayed)
]

pub IsCache-kept : (cached : Cached) (rows : Rows) → IsCache rows → IsCache (kept cached rows)
IsCache-kept cached rows cache = by_row (held_row cached.side cached.row rows) refl
  where
    by_row : (o : Option Cached) → held_row cached.side cached.row rows ≡ o
        → IsCache (record rows { held = option_map_or (λ old. record cached { changed = bit_or old.changed cached.changed } ∷ without (is_row cached.side cached.row) rows.held) o (cached ∷ take (rows.room - 1) rows.held) })
    by_row None absent =
        let n : length (take (rows.room - 1) rows.held) ≤ rows.room - 1 = length_take (rows.room - 1) rows.held in
        record {
          apart = (none_take (is_row cached.side cached.row) (rows.room - 1) rows.held absent, apart_take (rows.room - 1) rows.held cache.apart);
          fits = omega (arith, n, cache.some);
          some = cache.some;
        }
      where
        length_take : (n : ℕ) (cs : List Cached) → length (take n cs) ≤ n
        length_take n cs = grind (arith, common_steps)
    by_row (Some old) there =
        let mine : is_row cached.side cached.row old ≡ true = find-passes (is_row cached.side cached.row) rows.held old there in
        let n : suc (length (without (is_row cached.side cached.row) rows.held)) ≡ length rows.held = length_without (is_row cached.side cached.row) rows.held old there in
        record {
          apart = (gone (is_row cached.side cached.row) cached.side cached.row rows.held old cache.apart there mine, apart_without (is_row cached.side cached.row) rows.held cache.apart);
          fits = omega (arith, n, cache.fits);
          some = cache.some;
        }

-- a row that is taken out by any test is gone, and the others stay
pub held_row-without : (p : Cached → Bool) (rows : Rows) → IsCache rows → (d : Cached) → find p rows.held ≡ Some d
    → held_row d.side d.row (record rows { held = without p rows.held }) ≡ None
held_row-without p rows cache d found = gone p d.side d.row rows.held d cache.apart found (is_row-self d)

pub held_row-without_other : (p : Cached → Bool) (rows : Rows) (d : Cached) → find p rows.held ≡ Some d → (s : Side) (r : ℕ) → is_row s r d ≡ false
    → held_row s r (record rows { held = without p rows.held }) ≡ held_row s r rows
held_row-without_other p rows d found s r name = stays p s r rows.held d found name

pub IsCache-without : (p : Cached → Bool) (rows : Rows) → IsCache rows → IsCache (record rows { held = without p rows.held })
IsCache-without p rows cache = by_row (find p rows.held) refl
  where
    by_row : (o : Option Cached) → find p rows.held ≡ o → IsCache (record rows { held = without p rows.held })
    by_row None none = subst (λ held. IsCache (record rows { held = held })) (sym (without-none p rows.held none)) cache
    by_row (Some d) found =
        let n : suc (length (without p rows.held)) ≡ length rows.held = length_without p rows.held d found in
        record { apart = apart_without p rows.held cache.apart; fits = omega (arith, n, cache.fits); some = cache.some }

-- where none is delayed, no row that is held is
pub delayed-none : (rows : Rows) → find is_delayed rows.held ≡ None → (s : Side) (r : ℕ) (d : Cached) → held_row s r rows ≡ Some d → is_delayed d ≡ false
delayed-none rows none s r d found = none_of is_delayed (is_row s r) rows.held d none found
