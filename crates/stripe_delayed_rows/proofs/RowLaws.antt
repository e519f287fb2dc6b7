-- The rows of a cache by their names.
use Rattle.std.proofs.Common.{◌≡◌, ℕ, zero, suc, ◌-◌, Bool, true, false, cond, List, [], ◌∷◌, take, slice_get, Option, Some, None, bit_or, refl, sym, ap, ap₂, ◌∙◌, subst}
use Rattle.std.specs.Option.{option_map_or}
use Rattle.std.specs.List.{find}
use Rattle.raid_layout.specs.raid_types_the_Side.{Side}
use Rattle.stripe_cache.specs.declared.cached.Cached.{Cached}
use Rattle.stripe_cache.specs.Rows.{Rows, is_row, is_delayed, held_row, without, kept, pushed_out, if_delayed, leaving}
use Rattle.stripe_cache.specs.Apart.{IsApart, IsCache}
use Rattle.stripe_cache.proofs.Laws.{is_row-true, is_row-self, find-passes}
use Rattle.stripe_delayed_rows.specs.Overlay.{IsHeld}

pub by_bool : (P : Type 0) (b : Bool) → (b ≡ true → P) → (b ≡ false → P) → P
by_bool P true yes' no' = yes' refl
by_bool P false yes' no' = no' refl

pub by_option : (P : Type 0) (o : Option Cached) → (o ≡ None → P) → ((c : Cached) → o ≡ Some c → P) → P
by_option P None none' some' = none' refl
by_option P (Some c) none' some' = some' c refl

pub never : true ≡ false → ⊥
never h = cc

find-here : (q : Cached → Bool) (c : Cached) (cs : List Cached) → q c ≡ true → find q (c ∷ cs) ≡ Some c
find-here q c cs h = ap (λ b. cond b (Some c) (find q cs)) h

find-later : (q : Cached → Bool) (c : Cached) (cs : List Cached) → q c ≡ false → find q (c ∷ cs) ≡ find q cs
find-later q c cs h = ap (λ b. cond b (Some c) (find q cs)) h

inner : (c d : Cached) → Some c ≡ Some d → c ≡ d
inner c d h = cc

not_none : (P : Type 0) (c : Cached) (o : Option Cached) → o ≡ Some c → o ≡ None → P
not_none P c o e f = absurd (cc)

-- a row of this name has the tests of the name
pub same_test : (s : Side) (r : ℕ) (c d : Cached) → is_row s r c ≡ true → is_row c.side c.row d ≡ is_row s r d
same_test s r c d h = let names : (s ≡ c.side) × (r ≡ c.row) = is_row-true s r c h in ap₂ (λ s r. is_row s r d) (sym names.0) (sym names.1)

pub same_held : (s : Side) (r : ℕ) (c : Cached) (rows : Rows) → is_row s r c ≡ true → held_row c.side c.row rows ≡ held_row s r rows
same_held s r c rows h = let names : (s ≡ c.side) × (r ≡ c.row) = is_row-true s r c h in ap₂ (λ s r. held_row s r rows) (sym names.0) (sym names.1)

-- where none is found by a name, what another test finds isn't of that name
none_of : (q p : Cached → Bool) (cs : List Cached) (d : Cached) → find q cs ≡ None → find p cs ≡ Some d → q d ≡ false
none_of q p [] d none found = absurd (cc)
none_of q p (c ∷ cs) d none found = by_bool (q d ≡ false) (q c)
    (λ t. not_none (q d ≡ false) c (find q (c ∷ cs)) (find-here q c cs t) none)
    (λ t. by_bool (q d ≡ false) (p c)
    (λ u. subst (λ c. q c ≡ false) (inner c d (sym (find-here p c cs u) ∙ found)) t)
    (λ u. none_of q p cs d (sym (find-later q c cs t) ∙ none) (sym (find-later p c cs u) ∙ found)))

-- a row that some test finds is held by its name
found_held : (p : Cached → Bool) (cs : List Cached) (d : Cached) → IsApart cs → find p cs ≡ Some d → find (is_row d.side d.row) cs ≡ Some d
found_held p [] d apart found = absurd (cc)
found_held p (c ∷ cs) d apart found = by_bool (find (is_row d.side d.row) (c ∷ cs) ≡ Some d) (p c)
    (λ t. let same : c ≡ d = inner c d (sym (find-here p c cs t) ∙ found) in
    find-here (is_row d.side d.row) c cs (subst (λ c. is_row d.side d.row c ≡ true) (sym same) (is_row-self d)) ∙ ap (λ c. Some c) same)
    (λ t. let later : find p cs ≡ Some d = sym (find-later p c cs t) ∙ found in
    let other : is_row d.side d.row c ≡ false = by_bool (is_row d.side d.row c ≡ false) (is_row d.side d.row c)
    (λ u. absurd (never (sym (is_row-self d) ∙ sym (same_test d.side d.row c d u) ∙ none_of (is_row c.side c.row) p cs d apart.0 later)))
    (λ u. u) in
    find-later (is_row d.side d.row) c cs other ∙ found_held p cs d apart.1 later)

-- what is held by a name is held by its own
pub held_own : (rows : Rows) (s : Side) (r : ℕ) (d : Cached) → held_row s r rows ≡ Some d → IsHeld rows d
held_own rows s r d found = same_held s r d rows (find-passes (is_row s r) rows.held d found) ∙ found

-- and is of it
pub held_is : (rows : Rows) (s : Side) (r : ℕ) (d : Cached) → held_row s r rows ≡ Some d → is_row s r d ≡ true
held_is rows s r d found = find-passes (is_row s r) rows.held d found

-- a row that is taken out was held
pub taken-held : (test : Cached → Bool) (rows : Rows) (gone : Cached) → IsCache rows → find test rows.held ≡ Some gone → IsHeld rows gone × (test gone ≡ true)
taken-held test rows gone cache found = (found_held test rows.held gone cache.apart found, find-passes test rows.held gone found)

-- an element of a list is found by its name
at_held : (cs : List Cached) (n : ℕ) (d : Cached) → IsApart cs → slice_get cs n ≡ Some d → find (is_row d.side d.row) cs ≡ Some d
at_held [] n d apart at = absurd (cc)
at_held (c ∷ cs) zero d apart at = let same : c ≡ d = inner c d at in
    find-here (is_row d.side d.row) c cs (subst (λ c. is_row d.side d.row c ≡ true) (sym same) (is_row-self d)) ∙ ap (λ c. Some c) same
at_held (c ∷ cs) (suc n) d apart at =
    let later : find (is_row d.side d.row) cs ≡ Some d = at_held cs n d apart.1 at in
    let other : is_row d.side d.row c ≡ false = by_bool (is_row d.side d.row c ≡ false) (is_row d.side d.row c)
    (λ u. absurd (never (sym (is_row-self d) ∙ sym (same_test d.side d.row c d u) ∙ none_of (is_row c.side c.row) (is_row d.side d.row) cs d apart.0 later)))
    (λ u. u) in
    find-later (is_row d.side d.row) c cs other ∙ later

-- what a front of a list has not
not_in_front : (cs : List Cached) (n : ℕ) (d : Cached) → IsApart cs → slice_get cs n ≡ Some d → find (is_row d.side d.row) (take n cs) ≡ None
not_in_front [] n d apart at = absurd (cc)
not_in_front (c ∷ cs) zero d apart at = refl
not_in_front (c ∷ cs) (suc n) d apart at =
    let other : is_row d.side d.row c ≡ false = by_bool (is_row d.side d.row c ≡ false) (is_row d.side d.row c)
    (λ u. absurd (never (sym (is_row-self d) ∙ sym (same_test d.side d.row c d u) ∙ none_of (is_row c.side c.row) (is_row d.side d.row) cs d apart.0 (at_held cs n d apart.1 at))))
    (λ u. u) in
    find-later (is_row d.side d.row) c (take n cs) other ∙ not_in_front cs n d apart.1 at

if_some : (o : Option Cached) (d : Cached) → if_delayed o ≡ Some d → (o ≡ Some d) × (is_delayed d ≡ true)
if_some None d h = absurd (cc)
if_some (Some c) d h = by_bool ((Some c ≡ Some d) × (is_delayed d ≡ true)) (is_delayed c)
    (λ t. let same : c ≡ d = inner c d (sym (ap (λ b. cond b (Some c) None) t) ∙ h) in (ap (λ c. Some c) same, subst (λ c. is_delayed c ≡ true) same t))
    (λ t. absurd (none d (sym (ap (λ b. cond b (Some c) None) t) ∙ h)))
  where
    none : (d : Cached) → None ≡ Some d → ⊥
    none d h = cc

-- what leaves: the kept row wasn't held, and this one is pushed out
pub left : (cached gone : Cached) (rows : Rows) → leaving cached rows ≡ Some gone
    → (held_row cached.side cached.row rows ≡ None) × (pushed_out rows ≡ Some gone) × (is_delayed gone ≡ true)
left cached gone rows h = by_row (held_row cached.side cached.row rows) refl h
  where
    by_row : (o : Option Cached) → held_row cached.side cached.row rows ≡ o → option_map_or (λ old. None) o (if_delayed (pushed_out rows)) ≡ Some gone
        → (held_row cached.side cached.row rows ≡ None) × (pushed_out rows ≡ Some gone) × (is_delayed gone ≡ true)
    by_row None absent h = let out : (pushed_out rows ≡ Some gone) × (is_delayed gone ≡ true) = if_some (pushed_out rows) gone h in (absent, out.0, out.1)
    by_row (Some old) there h = absurd (cc)

pub leaving-held : (rows : Rows) (cached gone : Cached) → IsCache rows → leaving cached rows ≡ Some gone → IsHeld rows gone × (is_delayed gone ≡ true)
leaving-held rows cached gone cache h = let out : (held_row cached.side cached.row rows ≡ None) × (pushed_out rows ≡ Some gone) × (is_delayed gone ≡ true) = left cached gone rows h in
    (at_held rows.held (rows.room - 1) gone cache.apart out.1, out.2)

-- the row that leaves isn't the one that is kept
pub leaving-other : (rows : Rows) (cached gone : Cached) → IsCache rows → leaving cached rows ≡ Some gone → is_row gone.side gone.row cached ≡ false
leaving-other rows cached gone cache h = by_bool (is_row gone.side gone.row cached ≡ false) (is_row gone.side gone.row cached)
    (λ t. not_none (is_row gone.side gone.row cached ≡ false) gone (held_row gone.side gone.row rows) (leaving-held rows cached gone cache h).0
    (sym (same_held gone.side gone.row cached rows t) ∙ (left cached gone rows h).0))
    (λ t. t)

-- a row that is pushed out isn't held afterwards
pub pushed-gone : (rows : Rows) (cached gone : Cached) → IsCache rows → held_row cached.side cached.row rows ≡ None → pushed_out rows ≡ Some gone → is_row gone.side gone.row cached ≡ false
    → held_row gone.side gone.row (kept cached rows) ≡ None
pushed-gone rows cached gone cache absent out other =
    subst (λ (o : Option Cached). find (is_row gone.side gone.row) (option_map_or (λ old. record cached { changed = bit_or old.changed cached.changed } ∷ without (is_row cached.side cached.row) rows.held) o (cached ∷ take (rows.room - 1) rows.held)) ≡ None)
    (sym absent)
    (find-later (is_row gone.side gone.row) cached (take (rows.room - 1) rows.held) other ∙ not_in_front rows.held (rows.room - 1) gone cache.apart out)

pub leaving-gone : (rows : Rows) (cached gone : Cached) → IsCache rows → leaving cached rows ≡ Some gone → held_row gone.side gone.row (kept cached rows) ≡ None
leaving-gone rows cached gone cache h =
    let out : (held_row cached.side cached.row rows ≡ None) × (pushed_out rows ≡ Some gone) × (is_delayed gone ≡ true) = left cached gone rows h in
    pushed-gone rows cached gone cache out.0 out.1 (leaving-other rows cached gone cache h)
