-- Why a stretch of the list isn't read, said of the list.
use Rattle.std.proofs.Common.{◌≡◌, inl, inr, ℕ, ◌-◌, ◌<◌, ◌≤◌, true, false, Option, Some, None, Result, Ok, Err, is_some, refl, sym, ◌∙◌, ap, subst, arith}
use Rattle.std.specs.Prelude.{MatchOption, ⊤}
use Rattle.std.specs.Result.{is_err}
use Rattle.stripe_io.specs.raid_types_Shapes.{tolerance}
use Rattle.stripe_io.specs.raid_types_the_Shape.{Shape}
use Rattle.stripe_io.specs.raid_types_the_Refusal.{Refusal}
use Rattle.stripe_io.specs.raid_types_the_Refusal_TheVariants.{NotResynced as Unsynced}
use Rattle.stripe_io.specs.raid_layout_Layout.{place}
use Rattle.stripe_io.specs.sb_specs_the_Members.{Members}
use Rattle.stripe_io.specs.stripe_row_Rows.{reading_of, is_missing}
use Rattle.stripe_io.specs.stripe_list_the_Unavailable.{Unavailable}
use Rattle.stripe_io.specs.stripe_list_the_Unavailable_TheVariants.{TooManyMissing, NotResynced}
use Rattle.stripe_io.specs.stripe_list_Calls.{IsAnswer}
use Rattle.stripe_io.specs.array_members_Lacking.{lacking, LacksTooMany, IsAskedBeyond, IsUnread}
use Rattle.stripe_io.specs.sb_safe_updates_First.{read_refusal}
use Rattle.stripe_io.proofs.sb_safe_updates_RefusingLaws.{read-cause, read-none}
use Rattle.stripe_region_read.specs.Stretches.{IsStretch, relied_rows, IsUnrelied, IsLacked, IsListUnread}

pub none-match : {A B : Type 0} (P : B → Type 0) (o : Option B) → is_some o ≡ false → MatchOption o A P → A
none-match P None none held = held
none-match P (Some x) none held = absurd (cc)

-- a stretch of the list, by its shape
module _ (m : Members) (shape : Shape) (relied rows at end : ℕ) (some : at < end) (stretch : IsStretch m.newest shape at end) (same : rows ≡ relied_rows m.newest relied shape) where
  -- what can't be had of the shape can't be had of the list
  unrelied-of : (x : ℕ) → at ≤ x → x < end → is_missing (reading_of m) (place shape x).role ≡ true → rows ≤ (place shape x).row → IsUnrelied relied m x
  unrelied-of x low high gone beyond =
      subst (λ (s : Shape). (is_missing (reading_of m) (place s x).role ≡ true) × (relied_rows m.newest relied s ≤ (place s x).row)) (sym (stretch x low high))
      (gone, subst (λ (n : ℕ). n ≤ (place shape x).row) same beyond)

  unrelied-in : (x : ℕ) → at ≤ x → x < end → IsUnrelied relied m x → (is_missing (reading_of m) (place shape x).role ≡ true) × (rows ≤ (place shape x).row)
  unrelied-in x low high is =
      let here = subst (λ (s : Shape). (is_missing (reading_of m) (place s x).role ≡ true) × (relied_rows m.newest relied s ≤ (place s x).row)) (stretch x low high) is in
      (here.0, subst (λ (n : ℕ). n ≤ (place shape x).row) (sym same) here.1)

  -- and a refusal for the stretch is one for the list
  pub list-unread : (from to : ℕ) → from ≤ at → end ≤ to → (refusal : Refusal) → IsUnread shape rows at (end - at) m refusal → IsListUnread relied from to m refusal
  list-unread from to early late refusal (inl many) =
      (at, early, omega (arith, some, late), inl (subst (λ (s : Shape). LacksTooMany s m refusal) (sym (stretch at (omega arith) some)) many))
  list-unread from to early late refusal (inr asked) =
      let x = asked.3.0 in
      let low : at ≤ x = asked.3.1 in
      let high : x < end = (let under = asked.3.2 in omega (arith, under, some)) in
      let role : (place shape x).role ≡ asked.0 = asked.3.3 in (
        x,
        omega (arith, early, low),
        omega (arith, high, late),
        inr (
          asked.1 ∙ ap (λ (n : ℕ). Unsynced n) (sym role) ∙ ap (λ (s : Shape). Unsynced (place s x).role) (sym (stretch x low high)),
          unrelied-of x low high (ap (is_missing (reading_of m)) role ∙ asked.2) asked.3.4,
        ),
      )

  pub told-unread : (A : Type 0) (from to : ℕ) → from ≤ at → end ≤ to → (found : Option Refusal) → is_some found ≡ true → found ≡ read_refusal shape rows at (end - at) m → MatchOption found A (IsListUnread relied from to m)
  told-unread A from to early late None told is = absurd (cc)
  told-unread A from to early late (Some refusal) told is = list-unread from to early late refusal (read-cause shape rows at (end - at) m refusal (sym is))

  -- where none is told, each of its sectors can be had
  pub none-unread : (found : Option Refusal) → is_some found ≡ false → found ≡ read_refusal shape rows at (end - at) m → (x : ℕ) → at ≤ x → x < end → IsUnrelied relied m x → ⊥
  none-unread (Some refusal) none is x low high un = absurd (cc)
  none-unread None none is x low high un =
      let here = unrelied-in x low high un in
      let had = (read-none shape rows at (end - at) m (sym is)).1 (place shape x).role (x, low, omega (arith, high, some), refl, here.1) in
      absurd (let e = sym had ∙ here.0 in cc)

  -- a stretch that wasn't read has such a sector
  pub answer-lacked : {T : Type 0} (count : ℕ) → count ≡ end - at → (answer : Result T Unavailable) → is_err answer ≡ true → IsAnswer shape false (reading_of m) (IsAskedBeyond shape rows at count) answer
      → (x : ℕ) × (at ≤ x) × (x < end) × IsLacked relied m x
  answer-lacked count long (Ok done) err is = absurd (cc)
  answer-lacked count long (Err TooManyMissing) err is =
      (at, omega arith, some, inl (subst (λ (s : Shape). tolerance s < lacking s m) (sym (stretch at (omega arith) some)) is))
  answer-lacked count long (Err (NotResynced role)) err is =
      let asked = is.3 in
      let x = asked.0 in
      let low : at ≤ x = asked.1 in
      let high : x < end = (let under = asked.2 in omega (arith, under, some, long)) in
      (x, low, high, inr (unrelied-of x low high (ap (is_missing (reading_of m)) asked.3 ∙ is.2) asked.4))

-- ---- of the whole request

-- a refusal for the sectors that are left is one for all
pub wider-unread : (relied from at to : ℕ) (m : Members) → from ≤ at → (found : Option Refusal) → MatchOption found ((x : ℕ) → at ≤ x → x < to → IsLacked relied m x → ⊥) (IsListUnread relied at to m) → MatchOption found ⊤ (IsListUnread relied from to m)
wider-unread relied from at to m early None fine = tt
wider-unread relied from at to m early (Some refusal) told = (told.0, (let low = told.1 in omega (arith, early, low)), told.2, told.3)

-- where one of them can't be had, a refusal is told
pub never-none : (relied at to : ℕ) (m : Members) → (x : ℕ) × (at ≤ x) × (x < to) × IsLacked relied m x → (found : Option Refusal)
    → MatchOption found ((x : ℕ) → at ≤ x → x < to → IsLacked relied m x → ⊥) (IsListUnread relied at to m) → found ≡ None → ⊥
never-none relied at to m lacked None fine none = fine lacked.0 lacked.1 lacked.2 lacked.3
never-none relied at to m lacked (Some refusal) told none = absurd (cc)
