-- What a part of a stripe's copy leaves: the rows that stand by the new shape, those that are kept, and an array that is as safe as before.
use Rattle.std.proofs.Common.{◌≡◌, ◌⊎◌, inl, inr, ℕ, ◌+◌, ◌*◌, ◌<◌, ◌≤◌, List, [], ◌∷◌, cond, length, take, take_all, le_refl, Option, Some, None, sym, ◌∙◌, ap, subst, arith}
use Rattle.std.specs.Prelude.{⊤, MatchOption}
use Rattle.std.proofs.lemmas.Bool.{cases_lt}
use Rattle.reshape_window_rows.specs.raid_types_Sectors.{Sector}
use Rattle.reshape_window_rows.specs.raid_types_the_Shape.{Shape}
use Rattle.reshape_window_rows.specs.raid_types_the_Span.{Span}
use Rattle.reshape_window_rows.specs.bank_the_Operation.{Operation}
use Rattle.reshape_window_rows.specs.bank_Given.{Given}
use Rattle.reshape_window_rows.specs.bank_Tape.{Contents, EachMark, IsIn, Kept, disk}
use Rattle.reshape_window_rows.specs.sb_codec_the_Sb.{Sb}
use Rattle.reshape_window_rows.specs.reshape_geometry_Geometry.{window, is_critical, IsIn as IsIn_span}
use Rattle.reshape_window_rows.specs.raid_types_Shapes.{data_disks}
use Rattle.reshape_window_rows.specs.raid_types_the_Refusal.{Refusal}
use Rattle.reshape_window_rows.specs.crash_views_Regions.{DoWithout}
use Rattle.reshape_window_rows.specs.array_members_Lacking.{AreTooMany}
use Rattle.reshape_window_rows.proofs.array_members_Fit.{list-alike}
use Rattle.reshape_window_rows.specs.Copies.{tail_of, IsCopied}
use Rattle.reshape_window_rows.specs.sb_specs_the_Members.{Members}
use Rattle.reshape_window_rows.specs.sb_specs_Reading.{Scope, is_backward, shape_of, final_shape, next_window, data_offset_of}
use Rattle.reshape_window_rows.specs.stripe_row_Rows.{reading_of, held_slot, members_without}
use Rattle.reshape_window_rows.proofs.stripe_row_Losses.{holder-of}
use Rattle.reshape_window_rows.specs.stripe_list_Full.{RowStands}
use Rattle.reshape_window_rows.specs.stripe_list_Writing.{AreSuperblocksKept}
use Rattle.reshape_window_rows.specs.history_ActiveSection.{section_for}
use Rattle.reshape_window_rows.specs.crash_views_Regions.{backup_of, open_by}
use Rattle.reshape_window_rows.specs.crash_views_Views.{Disk, Ledger}
use Rattle.reshape_window_rows.specs.crash_views_Windows.{IsCopying, IsCopyable}
use Rattle.reshape_window_rows.specs.crash_safety_laws_Steady.{AreHolders, AreUnlost, IsSafeNow, IsSafeStretch}
use Rattle.reshape_window_rows.proofs.crash_safety_laws_Drawn.{disk-somewhere}
use Rattle.reshape_window_rows.proofs.crash_safety_laws_Steady.{safe-is-seen}
use Rattle.reshape_window_rows.specs.array_members_Placed.{HaveSameReshape}
use Rattle.reshape_window_rows.specs.array_members_Moving.{IsMoved}
use Rattle.reshape_window_rows.specs.array_members_Lacking.{IsHeldRowKept, AreOtherRowsKept}
use Rattle.reshape_window_rows.proofs.array_members_HeldRows.{held-moved}
use Rattle.reshape_window_steps.proofs.SteadyLaws.{copying-safe}
use Rattle.reshape_window_steps.specs.Copying.{IsOfStripeFrom}

-- ---- a row that stands

-- it stands on fewer members, where what they have of it is as it was
pub row-later : (given : Given) (old new : Members) → IsMoved given old new → (shape : Shape) (list : ℕ → Sector) (row : ℕ) (before after : Contents)
    → IsHeldRowKept (reading_of new) before after row → RowStands (reading_of old) before shape list row → RowStands (reading_of new) after shape list row
row-later given old new moved shape list row before after kept stands = record {
  whole = stands.whole;
  sectors = λ role slot lt here held. there role slot held ∙ stands.sectors role slot lt here (held-moved moved role row slot held);
  parity = λ role slot lt here held. there role slot held ∙ stands.parity role slot lt here (held-moved moved role row slot held);
}
  where
    there : (role slot : ℕ) → held_slot (reading_of new) role row ≡ Some slot → after slot (data_offset_of (reading_of new) slot + row) ≡ before slot (data_offset_of (reading_of old) slot + row)
    there role slot held = kept role slot (holder-of (reading_of new) role row slot held) ∙ ap (λ (n : ℕ). before slot (n + row)) (moved.offsets slot)

-- a row that isn't among these is before them or behind
pub out-of : (first from to row : ℕ) → ((first + from ≤ row) × (row < first + to) → ⊥) → (row < first + from) ⊎ (first + to ≤ row)
out-of first from to row out = elim (cases_lt row (first + from)) [
  | inl less ↦ inl less
  | inr more ↦ elim (cases_lt row (first + to)) [
    | inl within ↦ absurd (out (more, within))
    | inr past ↦ inr past
  ]
]

-- rows that aren't of both parts are kept by both
pub others-join : (given : Given) (shape : Shape) (stripe a b c d : ℕ) → a ≤ c → b ≤ d → (mid new : Members) (before between after : Contents) → IsMoved given mid new
    → AreOtherRowsKept (IsOfStripeFrom shape stripe a b) (reading_of mid) before between → AreOtherRowsKept (IsOfStripeFrom shape stripe c d) (reading_of new) between after
    → AreOtherRowsKept (IsOfStripeFrom shape stripe a d) (reading_of new) before after
others-join given shape stripe a b c d ac bd mid new before between after moved one two row out role slot held =
    two row (λ at. out (let low = at.0 in omega (arith, low, ac), at.1)) role slot held
    ∙ ap (λ (n : ℕ). between slot (n + row)) (moved.offsets slot)
    ∙ one row (λ at. out (at.0, (let high = at.1 in omega (arith, high, bd)))) role slot (moved.held role slot held)
    ∙ ap (λ (n : ℕ). before slot (n + row)) (sym (moved.offsets slot))

-- ---- the window

module _ (old new : Sb) (reshape : HaveSameReshape old new) (shape : shape_of new ≡ shape_of old) (size : new.size ≡ old.size) where
  pub window-alike : next_window new ≡ next_window old
  window-alike =
      λ i. cond (reshape.reshaping i) (window (shape i) (reshape.final i) (size i) (reshape.backward i) (reshape.position i)) None

  pub open-alike : (scope : Scope) (header : Sector) → open_by scope new header ≡ open_by scope old header
  open-alike scope header = ap (λ (w : Option Span). section_for scope (λ s k. header) scope.backup w) window-alike

  pub critical-alike : (span : Span) → is_critical (shape_of new) (final_shape new) new.size (is_backward new) span ≡ is_critical (shape_of old) (final_shape old) old.size (is_backward old) span
  critical-alike span = λ i. is_critical (shape i) (reshape.final i) (size i) (reshape.backward i) span

-- and so are the places behind the list
pub same-tail : (old new : Sb) → HaveSameReshape old new → shape_of new ≡ shape_of old → new.size ≡ old.size → tail_of new ≡ tail_of old
same-tail old new reshape shape size = λ i. record { lo = list-alike old new reshape shape size i; hi = data_disks (reshape.final i) * size i }

-- and what a list has that is copied
pub tail-alike : (old new : Sb) → HaveSameReshape old new → shape_of new ≡ shape_of old → new.size ≡ old.size → (span : Span) (buffer : List ℕ) (list : ℕ → Sector)
    → IsCopied span buffer (tail_of old) list → IsCopied span buffer (tail_of new) list
tail-alike old new reshape shape size span buffer list copied = record {
  window = copied.window;
  zeros = λ x at. copied.zeros x (subst (λ (t : Span). IsIn_span x t) (same-tail old new reshape shape size) at);
}

-- what refused a part refuses the stripe
pub refused-of : (m : Members) (o : Option Refusal) → MatchOption o (DoWithout m) (AreTooMany m) → MatchOption o ⊤ (AreTooMany m)
refused-of m None is = tt
refused-of m (Some refusal) is = is

-- it may be copied on, where a stop leaves no other header
pub copyable-later : (scope : Scope) (old new : Members) → HaveSameReshape old.newest new.newest → shape_of new.newest ≡ shape_of old.newest → new.newest.size ≡ old.newest.size → (span : Span) (d e : Disk)
    → ((header : Sector) → IsIn (e (backup_of scope) 0) header → IsIn (d (backup_of scope) 0) header) → IsCopyable scope old span d → IsCopyable scope new span e
copyable-later scope old new reshape shape size span d e less able = record {
  next = window-alike old.newest new.newest reshape shape size ∙ able.next;
  kept = elim able.kept [
    | inl active ↦ inl (λ header may. open-alike old.newest new.newest reshape shape size scope header ∙ active header (less header may))
    | inr plain ↦ inr (critical-alike old.newest new.newest reshape shape size span ∙ plain)
  ];
}

-- a flush may have settled it
pub kept-less : (old now : List Sector) → Kept old now → (v : Sector) → IsIn now v → IsIn old v
kept-less old now (inl same) v may = subst (λ (l : List Sector). IsIn l v) same may
kept-less [] now (inr one) v may = subst (λ (l : List Sector). IsIn l v) one may
kept-less (first ∷ rest) now (inr one) v may = of (subst (λ (l : List Sector). IsIn l v) one may)
  where
    of : (v ≡ first) ⊎ ⊥ → (v ≡ first) ⊎ IsIn rest v
    of (inl same) = inl same
    of (inr none) = absurd none

-- ---- why the array stays safe

pub safe-copied : {tells : Type 0} (sound : Type 0) (scope : Scope) (given : Given) (told : Ledger) (old new : Members) (lost : ℕ) (span : Span) (before after : List Operation) → tells → new ≡ members_without lost old
    → AreHolders given old → AreUnlost old → IsCopyable scope old span (disk given.start before)
    → EachMark tells given.start before after (λ e. IsCopying old span (disk given.start before) e × AreSuperblocksKept (disk given.start before) e) → IsSafeNow sound scope given told old (disk given.start before)
    → IsSafeStretch sound scope given told new before after
safe-copied sound scope given told old new lost span before after tell is holders unlost able marks safe = record {
  marks = record {
    longer = λ one. marks.longer tell;
    earlier = λ one. marks.earlier tell;
    each = λ one n low high. safe-is-seen sound scope given told new (take n after) (safe-at n low high);
  };
  next = subst (λ (tape : List Operation). IsSafeNow sound scope given told new (disk given.start tape)) (take_all (length after) after (le_refl (length after)))
      (safe-at (length after) (marks.longer tell) (le_refl (length after)));
}
  where
    safe-at : (n : ℕ) → length before ≤ n → n ≤ length after → IsSafeNow sound scope given told new (disk given.start (take n after))
    safe-at n low high =
        let put = marks.each tell n low high in
        subst (λ (m : Members). IsSafeNow sound scope given told m (disk given.start (take n after))) (sym is)
        (copying-safe sound scope given told old span lost (disk given.start before) (disk given.start (take n after)) holders unlost (disk-somewhere given before) able put.0 safe)
