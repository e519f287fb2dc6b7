-- What a part of a zeroed stripe leaves: an array whose reshape has gone through the list, and that is as safe as before.
use Rattle.std.proofs.Common.{◌≡◌, ℕ, ◌/◌, ◌<◌, ◌≤◌, cond, List, length, take, take_all, le_refl, sym, ◌∙◌, subst}
use Rattle.reshape_window_rows.specs.raid_types_Sectors.{Sector}
use Rattle.reshape_window_rows.specs.raid_types_Shapes.{stripe_sectors}
use Rattle.reshape_window_rows.specs.raid_types_the_Shape.{Shape}
use Rattle.reshape_window_rows.specs.raid_types_the_Span.{Span}
use Rattle.reshape_window_rows.specs.bank_the_Operation.{Operation}
use Rattle.reshape_window_rows.specs.bank_Given.{Given}
use Rattle.reshape_window_rows.specs.bank_Tape.{EachMark, disk}
use Rattle.reshape_window_rows.specs.reshape_geometry_Geometry.{ceiling, IsIn as IsIn_span}
use Rattle.reshape_window_rows.specs.sb_specs_the_Members.{Members}
use Rattle.reshape_window_rows.specs.sb_specs_Reading.{Scope, list_length}
use Rattle.reshape_window_rows.specs.stripe_row_Rows.{members_without}
use Rattle.reshape_window_rows.specs.stripe_list_Writing.{AreSuperblocksKept}
use Rattle.reshape_window_rows.specs.crash_views_Views.{Ledger}
use Rattle.reshape_window_rows.specs.crash_views_Windows.{IsWrittenAt}
use Rattle.reshape_window_rows.specs.crash_safety_laws_Steady.{AreHolders, AreUnlost, IsSafeNow, IsSafeStretch}
use Rattle.reshape_window_rows.specs.crash_safety_laws_Updates.{IsPastPlace}
use Rattle.reshape_window_rows.proofs.crash_safety_laws_Drawn.{disk-somewhere}
use Rattle.reshape_window_rows.proofs.crash_safety_laws_Steady.{safe-is-seen}
use Rattle.reshape_window_rows.specs.array_members_Moving.{IsMoved}
use Rattle.reshape_window_rows.proofs.array_members_Fit.{list-alike}
use Rattle.reshape_window_rows.specs.Copies.{tail_of, IsZeroIn, IsPastStripe}
use Rattle.reshape_window_steps.specs.Zeroing.{IsThrough}
use Rattle.reshape_window_steps.proofs.CopyLaws.{window-alike, same-tail}
use Rattle.reshape_window_steps.proofs.SteadyLaws.{zeroing-safe}

-- ---- members that lost slots

module _ (given : Given) (old new : Members) (moved : IsMoved given old new) where
  pub through-moved : IsThrough old.newest → IsThrough new.newest
  through-moved through = record {
    active = moved.reshape.reshaping ∙ through.active;
    none = window-alike old.newest new.newest moved.reshape moved.shape moved.size ∙ through.none;
    last = moved.reshape.position ∙ through.last ∙ sym (λ i. cond (moved.reshape.backward i) 0 (list-alike old.newest new.newest moved.reshape moved.shape moved.size i));
  }

  pub past-stripe-moved : (shape : Shape) (stripe : ℕ) → IsPastStripe shape old.newest.size (list_length old.newest) stripe → IsPastStripe shape new.newest.size (list_length new.newest) stripe
  past-stripe-moved shape stripe past = (
    subst (λ (n : ℕ). ceiling n (stripe_sectors shape) ≤ stripe) (sym (list-alike old.newest new.newest moved.reshape moved.shape moved.size)) past.0,
    subst (λ (n : ℕ). stripe < n / shape.chunk) (sym moved.size) past.1,
  )

  pub zero-moved : (list : ℕ → Sector) → IsZeroIn (tail_of old.newest) list → IsZeroIn (tail_of new.newest) list
  zero-moved list zeros x at = zeros x (subst (λ (t : Span). IsIn_span x t) (same-tail old.newest new.newest moved.reshape moved.shape moved.size) at)

-- ---- why the array stays safe

pub safe-zeroed : {tells : Type 0} (sound : Type 0) (scope : Scope) (given : Given) (told : Ledger) (old new : Members) (lost : ℕ) (before after : List Operation) → tells → new ≡ members_without lost old
    → AreHolders given old → AreUnlost old → IsThrough old.newest
    → EachMark tells given.start before after (λ e. IsWrittenAt (IsPastPlace old) (disk given.start before) e × AreSuperblocksKept (disk given.start before) e) → IsSafeNow sound scope given told old (disk given.start before)
    → IsSafeStretch sound scope given told new before after
safe-zeroed sound scope given told old new lost before after tell is holders unlost through marks safe = record {
  marks = record {
    longer = λ one. marks.longer tell;
    earlier = λ one. marks.earlier tell;
    each = λ one n low high. safe-is-seen sound scope given told new (take n after) (safe-at n low high);
  };
  next = subst (λ (tape : List Operation). IsSafeNow sound scope given told new (disk given.start tape)) (take_all (length after) after (le_refl (length after)))
      (safe-at (length after) (marks.longer tell) (le_refl (length after)));
}
  where
    safe-at : (n : ℕ) → length before ≤ n → n ≤ length after → IsSafeNow sound scope given told new (disk given.start (take n after))
    safe-at n low high =
        let put = marks.each tell n low high in
        subst (λ (m : Members). IsSafeNow sound scope given told m (disk given.start (take n after))) (sym is)
        (zeroing-safe sound scope given told old lost (disk given.start before) (disk given.start (take n after)) holders unlost (disk-somewhere given before) through.active through.none through.last put.0 safe)
