-- A window is copied, flushed and recorded: what is right goes on so.
use Rattle.std.proofs.Common.{◌≡◌, ◌⊎◌, inl, inr, ℕ, ◌-◌, ◌<◌, ◌≤◌, ◌&&◌, nat_lt, nat_le, Bool, true, false, cond, Option, Some, None, refl, sym, ◌∙◌, ap, subst, arith}
use Rattle.std.proofs.lemmas.Bool.{and_parts}
use Rattle.std.proofs.lemmas.Bool.Decides.{nat_tests}
use Rattle.crash_safety_laws.specs.raid_types_the_Shape.{Shape}
use Rattle.crash_safety_laws.specs.raid_types_the_Span.{Span}
use Rattle.crash_safety_laws.specs.raid_types_the_Side_TheVariants.{Old, New}
use Rattle.crash_safety_laws.specs.raid_types_Sectors.{Sector}
use Rattle.crash_safety_laws.specs.raid_types_Shapes.{has_slot}
use Rattle.crash_safety_laws.specs.bank_Given.{Given}
use Rattle.crash_safety_laws.specs.bank_Tape.{Contents, IsIn}
use Rattle.crash_safety_laws.specs.reshape_geometry_Geometry.{window, side, beyond}
use Rattle.crash_safety_laws.proofs.stripe_region_laws_RegionLaws.{forward-is, backward-is, new-ahead, new-behind}
use Rattle.crash_safety_laws.proofs.reshape_geometry_Valid.{bounded_pair}
use Rattle.crash_safety_laws.specs.sb_specs_the_Members.{Members}
use Rattle.crash_safety_laws.specs.sb_specs_Reading.{Scope, is_reshaping, is_backward, shape_of, final_shape, next_window}
use Rattle.crash_safety_laws.specs.bank_backup_Section.{is_header_of, names_span, has_section}
use Rattle.crash_safety_laws.specs.history_ActiveSection.{section_for}
use Rattle.crash_safety_laws.specs.crash_views_Regions.{backup_of, open_by}
use Rattle.crash_safety_laws.specs.crash_views_Views.{Disk, Ledger, IsHeaderFit, IsSeenRight}
use Rattle.crash_safety_laws.specs.crash_views_Windows.{moved_past, HasNoSection, IsFlushedRight}
use Rattle.crash_reshape_laws.specs.Runs.{IsWindowStanding}
use Rattle.crash_reshape_laws.specs.Copies.{FitHeadersArePlain, IsCopyRun, IsRightAndFit, CopiesStayFit, CopiesAreSeenRight, MovedIsRightAndFit, UpdatedIsRightAndFit}
use Rattle.crash_safety_laws.proofs.crash_views_UnderWay.{is-reshaping, window-is, under-way}
use Rattle.crash_safety_laws.proofs.crash_views_WindowLaws.{at-rows, fewer-right, copying-right, updating-right}
use Rattle.crash_safety_laws.proofs.crash_views_Stands.{span-order, moved-stands, moved-rows-stand, moved-placed, flushed-right}
use Rattle.crash_reshape_laws.proofs.PastWindows.{begins-apart}
use Rattle.crash_safety_laws.proofs.crash_views_Headers.{backup-is, names-parts}
use Rattle.crash_safety_laws.proofs.crash_views_Headers as fits
use Rattle.crash_safety_laws.proofs.crash_views_Tails.{moved-tails}
use Rattle.crash_safety_laws.proofs.LessViews.{updates-seen}

-- ---- sides behind a window

module _ (old new : Shape) (size : ℕ) (span : Span) (order : span.lo ≤ span.hi) where
  -- what was new is
  stays-new : (back : Bool) (position x : ℕ) → window old new size back position ≡ Some span → side back position x ≡ New → side back (beyond back span) x ≡ New
  stays-new false position x is was =
      let at = forward-is old new size position span is in
      let below = new-ahead position x was in
      ap (λ (b : Bool). cond b New Old) (less x span.hi (let a = at.1 in omega (arith, below, a, order)))
    where
      less : (a b : ℕ) → a < b → nat_lt a b ≡ true
      less a b lt = grind (arith, nat_tests, lt)
  stays-new true position x is was =
      let at = backward-is old new size position span is in
      let above = new-behind position x was in
      ap (λ (b : Bool). cond b New Old) (more span.lo x (let a = at.2 in omega (arith, above, a, order)))
    where
      more : (a b : ℕ) → a ≤ b → nat_le a b ≡ true
      more a b le = grind (arith, nat_tests, le)

  -- the window after it wasn't new
  then-old : (back : Bool) (position : ℕ) (then : Span) → window old new size back position ≡ Some span → window old new size back (beyond back span) ≡ Some then → then.lo < then.hi
      → ((x : ℕ) → then.lo ≤ x → x < then.hi → side back position x ≡ New) → ⊥
  then-old false position then is next filled all =
      let at = forward-is old new size position span is in
      let behind = forward-is old new size span.hi then next in
      let below = new-ahead position then.lo (all then.lo (omega arith) filled) in
      absurd (let a = at.1 in let b = behind.1 in omega (arith, a, b, below, order))
  then-old true position then is next filled all =
      let at = backward-is old new size position span is in
      let behind = backward-is old new size span.lo then next in
      let above = new-behind position (then.hi - 1) (all (then.hi - 1) (omega (arith, filled)) (omega (arith, filled))) in
      absurd (let a = at.2 in let b = behind.2 in omega (arith, a, b, above, order, filled))

pub fit-headers-plain : FitHeadersArePlain
fit-headers-plain scope given m span header placed next fit = (of scope.backup (next_window (moved_past span m).newest) refl, fits-behind)
  where
    active : is_reshaping m.newest ≡ true
    active = is-reshaping m.newest span next

    order : span.lo ≤ span.hi
    order = span-order m.newest placed.fit span next

    some-only : (a b : Span) → ◌≡◌ {A = Option Span} (Some a) (Some b) → a ≡ b
    some-only a b e = cc

    other : (then : Span) → next_window (moved_past span m).newest ≡ Some then → is_header_of scope.uuid header ≡ true → names_span header then ≡ true → ⊥
    other then is own names = elim (fit then (λ i. own i && names i)) [
      | inl same ↦ begins-apart (shape_of m.newest) (final_shape m.newest) m.newest.size span then (bounded_pair (shape_of m.newest) (final_shape m.newest) m.newest.size (under-way m.newest placed.fit active).force).some_unit
          (is_backward m.newest) m.newest.reshape_position (window-is m.newest span next) (window-is (moved_past span m).newest then is)
          (ap (λ (s : Span). s.lo) (some-only then span (sym same ∙ next)))
      | inr new ↦ then-old (shape_of m.newest) (final_shape m.newest) m.newest.size span order (is_backward m.newest) m.newest.reshape_position then (window-is m.newest span next)
          (window-is (moved_past span m).newest then is) (names-parts header then names).2 new
    ]

    chosen : (b : ℕ) (then : Span) (t : Bool) → (has_slot scope.given b && has_section scope.uuid (scope.sizes.sectors b) (λ k. header) then) ≡ t → next_window (moved_past span m).newest ≡ Some then
        → ◌≡◌ {A = Option Span} (cond t (Some then) None) None
    chosen b then true is here =
        let both = and_parts _ _ (and_parts _ _ (and_parts _ _ is).1).0 in
        absurd (other then here both.0 both.1)
    chosen b then false is here = refl

    of : (backup : Option ℕ) (w : Option Span) → next_window (moved_past span m).newest ≡ w → section_for scope (λ s k. header) backup (next_window (moved_past span m).newest) ≡ None
    of None w is = refl
    of (Some b) None is = ap (section_for scope (λ s k. header) (Some b)) is
    of (Some b) (Some then) is = ap (section_for scope (λ s k. header) (Some b)) is ∙ chosen b then (has_slot scope.given b && has_section scope.uuid (scope.sizes.sectors b) (λ k. header) then) refl is

    fits-behind : IsHeaderFit scope (moved_past span m).newest header
    fits-behind other is = elim (fit other is) [
      | inl same ↦ (
          let e : other ≡ span = some-only other span (sym same ∙ next) in
          inr (λ x low high. fits.new-behind (is_backward m.newest) span x (subst (λ (s : Span). s.lo ≤ x) e low) (subst (λ (s : Span). x < s.hi) e high)))
      | inr new ↦ inr (λ x low high. stays-new (shape_of m.newest) (final_shape m.newest) m.newest.size span order (is_backward m.newest) m.newest.reshape_position x (window-is m.newest span next) (new x low high))
    ]

-- ---- the run

module _ (sound : Type 0) (scope : Scope) (given : Given) (told : Ledger) (m : Members) (span : Span) (start copied flushed : Disk)
    (run : IsCopyRun scope m span start copied flushed) (first : IsRightAndFit sound scope given told m start) where
  -- the copies write no header
  unwritten : (backup : ℕ) (header : Sector) → IsIn (copied backup 0) header → IsIn (start backup 0) header
  unwritten backup header may = elim (run.copying backup 0) [
    | inl less ↦ less header may
    | inr there ↦ absurd (at-rows scope given m first.right.placed there.role backup there.row 0 there.held there.place refl)
  ]

  at-copied : IsRightAndFit sound scope given told m copied
  at-copied = record {
    right = copying-right sound scope given told m span start copied run.some.0 run.able run.copying first.right;
    headers = λ backup header here may. first.headers backup header here (unwritten backup header may);
  }

  pub at-flushed : IsRightAndFit sound scope given told m flushed
  at-flushed = record {
    right = fewer-right sound scope given told m copied flushed run.flushed_is at-copied.right;
    headers = λ backup header here may. at-copied.headers backup header here (run.flushed_is backup 0 header may);
  }

  pub copies : IsRightAndFit sound scope given told m copied × IsRightAndFit sound scope given told m flushed
  copies = (at-copied, at-flushed)

  -- a header that a stop leaves then fits, where there is a backup
  behind : (backup : ℕ) (header : Sector) → scope.backup ≡ Some backup → IsIn (flushed backup 0) header
      → (open_by scope (moved_past span m).newest header ≡ None) × IsHeaderFit scope (moved_past span m).newest header
  behind backup header here may = fit-headers-plain scope given m span header first.right.placed run.able.next
      (λ other named. at-flushed.headers backup header here may other named)

  plain-behind : HasNoSection scope (moved_past span m) flushed
  plain-behind header may = of scope.backup refl
    where
      of : (backup : Option ℕ) → scope.backup ≡ backup → open_by scope (moved_past span m).newest header ≡ None
      of (Some b) is = (behind b header is (subst (λ (s : ℕ). IsIn (flushed s 0) header) (backup-is scope b is) may)).0
      of None is = ap (λ (backup : Option ℕ). section_for scope (λ s k. header) backup (next_window (moved_past span m).newest)) is

  module _ (c : Contents) (list : ℕ → Sector) (stands : IsWindowStanding sound told m span c list flushed) where
    moved : IsFlushedRight sound scope given told (moved_past span m) c list flushed
    moved = record {
      placed = moved-placed scope given m span first.right.placed run.able.next;
      sized = first.right.sized;
      flushed = stands.flushed;
      allowed = stands.allowed;
      stands = moved-stands scope given m span c list first.right.placed run.able.next stands.window stands.list_is;
      rows = λ clean few premise. moved-rows-stand scope given m span c list first.right.placed run.able.next (stands.parity clean (record { old = few.old; final = few.final }) premise) (stands.rows_are clean (record { old = few.old; final = few.final }) premise);
      plain = plain-behind;
      missing = first.right.gone;
      unclean = first.right.unclean;
      reshaping = first.right.reshaping;
      headers = λ active premise backup header here may. (behind backup header here may).1;
      zeros = stands.zeros;
      tails = λ premise. moved-tails scope given m span c list first.right.placed run.able.next stands.window;
    }

    moved-both : IsRightAndFit sound scope given told (moved_past span m) flushed
    moved-both = record {
      right = flushed-right sound scope given told (moved_past span m) c list flushed moved;
      headers = λ backup header here may. (behind backup header here may).1;
    }

pub copies-fit : (sound : Type 0) → CopiesStayFit sound
copies-fit sound scope given told m span start copied flushed run first = copies sound scope given told m span start copied flushed run first

pub moved-fits-too : (sound : Type 0) → MovedIsRightAndFit sound
moved-fits-too sound scope given told m span start copied flushed c list run first stands =
    (moved-both sound scope given told m span start copied flushed run first c list stands, plain-behind sound scope given told m span start copied flushed run first)

pub updated-fits-too : (sound : Type 0) → UpdatedIsRightAndFit sound
updated-fits-too sound scope given told m d e some updating (both, plain) = (
  record {
    right = updating-right sound scope given told m d e some updating both.right;
    headers = λ backup header here may. both.headers backup header here (unwritten backup header may);
  },
  λ header may. plain header (unwritten (backup_of scope) header may),
)
  where
    unwritten : (slot : ℕ) (header : Sector) → IsIn (e slot 0) header → IsIn (d slot 0) header
    unwritten slot header may = elim (updating slot 0) [ inl less ↦ less header may | inr (eighth, other) ↦ absurd (omega (arith, eighth)) ]

pub copies-seen : (sound : Type 0) → CopiesAreSeenRight sound
copies-seen sound scope given told m span start copied flushed c list last image run first stands updating reads =
    let then = at-flushed sound scope given told m span start copied flushed run first in
    let moved = moved-both sound scope given told m span start copied flushed run first c list stands in
    either (updates-seen sound scope given told told m (moved_past span m) flushed last image run.some.1 updating then.right moved.right reads)
  where
    either : IsSeenRight sound scope given told last image ⊎ IsSeenRight sound scope given told last image → IsSeenRight sound scope given told last image
    either (inl seen) = seen
    either (inr seen) = seen
