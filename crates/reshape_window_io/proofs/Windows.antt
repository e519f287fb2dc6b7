-- The open window of a reshape: which rows its stripes have, and what it is once stripes are copied, and once it is recorded.
use Rattle.std.proofs.Common.{◌≡◌, inl, inr, ℕ, ◌+◌, ◌-◌, ◌*◌, ◌/◌, ◌<◌, ◌≤◌, nat_lt, min, not, ◌||◌, cond, if◌then◌else◌, List, Option, Some, None, refl, sym, ◌∙◌, ap, subst, arith}
use Rattle.std.specs.Prelude.{MatchOption}
use Rattle.std.proofs.lemmas.Bool.{cases_lt}
use Rattle.std.proofs.Math.Nat.{mul-le-mul_right}
use Rattle.stripe_region_read.specs.raid_types_Sectors.{Sector}
use Rattle.stripe_region_read.specs.raid_types_Shapes.{stripe_sectors}
use Rattle.stripe_region_read.specs.raid_types_the_Shape.{Shape}
use Rattle.stripe_region_read.specs.raid_types_the_Span.{Span}
use Rattle.stripe_region_read.specs.raid_types_the_Refusal.{Refusal}
use Rattle.reshape_window_steps.specs.raid_types_the_Refusal_TheVariants.{BackupAbsent}
use Rattle.stripe_region_read.specs.bank_Given.{Given}
use Rattle.stripe_region_read.specs.bank_Tape.{Contents}
use Rattle.stripe_region_read.specs.raid_layout_Layout.{place}
use Rattle.stripe_region_read.specs.reshape_geometry_Geometry.{rows, stripes, ceiling, unit}
use Rattle.stripe_region_read.specs.reshape_geometry_Geometry as geometry
use Rattle.stripe_region_read.proofs.reshape_geometry_Divisions.{next_multiple}
use Rattle.stripe_region_read.specs.sb_specs_the_Members.{Members}
use Rattle.stripe_region_read.specs.sb_specs_Reading.{Scope, is_clean, final_shape, next_window, role_state, holder, data_offset_of}
use Rattle.reshape_window_steps.specs.stripe_row_Rows.{reading_of, held_slot}
use Rattle.reshape_window_steps.proofs.stripe_row_Losses.{holder-of}
use Rattle.reshape_window_steps.specs.stripe_list_Full.{RowStands}
use Rattle.reshape_window_steps.specs.history_Stands.{shape_for, has_room, backup_absent}
use Rattle.reshape_window_steps.specs.crash_views_Regions.{backup_of, place_by, ArePlaced}
use Rattle.reshape_window_steps.specs.crash_views_Views.{AreHeadersFit, Disk, Ledger}
use Rattle.reshape_window_steps.specs.crash_views_Windows.{IsShown, IsCopyable, ListStands, RowsStand, moved_past}
use Rattle.reshape_window_steps.proofs.crash_views_Stands.{StandsAt, moved-stands, moved-rows-stand}
use Rattle.reshape_window_steps.proofs.crash_views_UnderWay.{row-apart}
use Rattle.reshape_window_steps.specs.crash_safety_laws_Marking.{AreOthersPresent}
use Rattle.reshape_window_steps.specs.crash_safety_laws_Steady.{AreGoneTold}
use Rattle.reshape_window_steps.specs.array_members_Placed.{IsPlaced, AreStillHeld}
use Rattle.reshape_window_steps.specs.array_members_Moving.{IsMoved}
use Rattle.reshape_window_steps.specs.array_members_Lacking.{IsOfStripe, AreOtherRowsKept}
use Rattle.reshape_window_steps.proofs.array_members_Fit.{list-alike, for-alike}
use Rattle.reshape_window_steps.proofs.array_members_HeldRows.{held-moved, without-before}
use Rattle.reshape_window_steps.proofs.array_members_LackingLists.{row-moved}
use Rattle.reshape_window_steps.proofs.array_members_LackingWrites.{others-then}
use Rattle.reshape_window_steps.proofs.array_members_SafeStretch.{allowed-later, zeros-later, gone-before}
use Rattle.reshape_window_steps.proofs.sb_safe_updates_Under.{shown-moved, shown-rows-moved}
use Rattle.reshape_window_steps.specs.Copying.{AreHeadersKept}
use Rattle.reshape_window_steps.specs.Recording.{AreOthersFewer, IsCopiedWindow}
use Rattle.reshape_window_steps.proofs.CopyLaws.{row-later, tail-alike, copyable-later}
use Rattle.reshape_window_steps.proofs.PastLaws.{roomy, placed-roomy, past-rows, past-placed, gone-past, header-alike, past-moved}
use Rattle.reshape_window_io.specs.Finishing.{IsOfFirst, IsOfRest, AreStripesCopied, IsOpenWindow}

-- ---- the rows of the stripes

module _ (shape : Shape) (span : Span) where
  -- each row of the window is of its stripes
  pub all-first : (count row : ℕ) → count ≡ stripes shape span.lo span.hi → geometry.IsIn row (rows shape span.lo span.hi) → IsOfFirst shape span count row
  all-first count row all at =
      let most : ceiling span.hi (stripe_sectors shape) ≤ span.lo / stripe_sectors shape + count = omega (arith, all) in
      let wide : ceiling span.hi (stripe_sectors shape) * shape.chunk ≤ (span.lo / stripe_sectors shape + count) * shape.chunk = mul-le-mul_right shape.chunk most in
      let high = at.1 in
      (at.0, omega (arith, wide, high))

  -- and each row of the other stripes is of the window
  pub rest-in : (count row : ℕ) → IsOfRest shape span count row → geometry.IsIn row (rows shape span.lo span.hi)
  rest-in count row at =
      let wide : span.lo / stripe_sectors shape * shape.chunk ≤ (span.lo / stripe_sectors shape + count) * shape.chunk = mul-le-mul_right shape.chunk (omega arith) in
      let low = at.0 in
      (omega (arith, wide, low), at.1)

  -- a row of a stripe behind the first ones is of the others
  pub stripe-rest : (count at row : ℕ) → span.lo / stripe_sectors shape + count ≤ at → at < ceiling span.hi (stripe_sectors shape) → IsOfStripe shape at row → IsOfRest shape span count row
  stripe-rest count at row low high of =
      let wide : (span.lo / stripe_sectors shape + count) * shape.chunk ≤ at * shape.chunk = mul-le-mul_right shape.chunk low in
      let past = next_multiple at (ceiling span.hi (stripe_sectors shape)) shape.chunk high in
      let one = of.0 in
      let two = of.1 in
      (omega (arith, wide, one), omega (arith, past, two))

  module _ (given : Given) (old new : Members) (moved : IsMoved given old new) (first at : ℕ) (begins : first ≡ span.lo / stripe_sectors shape) (reached : first ≤ at)
      (before after : Contents) (list : ℕ → Sector) (kept : AreOtherRowsKept (IsOfStripe shape at) (reading_of new) before after)
      (was : AreStripesCopied shape span (at - first) old before list) where
    here : span.lo / stripe_sectors shape + (at - first) ≡ at
    here = omega (arith, begins, reached)

    -- a stripe is copied: those before it stand on
    before-it : (row : ℕ) → span.lo / stripe_sectors shape * shape.chunk ≤ row → row < at * shape.chunk → RowStands (reading_of new) after shape list row
    before-it row low early = row-later given old new moved shape list row before after (kept row (λ of. let one = of.0 in absurd (omega (arith, one, early))))
        (was row (low, subst (λ (n : ℕ). row < n * shape.chunk) (sym here) early))

    pub still-copied : AreStripesCopied shape span (at - first) new after list
    still-copied row of = before-it row of.0 (subst (λ (n : ℕ). row < n * shape.chunk) here of.1)

    pub one-more : ((row : ℕ) → IsOfStripe shape at row → RowStands (reading_of new) after shape list row) → AreStripesCopied shape span (at + 1 - first) new after list
    one-more stands row of =
        let next : span.lo / stripe_sectors shape + (at + 1 - first) ≡ at + 1 = omega (arith, begins, reached) in
        elim (cases_lt row (at * shape.chunk)) [
          | inl early ↦ before-it row of.0 early
          | inr late ↦ stands row (late, subst (λ (n : ℕ). row < n * shape.chunk) next of.1)
        ]

  -- the stripes behind the first ones were copied up to here, and then this one
  pub rest-kept : (given : Given) (a b c : Members) (count at : ℕ) → span.lo / stripe_sectors shape + count ≤ at → at < ceiling span.hi (stripe_sectors shape) → (before between after : Contents) → IsMoved given b c
      → AreOtherRowsKept (IsOfRest shape span count) (reading_of b) before between → AreOtherRowsKept (IsOfStripe shape at) (reading_of c) between after → AreOtherRowsKept (IsOfRest shape span count) (reading_of c) before after
  rest-kept given a b c count at low high before between after moved one two =
      others-then given (IsOfRest shape span count) a b c before between after moved one (λ row out. two row (λ of. out (stripe-rest count at row low high of)))

-- ---- where the members are placed

module _ (scope : Scope) (given : Given) (old new : Members) (moved : IsMoved given old new) where
  backup-alike : backup_absent scope new.newest ≡ backup_absent scope old.newest
  backup-alike i =
      cond (not (moved.reshape.reshaping i) || has_room scope (min (unit (moved.shape i) (moved.reshape.final i)) (list-alike old.newest new.newest moved.reshape moved.shape moved.size i))) None (Some BackupAbsent)

  pub placed-later : ArePlaced scope given old → ArePlaced scope given new
  placed-later placed = record {
    fit = moved.placed.fit;
    roles = moved.placed.roles;
    holders = moved.placed.holders;
    behind = moved.placed.behind;
    members_own = λ role slot held is. placed.members_own role slot (moved.held role slot held) is;
    apart = moved.placed.apart;
    backup = backup-alike ∙ placed.backup;
  }

  -- the headers that a stop leaves fit on
  pub headers-later : (d e : Disk) → AreHeadersKept d e → AreHeadersFit scope old d → AreHeadersFit scope new e
  headers-later d e kept fit backup header here may = header-alike old.newest new.newest moved.reshape moved.shape moved.size scope header (fit backup header here (kept backup header may))

-- ---- stripes are copied

module _ (sound : Type 0) (scope : Scope) (given : Given) (told : Ledger) (m new : Members) (span : Span) (buffer : List ℕ) (from count : ℕ) (list : ℕ → Sector) (before after : Contents) (d e : Disk)
    (was : IsPlaced given m) (moved : IsMoved given m new) (clean : is_clean new.newest ≡ is_clean m.newest)
    (kept : AreOtherRowsKept (IsOfRest (final_shape m.newest) span from) (reading_of new) before after) (headers : AreHeadersKept d e) (able : IsCopyable scope new span e)
    (written : AreStripesCopied (final_shape m.newest) span count new after list) (opened : IsOpenWindow sound scope told m span buffer from list before d) where
  was-shown : (x : ℕ) → IsShown (Some span) new.newest x → IsShown (Some span) m.newest x
  was-shown x shown = record {
    within = subst (λ (n : ℕ). x < n) (list-alike m.newest new.newest moved.reshape moved.shape moved.size) shown.within;
    outside = shown.outside;
  }

  -- no sector outside the window stands in a row that was written
  apart : (x : ℕ) → IsShown (Some span) m.newest x → IsOfRest (final_shape m.newest) span from (place_by m.newest x).row → ⊥
  apart x shown at = row-apart m.newest was.fit span opened.able.next (place_by m.newest x).row (rest-in (final_shape m.newest) span from (place_by m.newest x).row at) x shown.within shown.outside refl

  alike : (x : ℕ) → shape_for new.newest x ≡ shape_for m.newest x
  alike = for-alike m.newest new.newest moved.reshape moved.shape moved.size

  pub open-copied : IsOpenWindow sound scope told new span buffer count list after e
  open-copied = record {
    able = able;
    written = subst (λ (s : Shape). AreStripesCopied s span count new after list) (sym moved.reshape.final) written;
    buffered = tail-alike m.newest new.newest moved.reshape moved.shape moved.size span buffer list opened.buffered;
    allowed = allowed-later given m new moved told.values list opened.allowed;
    stands = λ x slot shown. subst (λ (s : Shape). StandsAt new after list x (place s x)) (sym (alike x)) (λ slot held.
        kept (place_by m.newest x).row (apart x (was-shown x shown)) (place_by m.newest x).role slot (holder-of (reading_of new) (place_by m.newest x).role (place_by m.newest x).row slot held)
        ∙ ap (λ (n : ℕ). before slot (n + (place_by m.newest x).row)) (moved.offsets slot)
        ∙ opened.stands x slot (was-shown x shown) (held-moved moved (place_by m.newest x).role (place_by m.newest x).row slot held)) slot;
    rows_are = λ is does premise x shown. subst (λ (s : Shape). RowStands (reading_of new) after s list (place s x).row) (sym (alike x))
        (row-later given m new moved (shape_for m.newest x) list (place_by m.newest x).row before after (kept (place_by m.newest x).row (apart x (was-shown x shown)))
        (opened.rows_are (sym clean ∙ is) (without-before given m new moved does) premise x (was-shown x shown)));
    headers = headers-later scope given m new moved d e headers opened.headers;
    zeros = λ so. zeros-later given (moved_past span m) (moved_past span new) (past-moved given m new span moved opened.able.next) list (opened.zeros so);
  }

-- where all are, the window is copied
pub all-copied : (sound : Type 0) (scope : Scope) (told : Ledger) (m : Members) (span : Span) (buffer : List ℕ) (count : ℕ) (list : ℕ → Sector) (c : Contents) (d : Disk)
    → count ≡ stripes (final_shape m.newest) span.lo span.hi → IsOpenWindow sound scope told m span buffer count list c d → IsCopiedWindow sound scope told m span list c d
all-copied sound scope told m span buffer count list c d all opened = record {
  allowed = opened.allowed;
  window = λ row at. opened.written row (all-first (final_shape m.newest) span count row all at);
  stands = opened.stands;
  rows_are = opened.rows_are;
  headers = opened.headers;
  zeros = opened.zeros;
}

-- ---- the window is recorded

-- what the record leaves of the members, whether it is done or refused
abbrev pub IsLeftBy : Given → Span → Members → Members → Option Refusal → Type 0
IsLeftBy given span m new refusal = MatchOption refusal (IsMoved given (moved_past span m) new) (λ refusal. IsMoved given m new)

-- a row stands with the position moved
module _ (m : Members) (span : Span) where
  past-held : (role row slot : ℕ) → held_slot (reading_of (moved_past span m)) role row ≡ Some slot → held_slot (reading_of m) role row ≡ Some slot
  past-held role row slot held =
      ap (λ (n : ℕ). if nat_lt row n then holder (role_state (reading_of m) role) else None) (sym (past-rows m span (role_state (reading_of m) role))) ∙ held

  past-row : (shape : Shape) (list : ℕ → Sector) (row : ℕ) (c : Contents) → RowStands (reading_of m) c shape list row → RowStands (reading_of (moved_past span m)) c shape list row
  past-row shape list row c stands = record {
    whole = stands.whole;
    sectors = λ role slot lt here held. stands.sectors role slot lt here (past-held role row slot held);
    parity = λ role slot lt here held. stands.parity role slot lt here (past-held role row slot held);
  }

module _ (given : Given) (span : Span) (m new : Members) (was : IsPlaced given m) (next : next_window m.newest ≡ Some span) (before after : Contents) (others : AreOthersPresent before after) where
  pub left-copied : (refusal : Option Refusal) → IsLeftBy given span m new refusal → (shape : Shape) (count : ℕ) (list : ℕ → Sector) → AreStripesCopied shape span count m before list
      → AreStripesCopied shape span count new after list
  left-copied None left shape count list copied row at =
      row-moved given (moved_past span m) new before after list left (past-placed given m span was next) others row shape (past-row m span shape list row before (copied row at))
  left-copied (Some refusal) left shape count list copied row at = row-moved given m new before after list left was others row shape (copied row at)

  still : (refusal : Option Refusal) → IsLeftBy given span m new refusal → AreStillHeld m new
  still None left = left.held
  still (Some refusal) left = left.held

  offset : (refusal : Option Refusal) → IsLeftBy given span m new refusal → (slot : ℕ) → data_offset_of (reading_of new) slot ≡ data_offset_of (reading_of m) slot
  offset None left = left.offsets
  offset (Some refusal) left = left.offsets

  pub left-others : (refusal : Option Refusal) → IsLeftBy given span m new refusal → (among : ℕ → Type 0) (first : Contents) → AreOtherRowsKept among (reading_of m) first before → AreOtherRowsKept among (reading_of new) first after
  left-others refusal left among first kept row out role slot held =
      let held-before = still refusal left role slot held in
      let far = was.behind role slot held-before in
      let same = offset refusal left slot in
      others slot (data_offset_of (reading_of new) slot + row) (λ e. absurd (omega (arith, e, far, same)))
      ∙ ap (λ (n : ℕ). before slot (n + row)) same
      ∙ kept row out role slot held-before
      ∙ ap (λ (n : ℕ). first slot (n + row)) (sym same)

  pub left-gone : (refusal : Option Refusal) → IsLeftBy given span m new refusal → (told : Ledger) → AreGoneTold told new → AreGoneTold told m
  left-gone None left told gone = gone-past given m new span was next left told gone
  left-gone (Some refusal) left told gone = gone-before given m new was left told gone

  -- where it is refused, the window stays open
  pub left-open : (sound : Type 0) (scope : Scope) (told : Ledger) (buffer : List ℕ) (count : ℕ) (list : ℕ → Sector) (d e : Disk) → IsMoved given m new → is_clean new.newest ≡ is_clean m.newest → AreOthersFewer d e
      → IsOpenWindow sound scope told m span buffer count list before d → IsOpenWindow sound scope told new span buffer count list after e
  left-open sound scope told buffer count list d e moved clean fewer opened = record {
    able = copyable-later scope m new moved.reshape moved.shape moved.size span d e (λ header may. fewer (backup_of scope) 0 header (omega arith) may) opened.able;
    written = λ row at. subst (λ (s : Shape). RowStands (reading_of new) after s list row) (sym moved.reshape.final)
        (row-moved given m new before after list moved was others row (final_shape m.newest) (opened.written row (subst (λ (s : Shape). IsOfFirst s span count row) moved.reshape.final at)));
    buffered = tail-alike m.newest new.newest moved.reshape moved.shape moved.size span buffer list opened.buffered;
    allowed = allowed-later given m new moved told.values list opened.allowed;
    stands = shown-moved given m new before after list moved was others (Some span) opened.stands;
    rows_are = λ is does premise. shown-rows-moved given m new before after list moved was others (Some span) (opened.rows_are (sym clean ∙ is) (without-before given m new moved does) premise);
    headers = headers-later scope given m new moved d e (λ s v may. fewer s 0 v (omega arith) may) opened.headers;
    zeros = λ so. zeros-later given (moved_past span m) (moved_past span new) (past-moved given m new span moved opened.able.next) list (opened.zeros so);
  }

  -- where it is done, the list stands, and its rows
  pub left-listed : (list : ℕ → Sector) → IsMoved given (moved_past span m) new → ((row : ℕ) → geometry.IsIn row (rows (final_shape m.newest) span.lo span.hi) → RowStands (reading_of m) before (final_shape m.newest) list row)
      → ListStands (Some span) m before list → ListStands None new after list
  left-listed list moved window stands =
      shown-moved given (moved_past span m) new before after list moved (past-placed given m span was next) others None
      (moved-stands (roomy m.newest) given m span before list (placed-roomy given m was) next (λ row at. (window row at).sectors) stands)

  pub left-rows : (list : ℕ → Sector) → IsMoved given (moved_past span m) new → ((row : ℕ) → geometry.IsIn row (rows (final_shape m.newest) span.lo span.hi) → RowStands (reading_of m) before (final_shape m.newest) list row)
      → RowsStand (Some span) m before list → RowsStand None new after list
  left-rows list moved window stands =
      shown-rows-moved given (moved_past span m) new before after list moved (past-placed given m span was next) others None
      (moved-rows-stand (roomy m.newest) given m span before list (placed-roomy given m was) next window stands)
