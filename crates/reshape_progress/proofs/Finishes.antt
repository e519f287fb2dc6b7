-- What is left of a window is copied, and its position moves, in one call: the members of the end, with the position where it was, stand for those on which the copies ended.
use Rattle.std.proofs.Common.{◌≡◌, ℕ, ◌+◌, ◌*◌, ◌/◌, ◌<◌, ◌≤◌, ◌==◌, ◌||◌, nat_lt, if◌then◌else◌, not, cond, Option, Some, None, refl, sym, ◌∙◌, ap, subst, arith}
use Rattle.std.proofs.Math.Nat.{mul-le-mul_right}
use Rattle.reshape_request.specs.raid_types_the_Refusal_TheVariants.{PositionNotOnUnit}
use Rattle.reshape_request.specs.raid_types_the_Shape.{Shape}
use Rattle.reshape_request.specs.raid_types_the_Span.{Span}
use Rattle.reshape_request.specs.raid_types_the_Role.{Role}
use Rattle.reshape_request.specs.raid_types_the_Role_TheVariants.{Whole, Recovering, Missing}
use Rattle.reshape_request.specs.raid_types_Sectors.{Sector}
use Rattle.reshape_request.specs.raid_types_Shapes.{stripe_sectors, is_multiple}
use Rattle.reshape_request.specs.bank_Given.{Given}
use Rattle.reshape_request.specs.bank_Tape.{Contents}
use Rattle.reshape_request.specs.reshape_geometry_Geometry.{stripes, rows, unit, beyond}
use Rattle.reshape_request.specs.reshape_geometry_Geometry as geometry
use Rattle.reshape_window_steps.specs.sb_specs_the_Members.{Members}
use Rattle.reshape_window_steps.specs.sb_specs_Reading.{is_backward, final_shape, list_length, next_window, role_state, rows_held, holder}
use Rattle.reshape_window_steps.specs.sb_specs_Verdict.{off_unit}
use Rattle.reshape_window_steps.specs.stripe_row_Rows.{reading_of, held_slot}
use Rattle.reshape_window_steps.specs.stripe_list_Full.{RowStands}
use Rattle.reshape_window_steps.specs.crash_views_Regions.{AreShapesFit, place_by}
use Rattle.reshape_window_steps.specs.crash_views_Windows.{IsShown, moved_past}
use Rattle.reshape_window_steps.proofs.crash_views_Tails.{no-tail}
use Rattle.reshape_window_steps.specs.array_members_Placed.{IsPlaced}
use Rattle.reshape_window_steps.specs.array_members_Moving.{IsMoved}
use Rattle.reshape_window_steps.proofs.array_members_Fit.{list-alike}
use Rattle.reshape_window_steps.proofs.array_members_MovedLaws.{moved-same}
use Rattle.reshape_window_steps.proofs.PastLaws.{roomy, placed-roomy, past-rows, next-moved, free-moved}
use Rattle.reshape_request.specs.declared.window.Window.TheVariants.{Entered}
use Rattle.reshape_progress.specs.Course.{IsOfStripes, hidden_in, AnyShape, StandsInCourse, past_stripe}
use Rattle.reshape_progress.specs.Laws.{RestsGoOn, FinishesClose, IsLeftRow, AreStripesStanding, entered, next_stripe}
use Rattle.reshape_progress.proofs.Frames.{stands-on}
use Rattle.reshape_progress.proofs.Courses.{none-of-none, hidden-same, shown-apart, records-close}

-- ---- the stripes that are left

-- each of their rows is one that the window writes
left-in : (m : Members) (span : Span) (copied row : ℕ) → IsLeftRow m span copied row → geometry.IsIn row (rows (final_shape m.newest) span.lo span.hi)
left-in m span copied row at =
    let first : ℕ = span.lo / stripe_sectors (final_shape m.newest) in
    let wide : first * (final_shape m.newest).chunk ≤ (first + copied) * (final_shape m.newest).chunk = mul-le-mul_right (final_shape m.newest).chunk (omega arith) in
    let low = at.0 in
    (omega (arith, wide, low), at.1)

-- no row is before a bound and behind it
not-both : (bound row : ℕ) → row < bound → bound ≤ row → ⊥
not-both bound row below behind = absurd (omega (arith, below, behind))

pub rests-go-on : (sound : Type 0) (among : Shape → Type 0) → RestsGoOn sound among
rests-go-on sound among given old new span copied sectioned buffer c e list placed moved next plain kept was = (on, all)
  where
    on : StandsInCourse sound among new (entered span copied sectioned) buffer e list
    on = stands-on sound among given old new moved (entered span copied sectioned) buffer c e list (IsLeftRow old span copied) kept was (record {
      shown = λ x own shown at. shown-apart given old span copied sectioned placed next plain x shown (left-in old span copied (place_by old.newest x).row at);
      tail = λ own x tail at. no-tail old.newest span x next tail;
      copied = λ own row of at. not-both (next_stripe old span copied * (final_shape old.newest).chunk) row of.1 at.0;
      zeroed = λ own row of at. none-of-none (final_shape old.newest) (past_stripe old.newest) row of;
    })

    all : AreStripesStanding old new span e list → StandsInCourse sound among new (entered span (stripes (final_shape new.newest) span.lo span.hi) sectioned) buffer e list
    all done = record {
      stands = λ x slot own shown. on.stands x slot own (shown-same x shown);
      window = on.window;
      zeros = on.zeros;
      copied = λ own row at. subst (λ (s : Shape). RowStands (reading_of new) e s list row) (sym moved.reshape.final)
          (done row (subst (λ (s : Shape). IsOfStripes s (span.lo / stripe_sectors s) (stripes s span.lo span.hi) row) moved.reshape.final at));
      tail = on.tail;
      zeroed = on.zeroed;
      rows = λ so x own shown. on.rows so x own (shown-same x shown);
    }
      where
        shown-same : (x : ℕ) → IsShown (hidden_in (Entered span (stripes (final_shape new.newest) span.lo span.hi) sectioned)) new.newest x → IsShown (hidden_in (Entered span copied sectioned)) new.newest x
        shown-same x = subst (λ (hidden : Option Span). IsShown hidden new.newest x) (hidden-same span (stripes (final_shape new.newest) span.lo span.hi) copied sectioned)

-- ---- the members between

module _ (given : Given) (old new : Members) (span : Span) (placed : IsPlaced given old) (next : next_window old.newest ≡ Some span) (moved : IsMoved given (moved_past span old) new) where
  -- those of the end, with the position where it was
  abbrev mid : Members
  mid = record new { newest = record new.newest { reshape_position = old.newest.reshape_position } }

  mid-rows : (state : Role) → rows_held (reading_of mid) state ≡ rows_held (reading_of new) state
  mid-rows (Whole slot) = refl
  mid-rows (Recovering slot) = refl
  mid-rows Missing = refl

  list-same : list_length new.newest ≡ list_length old.newest
  list-same = list-alike (moved_past span old).newest new.newest moved.reshape moved.shape moved.size

  unit-same : off_unit mid.newest ≡ off_unit old.newest
  unit-same i = cond (not (moved.reshape.reshaping i) || is_multiple old.newest.reshape_position (unit (moved.shape i) (moved.reshape.final i)) || (old.newest.reshape_position == list-same i)) None
      (Some (PositionNotOnUnit old.newest.reshape_position (unit (moved.shape i) (moved.reshape.final i))))

  mid-fits : AreShapesFit mid.newest
  mid-fits =
      let fit = moved.placed.fit in
      record {
        valid = record { old = fit.valid.old; final = fit.valid.final };
        size = fit.size;
        final_size = fit.final_size;
        level = fit.level;
        unit = unit-same ∙ placed.fit.unit;
        position = λ active. subst (λ (n : ℕ). old.newest.reshape_position ≤ n) (sym list-same) (placed.fit.position (sym moved.reshape.reshaping ∙ active));
        delta = fit.delta;
        delta_back = fit.delta_back;
      }

  mid-placed : IsPlaced given mid
  mid-placed =
      let end = moved.placed in
      record {
        fit = mid-fits;
        roles = end.roles;
        holders = λ role slot held. let h = end.holders role slot held in record { small = h.small; known = h.known; short = h.short; within = h.within };
        behind = end.behind;
        apart = end.apart;
        live = end.live;
      }

  mid-moved : IsMoved given old mid
  mid-moved = record {
    placed = mid-placed;
    unlost = moved.unlost;
    held = moved.held;
    states = moved.states;
    rows = λ role. mid-rows (role_state (reading_of new) role) ∙ moved.rows role ∙ past-rows old span (role_state (reading_of new) role);
    spares = moved.spares;
    fewer = moved.fewer;
    free = λ all slot has.
        let f = free-moved given old new span moved all slot has in
        let room = f.room in
        record { room = record { small = room.small; known = room.known; short = room.short; within = room.within }; behind = f.behind; none = f.none; unlost = f.unlost };
    reshape = record { reshaping = moved.reshape.reshaping; final = moved.reshape.final; position = refl; backward = moved.reshape.backward };
    shape = moved.shape;
    size = moved.size;
    offsets = moved.offsets;
    whole = moved.whole;
    same = moved.same;
  }

  -- behind the window they are those of the end
  past-mid : moved_past span mid ≡ new
  past-mid i = record new { newest = record new.newest { reshape_position = at i } }
    where
      at : beyond (is_backward new.newest) span ≡ new.newest.reshape_position
      at = (λ i. beyond (moved.reshape.backward i) span) ∙ sym moved.reshape.position

  moved-on : IsMoved given (moved_past span mid) new
  moved-on = subst (λ (m : Members). IsMoved given m new) (sym past-mid) (moved-same given given new new refl refl moved.placed moved.unlost)

  -- what stands at the end stands on them
  mid-held : (role row slot : ℕ) → held_slot (reading_of mid) role row ≡ Some slot → held_slot (reading_of new) role row ≡ Some slot
  mid-held role row slot held =
      ap (λ (n : ℕ). if nat_lt row n then holder (role_state (reading_of new) role) else None) (sym (mid-rows (role_state (reading_of new) role))) ∙ held

  mid-row : (shape : Shape) (list : ℕ → Sector) (row : ℕ) (e : Contents) → RowStands (reading_of new) e shape list row → RowStands (reading_of mid) e shape list row
  mid-row shape list row e stands = record {
    whole = stands.whole;
    sectors = λ role slot lt here held. stands.sectors role slot lt here (mid-held role row slot held);
    parity = λ role slot lt here held. stands.parity role slot lt here (mid-held role row slot held);
  }

  mid-next : next_window mid.newest ≡ Some span
  mid-next = next-moved given old mid span mid-moved next

pub finishes-close : (sound : Type 0) → FinishesClose sound
finishes-close sound given old new span copied sectioned buffer c e list placed moved next plain kept done was =
    records-close sound (roomy between.newest) given between new span sectioned buffer e e list (placed-roomy given between here.placed) here.placed
    (mid-next given old new span placed next moved) (moved-on given old new span placed next moved) (λ s k other. refl)
    ((rests-go-on sound AnyShape given old between span copied sectioned buffer c e list placed here next plain kept was).1
    (λ row at. mid-row given old new span placed next moved (final_shape old.newest) list row e (done row at)))
  where
    between : Members
    between = mid given old new span placed next moved

    here : IsMoved given old between
    here = mid-moved given old new span placed next moved
