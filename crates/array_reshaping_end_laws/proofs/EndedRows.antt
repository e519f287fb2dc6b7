-- The list behind the end of a reshape: it stands on the members by the new shape alone, with its rows, and zeros behind its end.
use Rattle.std.proofs.Common.{◌≡◌, ℕ, ◌*◌, ◌<◌, ◌≤◌, nat_lt, Bool, true, false, not, cond, min, Some, None, List, refl, sym, ◌∙◌, ap, subst, arith}
use Rattle.std.proofs.lemmas.Bool.Decides.{nat_tests}
use Rattle.array_fixed_invariant.specs.raid_types_Sectors.{Sector, zero_sector}
use Rattle.array_fixed_invariant.specs.raid_types_Shapes.{data_disks}
use Rattle.array_fixed_invariant.specs.raid_types_the_Shape.{Shape}
use Rattle.array_fixed_invariant.specs.raid_types_the_Role.{Role}
use Rattle.array_fixed_invariant.specs.raid_types_the_Role_TheVariants.{Whole, Recovering, Missing}
use Rattle.array_fixed_invariant.specs.bank_Given.{Given}
use Rattle.array_fixed_invariant.specs.bank_Tape.{Contents}
use Rattle.array_fixed_invariant.specs.raid_layout_Layout.{place}
use Rattle.array_fixed_invariant.proofs.raid_layout_Places.{place-sector_below}
use Rattle.array_fixed_invariant.specs.reshape_geometry_Geometry.{zeroed_stripes}
use Rattle.array_fixed_invariant.specs.sb_specs_the_Members.{Members}
use Rattle.array_fixed_invariant.specs.sb_specs_Reading.{Scope, is_reshaping, is_backward, is_whole, shape_of, final_shape, list_length, role_state, rows_held, holder, data_offset_of}
use Rattle.array_fixed_invariant.specs.stripe_row_Rows.{reading_of, is_missing, held_slot}
use Rattle.array_fixed_invariant.proofs.stripe_row_Losses.{holder-of}
use Rattle.array_fixed_invariant.specs.stripe_list_Full.{RowStands}
use Rattle.array_fixed_invariant.specs.history_Stands.{shape_for}
use Rattle.array_fixed_invariant.specs.stripe_region_laws_Regions.{IsDirected}
use Rattle.array_fixed_invariant.specs.crash_views_Regions.{ArePlaced, DoWithout}
use Rattle.array_fixed_invariant.specs.crash_views_Windows.{ListStands, RowsStand}
use Rattle.array_fixed_invariant.proofs.crash_views_Stands.{for-still, list-still, still-stands}
use Rattle.array_fixed_invariant.proofs.crash_views_UnderWay.{under-way}
use Rattle.array_fixed_invariant.specs.crash_safety_laws_Marking.{AreOthersPresent}
use Rattle.array_fixed_invariant.specs.crash_safety_laws_Steady.{AreUnlost}
use Rattle.array_fixed_invariant.specs.crash_safety_laws_Updates.{IsAtEnd}
use Rattle.array_fixed_invariant.proofs.crash_safety_laws_LessViews.{ends-place}
use Rattle.array_fixed_invariant.specs.crash_reshape_laws_Ends.{AreRolesKept, ArePlacesAlike, IsEnded}
use Rattle.array_fixed_invariant.specs.crash_reshape_laws_Plans.{HasNoneRecovering}
use Rattle.array_fixed_invariant.proofs.crash_reshape_laws_EndLaws.{same-placed, places-alike-stand}
use Rattle.array_fixed_invariant.proofs.crash_reshape_laws_GrownLaws.{row-list}
use Rattle.array_fixed_invariant.proofs.crash_reshape_laws_GrownStanding.{grown-stands}
use Rattle.array_fixed_invariant.specs.array_members_Moving.{IsMoved}
use Rattle.array_fixed_invariant.specs.array_members_Placed.{IsPlaced, HaveSameReshape}
use Rattle.array_fixed_invariant.proofs.array_members_Fit.{fit-alike, valid, multiple}
use Rattle.array_fixed_invariant.proofs.array_members_HeldRows.{rows-same}
use Rattle.array_fixed_invariant.proofs.array_members_Still.{length-still, placed-two, backup-still}
use Rattle.array_fixed_invariant.specs.reshape_begin_end_Finished.{IsZeroBehind}
use Rattle.array_fixed_invariant.specs.reshape_progress_Course.{AnyShape, StandsInCourse}
use Rattle.array_fixed_invariant.specs.reshape_progress_Laws.{closed}
use Rattle.array_fixed_invariant.proofs.reshape_progress_Frames.{list-whole, rows-whole}
use Rattle.array_fixed_invariant.proofs.reshape_progress_Courses.{courses-move, zeroes-are-all}
use Rattle.array_fixed_invariant.specs.array_reshaping_invariant_Moving.{HasListStill}
use Rattle.array_fixed_invariant.proofs.array_reshaping_invariant_MembersMove.{backed-moved}

-- What the members are behind the end of a reshape that has gone through the list: the new shape alone is in force, and of its roles a slot holds what it held.
pub record HaveEnded (given : Given) (old new : Members) : Type 0 where
  pub placed : IsPlaced given new
  pub unlost : AreUnlost new
  pub last : IsAtEnd old.newest
  pub still : is_reshaping new.newest ≡ false
  pub shape : shape_of new.newest ≡ final_shape old.newest
  pub size : new.newest.size ≡ old.newest.size
  pub states : (role slot : ℕ) → holder (role_state (reading_of new) role) ≡ Some slot → role_state (reading_of new) role ≡ role_state (reading_of old) role
  pub offsets : (slot : ℕ) → data_offset_of (reading_of new) slot ≡ data_offset_of (reading_of old) slot
  pub enough : DoWithout old

module _ (scope : Scope) (given : Given) (old new : Members) (was : IsPlaced given old) (unlost : AreUnlost old) (backed : ArePlaced scope given old) (active : is_reshaping old.newest ≡ true) (whole : HasNoneRecovering old)
    (have : HaveEnded given old new) where
  -- the members before it, with the mark that is left
  abbrev Before : Members
  Before = record old { newest = record old.newest { resync_offset = new.newest.resync_offset } }

  same-reshape : HaveSameReshape old.newest Before.newest
  same-reshape = record { reshaping = refl; final = refl; position = refl; backward = refl }

  same-rows : (state : Role) → rows_held (reading_of Before) state ≡ rows_held (reading_of old) state
  same-rows state = rows-same (reading_of Before) (reading_of old) refl refl (λ slot. refl) state

  placed-before : IsPlaced given Before
  placed-before = record {
    fit = fit-alike old.newest Before.newest same-reshape refl refl was.fit;
    roles = was.roles;
    holders = λ role slot held. let h = was.holders role slot held in record { small = h.small; known = h.known; short = h.short; within = h.within };
    behind = was.behind;
    apart = was.apart;
    live = was.live;
  }

  before-moved : IsMoved given old Before
  before-moved = record {
    placed = placed-before;
    unlost = unlost;
    held = λ role slot held. held;
    states = λ role slot held. refl;
    rows = λ role. same-rows (role_state (reading_of old) role);
    spares = λ few. few;
    fewer = λ slot has. has;
    free = λ all slot has. let f = all slot has in record {
      room = record { small = f.room.small; known = f.room.known; short = f.room.short; within = f.room.within };
      behind = f.behind;
      none = f.none;
      unlost = f.unlost;
    };
    reshape = same-reshape;
    shape = refl;
    size = refl;
    offsets = λ slot. refl;
    whole = λ w. w;
    same = λ w. refl;
  }

  backed-before : ArePlaced scope given Before
  backed-before = backed-moved scope given old Before before-moved backed

  -- ---- the roles

  rows-new : (role : ℕ) (state : Role) → role_state (reading_of old) role ≡ state → rows_held (reading_of new) state ≡ rows_held (reading_of Before) state
  rows-new role (Whole slot) is = have.size
  rows-new role (Recovering slot) is = absurd (whole role slot is)
  rows-new role Missing is = refl

  -- a row that a slot holds then it held before
  held-before : (role row slot : ℕ) → held_slot (reading_of new) role row ≡ Some slot → held_slot (reading_of Before) role row ≡ Some slot
  held-before role row slot held =
      let same = have.states role slot (holder-of (reading_of new) role row slot held) in
      sym (ap (λ (n : ℕ). cond (nat_lt row n) (holder (role_state (reading_of old) role)) None) (rows-new role (role_state (reading_of old) role) refl))
      ∙ sym (ap (λ (s : Role). cond (nat_lt row (rows_held (reading_of new) s)) (holder s) None) same) ∙ held

  -- and a role that was missing is so
  pub missing-then : (role : ℕ) → is_missing (reading_of old) role ≡ true → is_missing (reading_of new) role ≡ true
  missing-then role gone = of (role_state (reading_of new) role) refl
    where
      of : (state : Role) → role_state (reading_of new) role ≡ state → is_missing (reading_of new) role ≡ true
      of (Whole slot) is = ap (λ (s : Role). not (is_whole s)) (have.states role slot (ap holder is)) ∙ gone
      of (Recovering slot) is = ap (λ (s : Role). not (is_whole s)) is
      of Missing is = ap (λ (s : Role). not (is_whole s)) is

  ended : IsEnded Before new
  ended = record {
    active = active;
    still = have.still;
    shape = have.shape;
    size = have.size;
    clean = refl;
    last = have.last;
    kept = λ role row slot lt held. record { within = lt; held = held-before role row slot held; offset = have.offsets slot };
    missing = λ role lt gone. missing-then role gone;
    without = λ does. record { old = have.enough.old; final = have.enough.final };
  }

  backed-new : ArePlaced scope given new
  backed-new = placed-two scope given new have.placed (backup-still scope new.newest have.still)
      (λ role slot held. backed.members_own role slot (sym (ap holder (have.states role slot held)) ∙ held))

  -- ---- the list

  after-is : (x : ℕ) → shape_for new.newest x ≡ final_shape Before.newest
  after-is x = for-still new.newest have.still x ∙ have.shape

  before-is : (x : ℕ) → x < list_length Before.newest → shape_for Before.newest x ≡ final_shape Before.newest
  before-is x lt = (ends-place Before.newest x active lt).1 have.last

  -- backward it is no longer than before
  pub ended-short : is_backward old.newest ≡ true → list_length new.newest ≤ list_length Before.newest
  ended-short back =
      let le : data_disks (final_shape Before.newest) ≤ data_disks (shape_of Before.newest) = subst (IsDirected (shape_of Before.newest) (final_shape Before.newest)) back (under-way Before.newest placed-before.fit active).directed in
      let least : data_disks (final_shape Before.newest) ≡ min (data_disks (shape_of Before.newest)) (data_disks (final_shape Before.newest)) = omega (arith, le) in
      let all : data_disks (final_shape Before.newest) * Before.newest.size ≡ list_length Before.newest = ap (λ (k : ℕ). k * Before.newest.size) least in
      let long : list_length new.newest ≡ data_disks (final_shape Before.newest) * Before.newest.size = list-still new.newest have.still ∙ (λ i. data_disks (have.shape i) * have.size i) in
      omega (arith, long, all)

  alike : list_length new.newest ≤ list_length Before.newest → ArePlacesAlike Before new
  alike within = record {
    within = within;
    shapes = λ x lt. same-placed (shape_for Before.newest x) (shape_for new.newest x) (after-is x ∙ sym (before-is x (omega (arith, lt, within))));
    kept = λ x lt. subst (λ (s : Shape). AreRolesKept Before new s.disks (shape_for new.newest x).disks) (sym (before-is x (omega (arith, lt, within))))
        (subst (λ (s : Shape). AreRolesKept Before new (final_shape Before.newest).disks s.disks) (sym (after-is x)) ended.kept);
  }

  module _ (sound : Type 0) (buffer : List ℕ) (zeroed : ℕ) (all : zeroed ≡ zeroed_stripes (shape_of old.newest) (final_shape old.newest) old.newest.size (is_backward old.newest)) (c e : Contents) (list : ℕ → Sector)
      (others : AreOthersPresent c e) (stands : StandsInCourse sound AnyShape old (closed zeroed) buffer c list) where
    there : StandsInCourse sound AnyShape Before (closed zeroed) buffer e list
    there = courses-move sound AnyShape given old Before (closed zeroed) buffer c e list was before-moved others stands

    behind : is_backward old.newest ≡ false → IsZeroBehind Before e list
    behind forth = zeroes-are-all sound given Before buffer e list placed-before active forth (subst (λ (k : ℕ). StandsInCourse sound AnyShape Before (closed k) buffer e list) all there)

    stands-or : (back : Bool) → is_backward old.newest ≡ back → ListStands None new e list × (RowsStand None Before e list → RowsStand None new e list)
    stands-or true back =
        let stand = places-alike-stand scope given Before new e list backed-new (alike (ended-short back)) in
        (stand.0 (list-whole sound Before (closed zeroed) buffer e list there), stand.1)
    stands-or false forth =
        let z = behind forth in
        let stand = grown-stands scope given Before new e list ended backed-before backed-new forth z.zeros in
        (stand.0 (list-whole sound Before (closed zeroed) buffer e list there) z.tail (λ row past. (z.past row past).sectors), λ rows. stand.1 rows z.past)

    -- So the list stands by the new shape, and its rows where they did.
    pub ended-stands : ListStands None new e list × (sound → RowsStand None new e list)
    ended-stands = let stand = stands-or (is_backward old.newest) refl in (stand.0, λ so. stand.1 (rows-whole sound Before (closed zeroed) buffer e list there so))

-- ---- without a reshape

-- no backup is asked of members without a reshape
abbrev pub alone_of : Scope → Scope
alone_of scope = record scope { backup = None }

module _ (scope : Scope) (given : Given) (m : Members) (placed : IsPlaced given m) (still : is_reshaping m.newest ≡ false) (c : Contents) where
  pub alone-placed : ArePlaced (alone_of scope) given m
  alone-placed = placed-two (alone_of scope) given m placed (backup-still (alone_of scope) m.newest still) (λ role slot held none. absurd (cc))

  -- each row stands then
  pub rows-still : (list : ℕ → Sector) → RowsStand None m c list → (row : ℕ) → row < m.newest.size → RowStands (reading_of m) c (shape_of m.newest) list row
  rows-still list = (still-stands (alone_of scope) given m c list alone-placed still).1.0

  -- ---- with zeros behind its end

  module _ (sound : Type 0) (list current : ℕ → Sector) (is : (x : ℕ) → x < list_length m.newest → list x ≡ current x) (stands : ListStands None m c list) (rows : sound → RowsStand None m c list) where
    abbrev ending : ℕ → Sector
    ending = λ x. cond (nat_lt x (list_length m.newest)) (list x) zero_sector

    ending-is : (x : ℕ) → x < list_length m.newest → ending x ≡ list x
    ending-is x lt = ap (λ (b : Bool). cond b (list x) zero_sector) (is-below (list_length m.newest) lt)
      where
        is-below : (n : ℕ) → x < n → nat_lt x n ≡ true
        is-below n lt = grind (arith, nat_tests, lt)

    ending-past : (x : ℕ) → list_length m.newest ≤ x → ending x ≡ zero_sector
    ending-past x past = ap (λ (b : Bool). cond b (list x) zero_sector) (not-below (list_length m.newest) past)
      where
        not-below : (n : ℕ) → n ≤ x → nat_lt x n ≡ false
        not-below n past = grind (arith, nat_tests, past)

    inside : (x : ℕ) → (place (shape_of m.newest) x).row < m.newest.size → x < list_length m.newest
    inside x lt =
        let below = place-sector_below (shape_of m.newest) (valid given m placed) x m.newest.size (multiple given m placed) lt in
        let long = length-still m still in
        omega (arith, below, long)

    pub listed-still : HasListStill sound m c current
    listed-still = record {
      list = ending;
      is = λ x lt. ending-is x lt ∙ is x lt;
      zeros = ending-past;
      stands = λ x slot shown held. stands x slot shown held ∙ sym (ending-is x shown.within);
      rows = λ so. (still-stands (alone_of scope) given m c ending alone-placed still).1.1
          (λ row lt. row-list m c (shape_of m.newest) list ending row (valid given m placed) (λ y at. ending-is y (inside y (omega (arith, at, lt)))) (rows-still list (rows so) row lt));
    }
