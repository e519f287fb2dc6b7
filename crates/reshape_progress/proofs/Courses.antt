-- The course of a reshape, through its steps.
use Rattle.std.proofs.Common.{◌≡◌, ◌⊎◌, inl, inr, ℕ, ◌+◌, ◌-◌, ◌*◌, ◌/◌, ◌<◌, ◌≤◌, ◌&&◌, ◌^◌, nat_le, nat_lt, Bool, true, false, cond, Option, Some, None, List, refl, sym, ◌∙◌, ap, subst, arith}
use Rattle.std.specs.Prelude.{min}
use Rattle.std.proofs.lemmas.Bool.{and_parts, eqb-true, cases_lt}
use Rattle.std.proofs.lemmas.Bool.Decides.{nat_tests}
use Rattle.std.proofs.Math.Nat.{mul-le-mul_right}
use Rattle.std.specs.Option.{option_map_or}
use Rattle.reshape_request.specs.raid_types_the_Shape.{Shape}
use Rattle.reshape_request.specs.raid_types_the_Span.{Span}
use Rattle.reshape_request.specs.raid_types_the_Role.{Role}
use Rattle.reshape_request.specs.raid_types_the_Role_TheVariants.{Whole, Recovering, Missing}
use Rattle.reshape_request.specs.raid_types_Sectors.{Sector, zero_sector}
use Rattle.reshape_request.specs.raid_types_Shapes.{stripe_sectors, data_disks, is_multiple, has_slot}
use Rattle.reshape_request.specs.bank_Given.{Given}
use Rattle.reshape_request.specs.bank_Tape.{Contents, IsIn}
use Rattle.reshape_request.specs.sb_codec_the_Sb.{Sb}
use Rattle.reshape_request.specs.raid_layout_Layout.{place}
use Rattle.reshape_request.specs.reshape_geometry_Geometry.{ceiling, stripes, rows, zeroed_stripes, is_critical}
use Rattle.reshape_request.specs.reshape_geometry_Geometry as geometry
use Rattle.reshape_window_steps.specs.sb_specs_the_Members.{Members}
use Rattle.reshape_window_steps.specs.sb_specs_Reading.{Scope, is_reshaping, is_backward, shape_of, final_shape, list_length, next_window, role_state, rows_held, holder}
use Rattle.reshape_window_steps.specs.sb_specs_Update.{own_in}
use Rattle.reshape_window_steps.specs.stripe_row_Rows.{reading_of, held_slot}
use Rattle.reshape_window_steps.specs.stripe_list_Full.{RowStands}
use Rattle.reshape_request.specs.bank_backup_Section.{names_span, has_section}
use Rattle.reshape_window_steps.specs.history_ActiveSection.{section_for}
use Rattle.reshape_window_steps.specs.history_Stands.{shape_for}
use Rattle.reshape_window_steps.specs.stripe_region_laws_Regions.{IsDirected}
use Rattle.reshape_window_steps.specs.crash_views_Regions.{open_by, place_by}
use Rattle.reshape_window_steps.specs.crash_views_Windows.{IsShown, ListStands, RowsStand, moved_past}
use Rattle.reshape_window_steps.proofs.crash_views_Headers.{backup-is, names-one, span-same}
use Rattle.reshape_window_steps.proofs.crash_views_Tails.{no-tail, some-listed, row-within, moved-tails}
use Rattle.reshape_window_steps.proofs.crash_views_Stands.{moved-stands, moved-rows-stand}
use Rattle.reshape_window_steps.proofs.crash_views_UnderWay.{row-apart, row-apart-uncritical, under-way, is-reshaping}
use Rattle.reshape_window_steps.proofs.crash_safety_laws_LessViews.{ends-place}
use Rattle.reshape_window_steps.proofs.crash_reshape_laws_EndLaws.{places-alike-stand, begun-alike}
use Rattle.reshape_window_steps.proofs.crash_reshape_laws_GrownLaws.{zero-is-sector}
use Rattle.reshape_request.proofs.reshape_geometry_Rows.{rows_hold}
use Rattle.reshape_window_steps.specs.array_members_Placed.{IsPlaced}
use Rattle.reshape_window_steps.specs.array_members_Lacking.{IsOfStripe}
use Rattle.reshape_window_steps.proofs.array_members_LackingWrites.{others-same}
use Rattle.reshape_window_steps.specs.reshape_window_rows_Copies.{tail_of}
use Rattle.reshape_window_steps.proofs.CopyLaws.{open-alike}
use Rattle.reshape_window_steps.proofs.PastLaws.{header-alike, past-placed}
use Rattle.reshape_request.specs.declared.window.Window.{Window}
use Rattle.reshape_request.specs.declared.window.Window.TheVariants.{Closed, Entered, Unsure}
use Rattle.reshape_progress.specs.Course.{IsOfStripes, hidden_in, IsStoredAs, HasSection, IsSectionKept, AnyShape, StandsInCourse, past_stripe}
use Rattle.reshape_progress.specs.Laws.{BeginsStand, EntersStand, CoursesMove, CopiesGoOn, CoursesAreCopied, WindowsAreCopied, RecordsClose, ZeroesGoOn, ZeroesAreAll, StoredMove, OpenHeadersFit, entered, closed, next_stripe}
use Rattle.reshape_progress.proofs.Frames.{stands-on, past-alike}

-- ---- members that lost slots

pub courses-move : (sound : Type 0) (among : Shape → Type 0) → CoursesMove sound among
courses-move sound among given old new course buffer c e list placed moved others was =
    stands-on sound among given old new moved course buffer c e list (λ row. ⊥) (others-same given (λ row. ⊥) old new c e moved placed others) was (record {
      shown = λ x own shown none. none;
      tail = λ own x tail none. none;
      copied = λ own row at none. none;
      zeroed = λ own row at none. none;
    })

-- ---- it begins

-- no row is of no stripes
pub none-of-none : (shape : Shape) (first row : ℕ) → IsOfStripes shape first 0 row → ⊥
none-of-none shape first row at = absurd (let low = at.0 in let high = at.1 in let same : (first + 0) * shape.chunk ≡ first * shape.chunk = ap (λ (n : ℕ). n * shape.chunk) (zero-right first) in omega (arith, low, high, same))
  where
    zero-right : (n : ℕ) → n + 0 ≡ n
    zero-right n = omega arith

pub begins-stand : (sound : Type 0) (among : Shape → Type 0) → BeginsStand sound among
begins-stand sound among scope given old plan new buffer c e list begun placed moved kept zeros stands rows =
    stands-on sound among given plan new moved (closed 0) buffer c e list (λ row. ⊥) kept (record {
      stands = λ x slot own shown. (places-alike-stand scope given old plan c list placed (begun-alike old plan begun)).0 (stands (first-shape x own shown.within)) x slot shown;
      window = tt;
      zeros = zeros;
      copied = λ own row none. absurd none;
      tail = λ own x slot tail held. absurd (
          let start : plan.newest.reshape_position ≡ 0 = begun.start ∙ ap (λ (b : Bool). cond b (list_length plan.newest) 0) tail.forth in
          let some = some-listed plan.newest placed.fit in
          let through = tail.through in
          omega (arith, start, some, through));
      zeroed = λ own row at. absurd (none-of-none (final_shape plan.newest) (past_stripe plan.newest) row at);
      rows = λ so x own shown. (places-alike-stand scope given old plan c list placed (begun-alike old plan begun)).1 (rows (first-shape x own shown.within) so) x shown;
    }) (record {
      shown = λ x own shown none. none;
      tail = λ own x tail none. none;
      copied = λ own row at none. none;
      zeroed = λ own row at none. none;
    })
  where
    -- at the first position the shape in force places each sector
    first-shape : (x : ℕ) → among (shape_for plan.newest x) → x < list_length plan.newest → among (shape_of new.newest)
    first-shape x own lt = subst among ((ends-place plan.newest x begun.active lt).0 begun.start ∙ sym moved.shape) own

-- ---- a window is entered

pub enters-stand : (sound : Type 0) (among : Shape → Type 0) → EntersStand sound among
enters-stand sound among given old new span sectioned former buffer c e list moved kept room has was = (
  record {
    stands = λ x slot own shown held. on.stands x slot own (shown-closed sectioned x shown) held;
    window = (room, has);
    zeros = on.zeros;
    copied = λ own row at. absurd (none-of-none (final_shape new.newest) (span.lo / stripe_sectors (final_shape new.newest)) row at);
    tail = on.tail;
    zeroed = on.zeroed;
    rows = λ so x own shown. on.rows so x own (shown-closed sectioned x shown);
  },
  record { stands = on.stands; window = (room, has); zeros = on.zeros; copied = λ own row none. absurd none; tail = on.tail; zeroed = on.zeroed; rows = on.rows },
)
  where
    on : StandsInCourse sound among new (closed 0) buffer e list
    on = stands-on sound among given old new moved (closed 0) buffer c e list (λ row. ⊥) kept (record { stands = was.stands; window = tt; zeros = was.zeros; copied = was.copied; tail = was.tail; zeroed = was.zeroed; rows = was.rows }) (record {
      shown = λ x own shown none. none;
      tail = λ own x tail none. none;
      copied = λ own row at none. none;
      zeroed = λ own row at none. none;
    })

    -- what an open window shows is shown without one
    shown-closed : (which : Bool) (x : ℕ) → IsShown (hidden_in (Entered span 0 which)) new.newest x → IsShown None new.newest x
    shown-closed which x shown = record { within = shown.within; outside = refl }

-- ---- stripes

-- a row of some stripes isn't one of the next
of-before : (shape : Shape) (first count row : ℕ) → IsOfStripes shape first count row → IsOfStripe shape (first + count) row → ⊥
of-before shape first count row at next = absurd (let high = at.1 in let low = next.0 in omega (arith, high, low))

-- one of one stripe more is of these or of the next
of-more : (shape : Shape) (first count row : ℕ) → IsOfStripes shape first (count + 1) row → IsOfStripes shape first count row ⊎ IsOfStripe shape (first + count) row
of-more shape first count row at = elim (cases_lt row ((first + count) * shape.chunk)) [
  | inl less ↦ inl (at.0, less)
  | inr more ↦ inr (more, subst (λ (n : ℕ). row < n * shape.chunk) (one-more first count) at.1)
]
  where
    one-more : (a b : ℕ) → a + (b + 1) ≡ a + b + 1
    one-more a b = omega arith

-- a row of the next stripe of a window is one that the window writes
of-window : (shape : Shape) (span : Span) (copied row : ℕ) → copied < stripes shape span.lo span.hi → IsOfStripe shape (span.lo / stripe_sectors shape + copied) row → geometry.IsIn row (rows shape span.lo span.hi)
of-window shape span copied row left at =
    let first : ℕ = span.lo / stripe_sectors shape in
    let last : ℕ = ceiling span.hi (stripe_sectors shape) in
    let low : first * shape.chunk ≤ (first + copied) * shape.chunk = mul-le-mul_right shape.chunk (omega arith) in
    let high : (first + copied + 1) * shape.chunk ≤ last * shape.chunk = mul-le-mul_right shape.chunk (omega (arith, left)) in
    (let a = at.0 in omega (arith, a, low), let b = at.1 in omega (arith, b, high))

-- a row that a slot holds while a reshape is active is one of its rows
less-than : (row b : ℕ) (o : Option ℕ) (slot : ℕ) → cond (nat_lt row b) o None ≡ Some slot → row < b
less-than row b o slot e = from (nat_lt row b) refl e
  where
    from : (t : Bool) → nat_lt row b ≡ t → cond t o None ≡ Some slot → row < b
    from true is e = grind (arith, nat_tests, is)
    from false is e = absurd (cc)

held-below : (m : Members) → is_reshaping m.newest ≡ true → (row role slot : ℕ) → held_slot (reading_of m) role row ≡ Some slot → row < m.newest.size
held-below m active row role slot held = of (role_state (reading_of m) role) held
  where
    of : (state : Role) → cond (nat_lt row (rows_held (reading_of m) state)) (holder state) None ≡ Some slot → row < m.newest.size
    of (Whole s) e = less-than row m.newest.size (Some s) slot e
    of (Recovering s) e = absurd (
        let lt = less-than row (rows_held (reading_of m) (Recovering s)) (Some s) slot e in
        let none : rows_held (reading_of m) (Recovering s) ≡ 0 = ap (λ (b : Bool). cond b 0 (option_map_or (λ sb. sb.recovery_offset) (own_in m.own s) 0)) active in
        omega (arith, lt, none))
    of Missing e = absurd (let lt = less-than row 0 None slot e in omega (arith, lt))

-- ---- a stripe is copied

-- no sector that is shown stands in a row that the window writes
module _ (given : Given) (old : Members) (span : Span) (copied : ℕ) (sectioned : Bool) (placed : IsPlaced given old) (next : next_window old.newest ≡ Some span)
    (plain : sectioned ≡ false → is_critical (shape_of old.newest) (final_shape old.newest) old.newest.size (is_backward old.newest) span ≡ false) where
  apart : (x row : ℕ) (which : Bool) → sectioned ≡ which → IsShown (hidden_in (Entered span copied which)) old.newest x → geometry.IsIn row (rows (final_shape old.newest) span.lo span.hi)
      → (place_by old.newest x).row ≡ row → ⊥
  apart x row true is shown written same = row-apart old.newest placed.fit span next row written x shown.within shown.outside same
  apart x row false is shown written same = row-apart-uncritical old.newest placed.fit span next row written (plain is) x shown.within same

  pub shown-apart : (x : ℕ) → IsShown (hidden_in (Entered span copied sectioned)) old.newest x → geometry.IsIn (place_by old.newest x).row (rows (final_shape old.newest) span.lo span.hi) → ⊥
  shown-apart x shown written = apart x (place_by old.newest x).row sectioned refl shown written refl

-- however many stripes are copied, as much is hidden
pub hidden-same : (span : Span) (a b : ℕ) (sectioned : Bool) → hidden_in (Entered span a sectioned) ≡ hidden_in (Entered span b sectioned)
hidden-same span a b true = refl
hidden-same span a b false = refl

pub copies-go-on : (sound : Type 0) (among : Shape → Type 0) → CopiesGoOn sound among
copies-go-on sound among given old new span copied sectioned buffer c e list placed moved next left plain kept was = (on, more)
  where
    on : StandsInCourse sound among new (entered span copied sectioned) buffer e list
    on = stands-on sound among given old new moved (entered span copied sectioned) buffer c e list (IsOfStripe (final_shape old.newest) (next_stripe old span copied)) kept was (record {
      shown = λ x own shown at. shown-apart given old span copied sectioned placed next plain x shown (of-window (final_shape old.newest) span copied (place_by old.newest x).row left at);
      tail = λ own x tail at. no-tail old.newest span x next tail;
      copied = λ own row of at. of-before (final_shape old.newest) (span.lo / stripe_sectors (final_shape old.newest)) copied row of at;
      zeroed = λ own row of at. none-of-none (final_shape old.newest) (past_stripe old.newest) row of;
    })

    more : ((row : ℕ) → IsOfStripe (final_shape old.newest) (next_stripe old span copied) row → RowStands (reading_of new) e (final_shape old.newest) list row)
        → StandsInCourse sound among new (entered span (copied + 1) sectioned) buffer e list
    more done = record {
      stands = λ x slot own shown. on.stands x slot own (shown-same (copied + 1) copied x shown);
      window = on.window;
      zeros = on.zeros;
      copied = λ own row at. elim (of-more (final_shape new.newest) (span.lo / stripe_sectors (final_shape new.newest)) copied row at) [
        | inl before ↦ on.copied own row before
        | inr last ↦ subst (λ (s : Shape). RowStands (reading_of new) e s list row) (sym moved.reshape.final)
            (done row (subst (λ (s : Shape). IsOfStripe s (span.lo / stripe_sectors s + copied) row) moved.reshape.final last))
      ];
      tail = on.tail;
      zeroed = on.zeroed;
      rows = λ so x own shown. on.rows so x own (shown-same (copied + 1) copied x shown);
    }
      where
        shown-same : (a b x : ℕ) → IsShown (hidden_in (Entered span a sectioned)) new.newest x → IsShown (hidden_in (Entered span b sectioned)) new.newest x
        shown-same a b x = subst (λ (hidden : Option Span). IsShown hidden new.newest x) (hidden-same span a b sectioned)

pub courses-copied : (sound : Type 0) (among : Shape → Type 0) → CoursesAreCopied sound among
courses-copied sound among scope given m span copied sectioned buffer c list placed next was = record {
  window = was.window.1;
  zeros = λ x at. by (is_backward m.newest) refl x at;
}
  where
    by : (back : Bool) → is_backward m.newest ≡ back → (x : ℕ) → geometry.IsIn x (tail_of m.newest) → list x ≡ zero_sector
    by false is x at = was.zeros is x at.0
    by true is x at = absurd (
        let le : data_disks (final_shape m.newest) ≤ data_disks (shape_of m.newest) = subst (IsDirected (shape_of m.newest) (final_shape m.newest)) is (under-way m.newest placed.fit (is-reshaping m.newest span next)).directed in
        let both : data_disks (final_shape m.newest) * m.newest.size ≡ list_length m.newest = ap (λ (k : ℕ). k * m.newest.size) (least (data_disks (shape_of m.newest)) (data_disks (final_shape m.newest)) le) in
        let low = at.0 in let high = at.1 in
        omega (arith, both, low, high))
      where
        least : (a b : ℕ) → b ≤ a → b ≡ min a b
        least a b le = omega (arith, le)

-- ---- the window is recorded

-- what an entered window shows is beside it
module _ (sound : Type 0) (m : Members) (span : Span) (copied : ℕ) (sectioned : Bool) (buffer : List ℕ) (c : Contents) (list : ℕ → Sector) (was : StandsInCourse sound AnyShape m (entered span copied sectioned) buffer c list) where
  beside-shown : (which : Bool) (x : ℕ) → IsShown (Some span) m.newest x → IsShown (hidden_in (Entered span copied which)) m.newest x
  beside-shown true x shown = shown
  beside-shown false x shown = record { within = shown.within; outside = refl }

  pub list-beside : ListStands (Some span) m c list
  list-beside x slot shown = was.stands x slot tt (beside-shown sectioned x shown)

  pub rows-beside : sound → RowsStand (Some span) m c list
  rows-beside so x shown = was.rows so x tt (beside-shown sectioned x shown)

pub windows-copied : (sound : Type 0) → WindowsAreCopied sound
windows-copied sound m span sectioned buffer c list was = record {
  window = λ row at. was.copied tt row (
    at.0,
    let high = at.1 in
        let le : ceiling span.hi (stripe_sectors (final_shape m.newest)) * (final_shape m.newest).chunk ≤ (span.lo / stripe_sectors (final_shape m.newest) + stripes (final_shape m.newest) span.lo span.hi) * (final_shape m.newest).chunk =
        mul-le-mul_right (final_shape m.newest).chunk (omega arith) in omega (arith, high, le),
  );
  stands = list-beside sound m span (stripes (final_shape m.newest) span.lo span.hi) sectioned buffer c list was;
  rows_are = rows-beside sound m span (stripes (final_shape m.newest) span.lo span.hi) sectioned buffer c list was;
}

pub records-close : (sound : Type 0) → RecordsClose sound
records-close sound scope given old new span sectioned buffer c e list placed was_placed next moved others was =
    let done = windows-copied sound old span sectioned buffer c list was in
    courses-move sound AnyShape given (moved_past span old) new (closed 0) buffer c e list (past-placed given old span was_placed next) moved others (record {
      stands = λ x slot any. moved-stands scope given old span c list placed next (λ row at. (done.window row at).sectors) done.stands x slot;
      window = tt;
      zeros = was.zeros;
      copied = λ any row none. absurd none;
      tail = λ any. moved-tails scope given old span c list placed next (λ row at. (done.window row at).sectors);
      zeroed = λ any row at. absurd (none-of-none (final_shape old.newest) (past_stripe old.newest) row at);
      rows = λ so x any. moved-rows-stand scope given old span c list placed next done.window (done.rows_are so) x;
    })

-- ---- a stripe behind the list is zeroed

pub zeroes-go-on : (sound : Type 0) (among : Shape → Type 0) → ZeroesGoOn sound among
zeroes-go-on sound among given old new zeroed buffer c e list placed moved through kept was = (on, more)
  where
    past-low : (row : ℕ) → IsOfStripe (final_shape old.newest) (past_stripe old.newest + zeroed) row → past_stripe old.newest * (final_shape old.newest).chunk ≤ row
    past-low row at =
        let low : past_stripe old.newest * (final_shape old.newest).chunk ≤ (past_stripe old.newest + zeroed) * (final_shape old.newest).chunk = mul-le-mul_right (final_shape old.newest).chunk (omega arith) in
        (let a = at.0 in omega (arith, a, low))

    on : StandsInCourse sound among new (closed zeroed) buffer e list
    on = stands-on sound among given old new moved (closed zeroed) buffer c e list (IsOfStripe (final_shape old.newest) (past_stripe old.newest + zeroed)) kept was (record {
      shown = λ x own shown at. absurd (
          let shape = (ends-place old.newest x through.active shown.within).1 through.last in
          let below = (rows_hold (final_shape old.newest) (record { lo = 0; hi = list_length old.newest }) x placed.fit.valid.final (omega arith, shown.within)).1 in
          let row : (place_by old.newest x).row ≡ (place (final_shape old.newest) x).row = ap (λ (s : Shape). (place s x).row) shape in
          let far = past-low (place_by old.newest x).row at in
          omega (arith, row, below, far));
      tail = λ own x tail at. absurd (let below = row-within old.newest placed.fit x tail in let far = past-low (place (final_shape old.newest) x).row at in omega (arith, below, far));
      copied = λ own row of at. of;
      zeroed = λ own row of at. of-before (final_shape old.newest) (past_stripe old.newest) zeroed row of at;
    })

    more : ((row : ℕ) → IsOfStripe (final_shape old.newest) (past_stripe old.newest + zeroed) row → RowStands (reading_of new) e (final_shape old.newest) (λ x. zero_sector) row)
        → StandsInCourse sound among new (closed (zeroed + 1)) buffer e list
    more done = record {
      stands = on.stands;
      window = on.window;
      zeros = on.zeros;
      copied = on.copied;
      tail = on.tail;
      zeroed = λ own row at. elim (of-more (final_shape new.newest) (past_stripe new.newest) zeroed row at) [
        | inl before ↦ on.zeroed own row before
        | inr last ↦ subst (λ (s : Shape). RowStands (reading_of new) e s (λ x. zero_sector) row) (sym moved.reshape.final)
            (done row (subst (λ (n : ℕ). IsOfStripe (final_shape old.newest) (n + zeroed) row) (past-alike old.newest new.newest moved.reshape moved.shape moved.size)
            (subst (λ (s : Shape). IsOfStripe s (past_stripe new.newest + zeroed) row) moved.reshape.final last)))
      ];
      rows = on.rows;
    }

pub zeroes-are-all : (sound : Type 0) → ZeroesAreAll sound
zeroes-are-all sound given m buffer c list placed active forth was = record {
  zeros = was.zeros forth;
  tail = was.tail tt;
  past = λ row past. elim (cases_lt row m.newest.size) [
    | inl within ↦ was.zeroed tt row (past, high row within)
    | inr beyond ↦ record {
      whole = λ x at. zero-is-sector;
      sectors = λ role slot lt part held. absurd (let lt = held-below m active row role slot held in omega (arith, lt, beyond));
      parity = λ role slot lt part held. absurd (let lt = held-below m active row role slot held in omega (arith, lt, beyond));
    }
  ];
}
  where
    shape : Shape
    shape = final_shape m.newest

    all : ℕ
    all = zeroed_stripes (shape_of m.newest) (final_shape m.newest) m.newest.size (is_backward m.newest)

    all-is : all ≡ m.newest.size / (final_shape m.newest).chunk - past_stripe m.newest
    all-is = ap (λ (b : Bool). cond b 0 (m.newest.size / (final_shape m.newest).chunk - past_stripe m.newest)) forth

    whole-size : m.newest.size / (final_shape m.newest).chunk * (final_shape m.newest).chunk ≡ m.newest.size
    whole-size = eqb-true (m.newest.size / (final_shape m.newest).chunk * (final_shape m.newest).chunk) m.newest.size (and_parts (nat_le 1 m.newest.size && nat_le m.newest.size (2 ^ 48)) (is_multiple m.newest.size (final_shape m.newest).chunk) placed.fit.final_size).1

    high : (row : ℕ) → row < m.newest.size → row < (past_stripe m.newest + all) * (final_shape m.newest).chunk
    high row within =
        let is = all-is in
        let le : m.newest.size / (final_shape m.newest).chunk * (final_shape m.newest).chunk ≤ (past_stripe m.newest + all) * (final_shape m.newest).chunk = mul-le-mul_right (final_shape m.newest).chunk (omega (arith, is)) in
        let size = whole-size in
        omega (arith, within, le, size)

-- ---- the headers

pub stored-moves : StoredMove
stored-moves scope given old new window buffer d e moved kept was = record {
  section = of window was.section;
  sectors = has window kept.section was.sectors;
  headers = λ backup header here may. header-alike old.newest new.newest moved.reshape moved.shape moved.size scope header (was.headers backup header here (former backup here header may));
}
  where
    former : (backup : ℕ) → scope.backup ≡ Some backup → (header : Sector) → IsIn (e backup 0) header → IsIn (d backup 0) header
    former backup here header = subst (λ (s : ℕ). IsIn (e s 0) header → IsIn (d s 0) header) (backup-is scope backup here) (kept.headers header)

    alike : (header : Sector) → open_by scope new.newest header ≡ open_by scope old.newest header
    alike header = open-alike old.newest new.newest moved.reshape moved.shape moved.size scope header

    of : (window : Window) → IsStoredAs scope old window d → IsStoredAs scope new window e
    of Closed is = λ header may. alike header ∙ is header (kept.headers header may)
    of (Entered span copied true) is = λ header may. alike header ∙ is header (kept.headers header may)
    of (Entered span copied false) is = λ header may. alike header ∙ is header (kept.headers header may)
    of (Unsure span) is = λ header may. elim (is header (kept.headers header may)) [
      | inl none ↦ inl (alike header ∙ none)
      | inr some ↦ inr (alike header ∙ some)
    ]

    has : (window : Window) → IsSectionKept scope window d e → HasSection scope window buffer d → HasSection scope window buffer e
    has Closed fewer is = tt
    has (Entered span copied true) fewer is = λ i lt v may. is i lt v (fewer (8 + i) v may)
    has (Entered span copied false) fewer is = tt
    has (Unsure span) fewer is = λ i lt v may. is i lt v (fewer (8 + i) v may)

-- an active section is named by its header
open-named : (scope : Scope) (newest : Sb) (header : Sector) (span : Span) → open_by scope newest header ≡ Some span → (next_window newest ≡ Some span) × (names_span header span ≡ true)
open-named scope newest header span active = of scope.backup (next_window newest) active
  where
    chosen : (backup : ℕ) (window : Span) (t : Bool) → (has_slot scope.given backup && has_section scope.uuid (scope.sizes.sectors backup) (λ k. header) window) ≡ t
        → ◌≡◌ {A = Option Span} (cond t (Some window) None) (Some span) → (◌≡◌ {A = Option Span} (Some window) (Some span)) × (names_span header span ≡ true)
    chosen backup window true there is = (is, subst (λ (s : Span). names_span header s ≡ true) (some-is is) (and_parts _ _ (and_parts _ _ (and_parts _ _ there).1).0).1)
      where
        some-is : ◌≡◌ {A = Option Span} (Some window) (Some span) → window ≡ span
        some-is e = cc
    chosen backup window false there is = absurd (cc)

    of : (backup : Option ℕ) (window : Option Span) → section_for scope (λ s k. header) backup window ≡ Some span → (window ≡ Some span) × (names_span header span ≡ true)
    of None window is = absurd (cc)
    of (Some b) None is = absurd (cc)
    of (Some b) (Some window) is = chosen b window (has_slot scope.given b && has_section scope.uuid (scope.sizes.sectors b) (λ k. header) window) refl is

pub open-headers : OpenHeadersFit
open-headers scope m span d all backup header here may other named =
    let active = open-named scope m.newest header span (all header (subst (λ (s : ℕ). IsIn (d s 0) header) (sym (backup-is scope backup here)) may)) in
    inl (active.0 ∙ ap (λ (s : Span). Some s) (span-same span other (names-one header span other active.1 (and_parts _ _ named).1)))
