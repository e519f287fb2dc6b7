-- A window that is copied whole and recorded: its rows stand by the new shape, as each list that the history tells.
use Rattle.std.proofs.Common.{◌≡◌, ◌≢◌, inl, inr, ℕ, ◌*◌, ◌<◌, ◌≤◌, ◌&&◌, nat_le, nat_lt, min, Bool, true, false, if◌then◌else◌, Option, Some, None, List, [], ◌∷◌, ◌++◌, refl, sym, ◌∙◌, ap, subst, arith}
use Rattle.std.proofs.lemmas.Bool.{cases_lt}
use Rattle.std.proofs.lemmas.Bool.Decides.{nat_tests}
use Rattle.history_invariant_laws.specs.raid_types_Sectors.{Sector, IsSector}
use Rattle.history_invariant_laws.specs.raid_types_Shapes.{data_disks, is_valid_shape}
use Rattle.history_invariant_laws.specs.raid_types_the_Who.{Who}
use Rattle.history_invariant_laws.specs.raid_types_the_Shape.{Shape}
use Rattle.history_invariant_laws.specs.raid_types_the_Side_TheVariants.{Old, New}
use Rattle.history_invariant_laws.specs.raid_types_the_Span.{Span}
use Rattle.reshape_progress_resync_laws.specs.bank_the_Operation.{Operation}
use Rattle.reshape_progress_resync_laws.specs.bank_Given.{Given}
use Rattle.reshape_progress_resync_laws.specs.bank_Tape.{Contents}
use Rattle.reshape_window_io.specs.raid_layout_Layout.{place}
use Rattle.reshape_window_io.proofs.raid_layout_Places.{place-sector_below}
use Rattle.reshape_progress_resync_laws.specs.reshape_geometry_Geometry.{beyond, side, stripes}
use Rattle.reshape_progress_resync_laws.specs.reshape_geometry_Geometry as geometry
use Rattle.reshape_progress_resync_laws.proofs.reshape_geometry_Rows.{rows_hold}
use Rattle.reshape_window_io.specs.stripe_region_laws_Regions.{IsDirected}
use Rattle.reshape_progress_resync_laws.specs.sb_codec_the_Sb.{Sb}
use Rattle.reshape_progress_resync_laws.specs.sb_specs_the_Members.{Members}
use Rattle.reshape_progress_resync_laws.specs.sb_specs_Reading.{Scope, is_backward, is_reshaping, shape_of, final_shape, list_length, next_window}
use Rattle.reshape_progress_resync_laws.specs.stripe_row_Rows.{reading_of, present}
use Rattle.reshape_progress_resync_laws.specs.stripe_list_Full.{RowStands}
use Rattle.reshape_progress_resync_laws.proofs.stripe_list_FullLaws.{full-same}
use Rattle.reshape_progress_resync_laws.specs.history_the_Entry.{Entry}
use Rattle.reshape_progress_resync_laws.specs.history_the_Event_TheVariants.{Step}
use Rattle.reshape_progress_resync_laws.specs.history_the_StepKind_TheVariants.{WindowFinished as FinishesWindow}
use Rattle.reshape_progress_resync_laws.specs.history_Flat.{now}
use Rattle.reshape_progress_resync_laws.specs.history_Plain.{entries_of}
use Rattle.reshape_progress_resync_laws.specs.history_Stands.{covers, shape_for}
use Rattle.reshape_progress_resync_laws.specs.history_World.{opening_list}
use Rattle.reshape_progress_resync_laws.specs.crash_views_Regions.{AreShapesFit, DoWithout, place_by}
use Rattle.reshape_progress_resync_laws.specs.crash_views_Windows.{moved_past}
use Rattle.reshape_progress_resync_laws.proofs.crash_views_Alike.{row-below}
use Rattle.reshape_progress_resync_laws.proofs.crash_views_UnderWay.{under-way, is-reshaping, shape-on}
use Rattle.reshape_progress_resync_laws.specs.crash_reshape_laws_Grown.{IsZeroPast}
use Rattle.reshape_progress_resync_laws.specs.array_members_Moving.{Grows, IsMoved}
use Rattle.reshape_progress_resync_laws.specs.array_members_Lacking.{DoesWithout}
use Rattle.reshape_progress_resync_laws.proofs.array_members_Fit.{list-alike, for-alike, force-multiple}
use Rattle.reshape_window_io.specs.Finishing.{AreStripesCopied}
use Rattle.reshape_window_io.proofs.Windows.{all-first}
use Rattle.history_invariant_laws.specs.history_append_Losing.{losses_of}
use Rattle.history_invariant_laws.specs.history_invariant_Safe.{world_in, IsFilledRight}
use Rattle.history_invariant_laws.proofs.history_invariant_Growing.{opening-grown}
use Rattle.history_invariant_laws.proofs.history_invariant_Turned.{filled-before}
use Rattle.reshape_progress_resync_laws.specs.reshape_progress_Laws.{entered}
use Rattle.reshape_progress_resync_laws.proofs.reshape_progress_Courses.{courses-copied}
use Rattle.reshape_progress_resync_laws.specs.stripe_region_write_Runs.{WindowRowsStand}
use Rattle.history_invariant_laws.proofs.Behind.{IsAmong, early-losses}
use Rattle.history_invariant_laws.proofs.Quiet.{quiet-now}
use Rattle.array_reshaping_invariant.specs.Moving.{IsWindowStanding, IsMoving}
use Rattle.array_reshaping_invariant.proofs.FinishedCall.{IsFinishedBy}
use Rattle.array_reshaping_invariant.proofs.Steps.{quiet-step}

-- ---- the shape behind the window

both-of : (a b : Bool) → (a && b) ≡ true → (a ≡ true) × (b ≡ true)
both-of true true is = (refl, refl)
both-of true false is = absurd (cc)
both-of false b is = absurd (cc)

-- a sector of the window is in the new region behind it
side-past : (span : Span) (x : ℕ) → covers (Some span) x ≡ true → (back : Bool) → side back (beyond back span) x ≡ New
side-past span x inside false = ap (λ (b : Bool). if b then New else Old) (both-of (nat_le span.lo x) (nat_lt x span.hi) inside).1
side-past span x inside true = ap (λ (b : Bool). if b then New else Old) (both-of (nat_le span.lo x) (nat_lt x span.hi) inside).0

is-in : (span : Span) (x : ℕ) → covers (Some span) x ≡ true → geometry.IsIn x span
is-in span x inside =
    let both = both-of (nat_le span.lo x) (nat_lt x span.hi) inside in
    (low span.lo x both.0, high x span.hi both.1)
  where
    low : (a b : ℕ) → nat_le a b ≡ true → a ≤ b
    low a b is = grind (arith, nat_tests, is)

    high : (a b : ℕ) → nat_lt a b ≡ true → a < b
    high a b is = grind (arith, nat_tests, is)

past-shape : (m : Members) (span : Span) → next_window m.newest ≡ Some span → (x : ℕ) → covers (Some span) x ≡ true → shape_for (moved_past span m).newest x ≡ final_shape m.newest
past-shape m span next x inside = shape-on (moved_past span m).newest (is-reshaping m.newest span next) x New (side-past span x inside (is_backward m.newest))

-- ---- the places of its rows

-- backward the new shape has no place behind the list's end
none-behind : (newest : Sb) → AreShapesFit newest → is_reshaping newest ≡ true → is_backward newest ≡ true → (y : ℕ) → y < data_disks (final_shape newest) * newest.size → y < list_length newest
none-behind newest fit active back y below =
    let le : data_disks (final_shape newest) ≤ data_disks (shape_of newest) = subst (IsDirected (shape_of newest) (final_shape newest)) back (under-way newest fit active).directed in
    let both : data_disks (final_shape newest) * newest.size ≡ list_length newest = ap (λ (k : ℕ). k * newest.size) (least (data_disks (shape_of newest)) (data_disks (final_shape newest)) le) in
    omega (arith, both, below)
  where
    least : (a b : ℕ) → b ≤ a → b ≡ min a b
    least a b le = omega (arith, le)

-- two lists that are one up to their end, and forward zero behind it, are one at each place of the new shape
same-behind : (newest : Sb) → AreShapesFit newest → is_reshaping newest ≡ true → (one two : ℕ → Sector) → ((x : ℕ) → x < list_length newest → two x ≡ one x)
    → (is_backward newest ≡ false → IsZeroPast (list_length newest) one) → (is_backward newest ≡ false → IsZeroPast (list_length newest) two)
    → (y : ℕ) → y < data_disks (final_shape newest) * newest.size → two y ≡ one y
same-behind newest fit active one two same one-zero two-zero y below = elim (cases_lt y (list_length newest)) [
  | inl inside ↦ same y inside
  | inr past ↦ by (is_backward newest) refl past
]
  where
    by : (back : Bool) → is_backward newest ≡ back → list_length newest ≤ y → two y ≡ one y
    by false forth past = two-zero forth y past ∙ sym (one-zero forth y past)
    by true back past = absurd (let inside = none-behind newest fit active back y below in omega (arith, inside, past))

-- ---- its rows

-- a row stands by a list that is the same in it
row-by : (m : Members) (c : Contents) (shape : Shape) (one two : ℕ → Sector) (row : ℕ) → is_valid_shape shape ≡ true → ((y : ℕ) → (place shape y).row ≡ row → two y ≡ one y)
    → RowStands (reading_of m) c shape one row → RowStands (reading_of m) c shape two row
row-by m c shape one two row valid same stands = record {
  whole = λ y at. subst IsSector (sym (same y at)) (stands.whole y at);
  sectors = λ role slot lt here held. stands.sectors role slot lt here held ∙ full-same shape one two row valid same role lt;
  parity = λ role slot lt here held. stands.parity role slot lt here held ∙ full-same shape one two row valid same role lt;
}

module _ (given : Given) (old new : Members) (span : Span) (placed : AreShapesFit old.newest) (next : next_window old.newest ≡ Some span) (moved : IsMoved given (moved_past span old) new) where
  window-long : list_length new.newest ≡ list_length old.newest
  window-long = list-alike (moved_past span old).newest new.newest moved.reshape moved.shape moved.size

  -- each stripe of the window was copied by one list: so its rows stand by each that is the same
  window-rows : (c : Contents) (one two : ℕ → Sector) → AreStripesCopied (final_shape old.newest) span (stripes (final_shape old.newest) span.lo span.hi) new c one
      → ((x : ℕ) → x < list_length old.newest → two x ≡ one x)
      → (is_backward old.newest ≡ false → IsZeroPast (list_length old.newest) one) → (is_backward old.newest ≡ false → IsZeroPast (list_length old.newest) two)
      → WindowRowsStand (Some span) new c two
  window-rows c one two copied same one-zero two-zero x inside within =
      let here : shape_for new.newest x ≡ final_shape old.newest = for-alike (moved_past span old).newest new.newest moved.reshape moved.shape moved.size x ∙ past-shape old span next x inside in
      subst (λ (s : Shape). RowStands (reading_of new) c s two (place s x).row) (sym here)
      (row-by new c (final_shape old.newest) one two (place (final_shape old.newest) x).row placed.valid.final
      (λ y at. same-behind old.newest placed (is-reshaping old.newest span next) one two same one-zero two-zero y
      (place-sector_below (final_shape old.newest) placed.valid.final y old.newest.size (force-multiple old.newest placed (final_shape old.newest) (inr refl)) (below y at here)))
      (copied (place (final_shape old.newest) x).row (all-first (final_shape old.newest) span (stripes (final_shape old.newest) span.lo span.hi) (place (final_shape old.newest) x).row refl
      (rows_hold (final_shape old.newest) span x placed.valid.final (is-in span x inside)))))
    where
      below : (y : ℕ) → (place (final_shape old.newest) y).row ≡ (place (final_shape old.newest) x).row → shape_for new.newest x ≡ final_shape old.newest → (place (final_shape old.newest) y).row < old.newest.size
      below y at here =
          let low = row-below new.newest moved.placed.fit x within in
          let row : (place_by new.newest x).row ≡ (place (final_shape old.newest) x).row = ap (λ (s : Shape). (place s x).row) here in
          let size = moved.size in
          omega (arith, low, row, at, size)

module _ (tells : Type 0) (given : Given) (tape tape' : List Operation) (scope : Scope) (first : ℕ) (entries : List Entry) (old new : Members) (carried : ℕ → ℕ → Bool)
    (resync : Option ℕ) (span : Span) (copied done : ℕ) (sectioned : Bool) (buffer : List ℕ) (who : Who) (end roles spares former left : ℕ)
    (was : IsMoving tells given tape scope first entries old carried resync (entered span copied sectioned) buffer former) (enough : DoWithout old) (grows : Grows tells tape tape') (some : left ≢ 0)
    (did : IsFinishedBy tells given tape tape' old new (final_shape old.newest) span copied done buffer roles None) where
  -- so the rows of a window stand that was finished
  pub window-stands : tells → IsWindowStanding (Some span) (world_in given tape' scope first) (entries ++ entries_of who end (losses_of roles spares ++ Step FinishesWindow left ∷ [])) new (present given tape')
  window-stands t fills list is zeros =
      let g = grows.more t in
      let kept = was.recorded t in
      let added = entries_of who end (losses_of roles spares ++ Step FinishesWindow left ∷ []) in
      let before : IsFilledRight (world_in given tape scope first) entries = filled-before (world_in given tape scope first) g.0 entries added kept.begun kept.ends
      (subst (λ (l : List Operation). IsFilledRight (world_in given l scope first) (entries ++ added)) g.1 fills) in
      let opened : opening_list (world_in given tape' scope first) ≡ opening_list (world_in given tape scope first) =
      subst (λ (l : List Operation). opening_list (world_in given l scope first) ≡ opening_list (world_in given tape scope first)) (sym g.1) (opening-grown (world_in given tape scope first) g.0 kept.begun) in
      let l = was.listed t before in
      let long = window-long given old new span was.members_are.placed.fit was.course_is.window.0 did.moved in
      let stripes_are : AreStripesCopied (final_shape old.newest) span (stripes (final_shape old.newest) span.lo span.hi) new (present given tape') l.list =
      subst (λ (n : ℕ). AreStripesCopied (final_shape old.newest) span n new (present given tape') l.list) (did.all refl)
      (did.stands t l.list
      (courses-copied ⊥ (λ shape. DoesWithout shape old) scope given old span copied sectioned buffer (present given tape) l.list was.members_are.backed was.course_is.window.0 l.stands.in_course)
      (λ row at. l.stands.in_course.copied enough.final row at)) in
      window-rows given old new span was.members_are.placed.fit was.course_is.window.0 did.moved (present given tape') l.list list stripes_are
      (λ x lt.
      is x (subst (λ (n : ℕ). x < n) (sym long) lt)
      ∙ ap (λ (o : List Sector). now o (entries ++ added) x) opened
      ∙ quiet-now (opening_list (world_in given tape scope first)) entries who end (losses_of roles spares) (IsAmong roles) (Step FinishesWindow left) (early-losses roles spares) (quiet-step FinishesWindow left tt some) x
      ∙ sym (l.is x lt))
      l.stands.in_course.zeros
      (λ forth. subst (λ (n : ℕ). IsZeroPast n list) long (zeros (did.moved.reshape.backward ∙ forth)))
