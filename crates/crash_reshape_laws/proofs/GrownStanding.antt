-- What stands once a forward reshape has ended.
use Rattle.std.proofs.Common.{◌≡◌, inl, inr, ℕ, zero, suc, ◌+◌, ◌-◌, ◌<◌, ◌≤◌, if◌then◌else◌, Bool, false, List, [], ◌∷◌, ◌++◌, fold, Some, None, refl, sym, ◌∙◌, ap, ap₂, subst, arith}
use Rattle.std.proofs.lemmas.Bool.{cases_lt}
use Rattle.std.proofs.lemmas.List.Sums.{fold-append}
use Rattle.crash_safety_laws.specs.raid_types_the_Shape.{Shape}
use Rattle.crash_safety_laws.specs.raid_types_the_Place.{Place}
use Rattle.crash_safety_laws.specs.raid_types_Search.{count_below}
use Rattle.crash_safety_laws.specs.raid_types_Sectors.{Sector, zero_sector}
use Rattle.crash_safety_laws.specs.raid_types_Shapes.{tolerance, tolerance_of}
use Rattle.crash_safety_laws.specs.bank_Given.{Given}
use Rattle.crash_safety_laws.specs.bank_Tape.{Contents, IsIn}
use Rattle.crash_safety_laws.specs.raid_layout_Layout.{place, stripe_of}
use Rattle.crash_safety_laws.specs.sb_specs_the_Members.{Members}
use Rattle.crash_safety_laws.specs.sb_specs_Reading.{Scope, is_backward, shape_of, final_shape, list_length, data_offset_of}
use Rattle.crash_safety_laws.specs.stripe_row_Rows.{reading_of, is_missing, held_slot, IsTolerated}
use Rattle.crash_safety_laws.specs.stripe_list_Full.{DataStands, RowStands}
use Rattle.crash_safety_laws.specs.history_the_Event_TheVariants.{Resized}
use Rattle.crash_safety_laws.specs.history_the_Entry.{Entry}
use Rattle.crash_safety_laws.specs.history_Flat.{values_of, values_after, length_of, length_after, first_values}
use Rattle.crash_safety_laws.specs.history_Stands.{shape_for}
use Rattle.crash_safety_laws.specs.crash_views_Regions.{place_by, ArePlaced}
use Rattle.crash_safety_laws.specs.crash_views_Views.{IsTail}
use Rattle.crash_safety_laws.specs.crash_views_Windows.{ListStands, RowsStand, AreTailsStanding}
use Rattle.crash_reshape_laws.specs.Ends.{IsKeptSlot, IsEnded}
use Rattle.crash_reshape_laws.specs.Grown.{IsZeroPast, IsPastRow, GrownStands, GrownDoesWithout, LeaveList, ResizedIsTold}
use Rattle.crash_safety_laws.proofs.crash_views_Alike.{role-in-shape}
use Rattle.crash_safety_laws.proofs.crash_views_Stands.{for-still, data-at}
use Rattle.crash_safety_laws.proofs.LessViews.{ends-place}
use Rattle.crash_safety_laws.proofs.crash_views_Tails.{some-listed, first, listed, same-row}
use Rattle.crash_reshape_laws.proofs.EndLaws.{row-alike, same-placed, fewer-pass, resized-tells}
use Rattle.crash_reshape_laws.proofs.GrownLaws.{row-list, past-or-tail, past-apart}

module _ (scope : Scope) (given : Given) (m plan : Members) (c : Contents) (list : ℕ → Sector) (ended : IsEnded m plan) (former : ArePlaced scope given m) (placed : ArePlaced scope given plan)
    (forth : is_backward m.newest ≡ false) (zeros : IsZeroPast (list_length m.newest) list) where
  after-is : (x : ℕ) → shape_for plan.newest x ≡ final_shape m.newest
  after-is x = for-still plan.newest ended.still x ∙ ended.shape

  before-is : (x : ℕ) → x < list_length m.newest → shape_for m.newest x ≡ final_shape m.newest
  before-is x lt = (ends-place m.newest x ended.active lt).1 ended.last

  tail-of : (x : ℕ) → list_length m.newest ≤ x → stripe_of (final_shape m.newest) x ≡ stripe_of (final_shape m.newest) (list_length m.newest - 1) → IsTail m.newest x
  tail-of x past stripe = record { active = ended.active; forth = forth; through = ended.last ∙ ap (λ (b : Bool). if b then 0 else list_length m.newest) forth; past = past; stripe = stripe }

  some : 0 < list_length m.newest
  some = some-listed m.newest former.fit

  -- ---- the list

  module _ (x slot : ℕ) (held : held_slot (reading_of plan) (place_by plan.newest x).role (place_by plan.newest x).row ≡ Some slot) where
    at-final : (place_by plan.newest x) ≡ place (final_shape m.newest) x
    at-final = ap (λ (s : Shape). place s x) (after-is x)

    kept : IsKeptSlot m plan (final_shape m.newest).disks (place_by plan.newest x).role (place_by plan.newest x).row slot
    kept = ended.kept (place_by plan.newest x).role (place_by plan.newest x).row slot (subst (λ (s : Shape). (place_by plan.newest x).role < s.disks) (after-is x) (role-in-shape plan.newest placed.fit x)) held

    held-final : held_slot (reading_of m) (place (final_shape m.newest) x).role (place (final_shape m.newest) x).row ≡ Some slot
    held-final = subst (λ (p : Place). held_slot (reading_of m) p.role p.row ≡ Some slot) at-final kept.held

    sector-final : data_offset_of (reading_of plan) slot + (place_by plan.newest x).row ≡ data_offset_of (reading_of m) slot + (place (final_shape m.newest) x).row
    sector-final = ap₂ (λ (a b : ℕ). a + b) kept.offset (ap (λ (p : Place). p.row) at-final)

  list-stands : ListStands None m c list → AreTailsStanding m c list → ((row : ℕ) → IsPastRow m row → DataStands (reading_of m) c (final_shape m.newest) (λ x. zero_sector) row) → ListStands None plan c list
  list-stands stands tail past-stands x slot shown held = ap (c slot) (sector-final x slot held) ∙ elim (cases_lt x (list_length m.newest)) [
    | inl below ↦ (
        let same = before-is x below in
        subst (λ (s : Shape). (h : held_slot (reading_of m) (place s x).role (place s x).row ≡ Some slot) → c slot (data_offset_of (reading_of m) slot + (place s x).row) ≡ list x) same
        (stands x slot (record { within = below; outside = refl })) (held-final x slot held))
    | inr past ↦ elim (past-or-tail (final_shape m.newest) former.fit.valid.final (list_length m.newest) some x past) [
      | inl last ↦ tail x slot (tail-of x past last) (held-final x slot held)
      | inr far ↦ data-at m c (λ x. zero_sector) (final_shape m.newest) former.fit.valid.final (place (final_shape m.newest) x).row (past-stands (place (final_shape m.newest) x).row far) x refl slot (held-final x slot held)
          ∙ sym (zeros x past)
    ]
  ]

  -- ---- its rows

  rows-stand : RowsStand None m c list → ((row : ℕ) → IsPastRow m row → RowStands (reading_of m) c (final_shape m.newest) (λ x. zero_sector) row) → RowsStand None plan c list
  rows-stand stands past-stands x shown =
      subst (λ (s : Shape). RowStands (reading_of plan) c s list (place s x).row) (sym (after-is x))
      (row-alike m plan c (final_shape m.newest) (final_shape m.newest) list (place (final_shape m.newest) x).row (same-placed (final_shape m.newest) (final_shape m.newest) refl) ended.kept (each x))
    where
      listed-row : (y : ℕ) → y < list_length m.newest → RowStands (reading_of m) c (final_shape m.newest) list (place (final_shape m.newest) y).row
      listed-row y below = subst (λ (s : Shape). RowStands (reading_of m) c s list (place s y).row) (before-is y below) (stands y (record { within = below; outside = refl }))

      each : (y : ℕ) → RowStands (reading_of m) c (final_shape m.newest) list (place (final_shape m.newest) y).row
      each y = elim (cases_lt y (list_length m.newest)) [
        | inl below ↦ listed-row y below
        | inr past ↦ elim (past-or-tail (final_shape m.newest) former.fit.valid.final (list_length m.newest) some y past) [
          | inl last ↦ (
              let tail = tail-of y past last in
              subst (RowStands (reading_of m) c (final_shape m.newest) list) (same-row m.newest former.fit y tail) (listed-row (first m.newest former.fit y tail) (listed m.newest former.fit y tail)))
          | inr far ↦ row-list m c (final_shape m.newest) (λ x. zero_sector) list (place (final_shape m.newest) y).row former.fit.valid.final
              (λ z at. zeros z (past-apart (final_shape m.newest) former.fit.valid.final (list_length m.newest) some (place (final_shape m.newest) y).row z far at))
              (past-stands (place (final_shape m.newest) y).row far)
        ]
      ]

pub grown-stands : GrownStands
grown-stands scope given m plan c list ended former placed forth zeros = (
  list-stands scope given m plan c list ended former placed forth zeros,
  rows-stand scope given m plan c list ended former placed forth zeros,
)

-- ---- what it misses

-- fewer are counted below a lower number
count-more : (a b : ℕ) (f : ℕ → Bool) → a ≤ b → count_below a f ≤ count_below b f
unfolding count_below
count-more a zero f le = subst (λ (k : ℕ). count_below k f ≤ count_below 0 f) (none a le) (omega arith)
  where
    none : (a : ℕ) → a ≤ 0 → 0 ≡ a
    none a le = omega (arith, le)
count-more a (suc b) f le = elim (cases_lt b a) [
  | inl top ↦ (let same : a ≡ suc b = omega (arith, top, le) in subst (λ (k : ℕ). count_below k f ≤ count_below (suc b) f) (sym same) (omega arith))
  | inr low ↦ (let rest = count-more a b f low in omega (arith, rest))
]

pub grown-without : GrownDoesWithout
grown-without scope given m plan placed active forth still shape missing few = record {
  final = final;
  old = (
      let le = fewer-pass (shape_of m.newest).disks (is_missing (reading_of m)) (is_missing (reading_of plan)) (λ j lt gone. missing j (let d = disks in omega (arith, lt, d)) gone) in
      let more = count-more (shape_of m.newest).disks (final_shape m.newest).disks (is_missing (reading_of plan)) disks in
      let t : tolerance (final_shape m.newest) ≡ tolerance (shape_of m.newest) = ap tolerance_of placed.fit.level in
      let here : IsTolerated (reading_of plan) (final_shape m.newest) = subst (IsTolerated (reading_of plan)) shape few.old in
      omega (arith, le, more, t, here));
}
  where
    disks : (shape_of m.newest).disks ≤ (final_shape m.newest).disks
    disks = placed.fit.delta active forth

    final : IsTolerated (reading_of m) (final_shape m.newest)
    final =
        let here : IsTolerated (reading_of plan) (final_shape m.newest) = subst (IsTolerated (reading_of plan)) shape few.old in
        let le = fewer-pass (final_shape m.newest).disks (is_missing (reading_of m)) (is_missing (reading_of plan)) missing in
        omega (arith, here, le)

-- ---- what is told

values-left : (x : ℕ) (entries : List Entry) (values : List Sector) → LeaveList entries → fold (λ values e. values_after x values e.event) values entries ≡ values
values-left x [] values leave = refl
values-left x (e ∷ entries) values leave = ap (λ (v : List Sector). fold (λ values e. values_after x values e.event) v entries) (leave.0 x values) ∙ values-left x entries values leave.2

length-left : (entries : List Entry) (n : ℕ) → LeaveList entries → fold (λ n e. length_after n e.event) n entries ≡ n
length-left [] n leave = refl
length-left (e ∷ entries) n leave = ap (λ (k : ℕ). fold (λ n e. length_after n e.event) k entries) (leave.1 n) ∙ length-left entries n leave.2

pub resized-told : ResizedIsTold
unfolding values_of
resized-told list before behind e n is leave = (
  λ x v lt may. subst (λ (l : List Sector). IsIn l v) (sym (with-it x)) ((resized-tells n x (base x) lt).0 v (subst (λ (l : List Sector). IsIn l v) (without-it x) may)),
  λ x lt none. subst (λ (l : List Sector). IsIn l zero_sector) (sym (with-it x ∙ (resized-tells n x (base x) lt).1 (sym (without-it x) ∙ none))) (inl refl),
  λ first. fold-append (λ n e. length_after n e.event) first before (e ∷ behind)
      ∙ length-left behind (length_after (length_of first before) e.event) leave ∙ ap (length_after (length_of first before)) is,
)
  where
    base : ℕ → List Sector
    base x = fold (λ values e. values_after x values e.event) (first_values list x) before

    without-it : (x : ℕ) → fold (λ values e. values_after x values e.event) (first_values list x) (before ++ behind) ≡ base x
    without-it x = fold-append (λ values e. values_after x values e.event) (first_values list x) before behind ∙ values-left x behind (base x) leave

    with-it : (x : ℕ) → fold (λ values e. values_after x values e.event) (first_values list x) (before ++ e ∷ behind) ≡ values_after x (base x) (Resized n)
    with-it x = fold-append (λ values e. values_after x values e.event) (first_values list x) before (e ∷ behind)
        ∙ values-left x behind (values_after x (base x) e.event) leave ∙ ap (values_after x (base x)) is
