-- Which rows a run touches, and why two runs aren't written.
use Rattle.std.proofs.Common.{◌≡◌, inl, inr, ℕ, zero, suc, ◌+◌, ◌-◌, ◌*◌, ◌^◌, ◌<◌, ◌≤◌, Bool, true, false, cond, Option, Some, None, is_some, Result, Ok, Err, refl, sym, ◌∙◌, ap, subst, arith}
use Rattle.std.specs.Prelude.{MatchOption, ⊤}
use Rattle.std.specs.Result.{is_ok, is_err}
use Rattle.std.proofs.lemmas.Bool.{cases_lt}
use Rattle.stripe_region_read.specs.raid_types_the_Shape.{Shape}
use Rattle.stripe_region_read.specs.raid_types_the_Span.{Span}
use Rattle.stripe_region_read.specs.raid_types_the_Refusal.{Refusal}
use Rattle.stripe_region_read.specs.raid_types_Search.{count_below}
use Rattle.stripe_region_read.specs.raid_types_Shapes.{data_disks, tolerance, tolerance_of}
use Rattle.stripe_region_read.specs.sb_codec_the_Sb.{Sb}
use Rattle.stripe_region_read.specs.raid_layout_Layout.{place}
use Rattle.stripe_region_read.proofs.raid_layout_Places.{data_some}
use Rattle.stripe_region_read.specs.sb_specs_the_Members.{Members}
use Rattle.stripe_region_read.specs.sb_specs_Reading.{shape_of, list_length}
use Rattle.stripe_region_read.specs.stripe_row_Rows.{reading_of, is_missing}
use Rattle.stripe_region_read.specs.stripe_list_Buffers.{IsTouched}
use Rattle.stripe_region_read.specs.history_Stands.{covers, shape_for}
use Rattle.stripe_region_read.specs.crash_views_Regions.{AreShapesFit, place_by}
use Rattle.stripe_region_read.specs.array_members_Placed.{IsInForce}
use Rattle.stripe_region_read.specs.array_members_Lacking.{DoesWithout, LacksTooMany, IsNotResynced}
use Rattle.stripe_region_read.proofs.array_members_Fit.{force-valid}
use Rattle.stripe_region_read.specs.sb_safe_updates_First.{write_refusal}
use Rattle.stripe_region_read.proofs.sb_safe_updates_RefusingLaws.{write-cause}
use Rattle.stripe_region_read.specs.Stretches.{relied_rows}
use Rattle.stripe_region_read.proofs.StretchLaws.{list-short, data-few}
use Rattle.stripe_region_write.specs.declared.runs.Run.{Run}
use Rattle.stripe_region_write.specs.Runs.{IsRun, IsRelied, AreRuns, IsListTouched, IsTornTouched, IsListTorn, IsListUnwritten, AreRunsTorn, AreRunsUnwritten}
use Rattle.stripe_region_write.proofs.Together.{together-shape, rows-together, mates-together}

-- ---- rows

-- a row that a run touches
abbrev pub IsRunRow : Run → ℕ → Type 0
IsRunRow run row = IsTouched run.shape run.first (run.end - run.first) row

module _ (newest : Sb) (fit : AreShapesFit newest) (run : Run) (is : IsRun newest run) where
  -- a run lies in the data of its shape, and below what the calls on rows take
  pub run-within : run.first + (run.end - run.first) ≤ data_disks run.shape * newest.size
  run-within = let order = is.order in let within = is.within in let short = list-short newest run.shape is.force in omega (arith, order, within, short)

  pub run-short : run.first + (run.end - run.first) < 2 ^ 53
  run-short = let within = run-within in let few = data-few newest fit run.shape is.force in omega (arith, within, few)

  -- has one of its sectors, by the shape that places it
  pub run-sector : (row : ℕ) → IsRunRow run row → (x : ℕ) × (run.first ≤ x) × (x < run.end) × ((place_by newest x).row ≡ row)
  run-sector row touch =
      let low : run.first ≤ touch.0 = touch.1 in
      let high : touch.0 < run.end = (let under = touch.2 in let order = is.order in omega (arith, under, order)) in
      (touch.0, low, high, ap (λ (s : Shape). (place s touch.0).row) (is.one touch.0 low high) ∙ touch.3)

  -- and each sector of the list that stands there is placed by the run's shape
  pub run-region : (row y : ℕ) → IsRunRow run row → y < list_length newest → (place_by newest y).row ≡ row → shape_for newest y ≡ run.shape
  run-region row y touch y-in at =
      let t = run-sector row touch in
      let x-in : t.0 < list_length newest = (let high = t.2 in let within = is.within in omega (arith, high, within)) in
      together-shape newest t.0 y (rows-together newest fit t.0 y x-in y-in (t.3 ∙ sym at)) ∙ is.one t.0 t.1 t.2

  -- one that this shape would place there is beside a sector of the run
  pub run-mate : (row y : ℕ) (touch : IsRunRow run row) → y < list_length newest → (place run.shape y).row ≡ row → (place (shape_for newest (run-sector row touch).0) y).row ≡ (place_by newest (run-sector row touch).0).row
  run-mate row y touch y-in at =
      let t = run-sector row touch in
      ap (λ (s : Shape). (place s y).row) (is.one t.0 t.1 t.2) ∙ at ∙ sym t.3

  pub mate-shape : (row y : ℕ) → IsRunRow run row → y < list_length newest → (place run.shape y).row ≡ row → shape_for newest y ≡ run.shape
  mate-shape row y touch y-in at =
      let t = run-sector row touch in
      let x-in : t.0 < list_length newest = (let high = t.2 in let within = is.within in omega (arith, high, within)) in
      together-shape newest t.0 y (mates-together newest fit t.0 y x-in y-in (run-mate row y touch y-in at)) ∙ is.one t.0 t.1 t.2

module _ (newest : Sb) (fit : AreShapesFit newest) (window : Option Span) (relied first to : ℕ) (low high : Run) (are : AreRuns newest window relied first to low high) where
  -- no row is touched by both
  pub runs-apart : (row : ℕ) → IsRunRow low row → IsRunRow high row → ⊥
  runs-apart row one two =
      let a = run-sector newest fit low are.low row one in
      let b = run-sector newest fit high are.high row two in
      let a-end : a.0 < low.end = a.2 in
      let b-from : low.end ≤ b.0 = (let from = b.1 in let meet = are.meet in omega (arith, from, meet)) in
      let b-end : b.0 < to = (let end = b.2 in let ends = are.ends in omega (arith, end, ends)) in
      let cut = are.apart (omega (arith, b-from, b-end)) in
      let position = cut.1 in
      let a-in : a.0 < list_length newest = (let within = are.low.within in omega (arith, a-end, within)) in
      let b-in : b.0 < list_length newest = (let end = b.2 in let within = are.high.within in omega (arith, end, within)) in
      let near = (rows-together newest fit a.0 b.0 a-in b-in (a.3 ∙ sym b.3) cut.0).0 (omega (arith, a-end, position)) in
      absurd (omega (arith, near, b-from, position))

  -- a row that one of them touches has a sector of the write
  pub touched-low : (row : ℕ) → IsRunRow low row → IsListTouched newest first to row
  touched-low row touch =
      let t = run-sector newest fit low are.low row touch in
      let from = t.1 in
      let end = t.2 in
      let begins = are.begins in
      let order = are.high.order in
      let meet = are.meet in
      let ends = are.ends in
      (t.0, omega (arith, from, begins), omega (arith, end, order, meet, ends), t.3)

  pub touched-high : (row : ℕ) → IsRunRow high row → IsListTouched newest first to row
  touched-high row touch =
      let t = run-sector newest fit high are.high row touch in
      let from = t.1 in
      let end = t.2 in
      let begins = are.begins in
      let some = are.some in
      let meet = are.meet in
      let ends = are.ends in
      (t.0, omega (arith, from, begins, some, meet), omega (arith, end, ends), t.3)

-- ---- the rows of a write that is cut

-- of more disks no fewer are counted
count-wider : (few more : ℕ) (test : ℕ → Bool) → few ≤ more → count_below few test ≤ count_below more test
unfolding count_below
count-wider few zero test le = subst (λ (n : ℕ). count_below n test ≤ 0) (none few le) (omega arith)
  where
    none : (n : ℕ) → n ≤ 0 → 0 ≡ n
    none n le = omega (arith, le)
count-wider few (suc more) test le = elim (cases_lt few (suc more)) [
  | inl less ↦ beyond (count_below few test) (count_below more test) (cond (test more) 1 0) (count-wider few more test (omega (arith, less)))
  | inr all ↦ (let same : suc more ≡ few = omega (arith, le, all) in subst (λ (n : ℕ). count_below n test ≤ count_below (suc more) test) same (omega arith))
]
  where
    beyond : (a b c : ℕ) → a ≤ b → a ≤ b + c
    beyond a b c le = omega (arith, le)

-- a shape in force has the array's level
level-in : (newest : Sb) → AreShapesFit newest → (shape : Shape) → IsInForce newest shape → shape.level ≡ (shape_of newest).level
level-in newest fit shape (inl same) = ap (λ (s : Shape). s.level) same
level-in newest fit shape (inr same) = ap (λ (s : Shape). s.level) same ∙ fit.level

-- one that misses too many doesn't do without them
pub never-does : (shape : Shape) (m : Members) (refusal : Refusal) → LacksTooMany shape m refusal → DoesWithout shape m → ⊥
never-does shape m refusal many few = let above = many.above in absurd (omega (arith, above, few))

module _ (newest : Sb) (fit : AreShapesFit newest) (window : Option Span) (relied first to : ℕ) (low high : Run) (are : AreRuns newest window relied first to low high) (m : Members) where
  -- the first run's shape has as many disks or more, and tolerates as many
  same-tolerance : tolerance low.shape ≡ tolerance high.shape
  same-tolerance = ap tolerance_of (level-in newest fit low.shape are.low.force ∙ sym (level-in newest fit high.shape are.high.force))

  more-disks : high.shape.disks ≤ low.shape.disks
  more-disks =
      let wide = are.wider in
      let same = same-tolerance in
      let some = data_some high.shape (force-valid newest fit high.shape are.high.force) in
      omega (arith, wide, same, some)

  -- so it misses too many where the second one's does
  pub low-torn : (refusal : Refusal) → LacksTooMany high.shape m refusal → DoesWithout low.shape m → ⊥
  low-torn refusal many few =
      let above = many.above in
      let more = count-wider high.shape.disks low.shape.disks (is_missing (reading_of m)) more-disks in
      let same = same-tolerance in
      absurd (omega (arith, above, more, same, few))

  -- a row of a run whose shape misses too many has a sector of that shape
  pub torn-low : (row : ℕ) → IsRunRow low row → (DoesWithout low.shape m → ⊥) → IsTornTouched newest first to m row
  torn-low row touch torn =
      let t = run-sector newest fit low are.low row touch in
      let from = t.1 in
      let end = t.2 in
      let begins = are.begins in
      let order = are.high.order in
      let meet = are.meet in
      let ends = are.ends in
      (t.0, omega (arith, from, begins), omega (arith, end, order, meet, ends), λ does. torn (subst (λ (s : Shape). DoesWithout s m) (are.low.one t.0 t.1 t.2) does), t.3)

  pub torn-high : (row : ℕ) → IsRunRow high row → (DoesWithout high.shape m → ⊥) → IsTornTouched newest first to m row
  torn-high row touch torn =
      let t = run-sector newest fit high are.high row touch in
      let from = t.1 in
      let end = t.2 in
      let begins = are.begins in
      let some = are.some in
      let meet = are.meet in
      let ends = are.ends in
      (t.0, omega (arith, from, begins, some, meet), omega (arith, end, ends), λ does. torn (subst (λ (s : Shape). DoesWithout s m) (are.high.one t.0 t.1 t.2) does), t.3)

-- ---- refusals

-- what holds in any case, where something was told
pub told-always : (A : Type 0) (found : Option Refusal) → A → MatchOption found ⊤ (λ refusal. A)
told-always A None is = tt
told-always A (Some refusal) is = is

-- a refusal told in other words
pub told-as : (A : Type 0) (P Q : Refusal → Type 0) (found : Option Refusal) → ((refusal : Refusal) → P refusal → Q refusal) → MatchOption found A P → MatchOption found ⊤ Q
told-as A P Q None of is = tt
told-as A P Q (Some refusal) of is = of refusal is

pub told-none : {A : Type 0} (P : Refusal → Type 0) (found : Option Refusal) → is_some found ≡ false → MatchOption found A P → A
told-none P None none is = is
told-none P (Some refusal) none is = absurd (cc)

-- what was found second stands where nothing was found first
pub told-later : (A B : Type 0) (P Q : Refusal → Type 0) (found : Option Refusal) → (A → B) → ((refusal : Refusal) → P refusal → Q refusal) → MatchOption found A P → MatchOption found B Q
told-later A B P Q None a of is = a is
told-later A B P Q (Some refusal) a of is = of refusal is

pub told-first-of : (A B : Type 0) (P Q : Refusal → Type 0) (found : Option Refusal) → is_some found ≡ true → ((refusal : Refusal) → P refusal → Q refusal) → MatchOption found A P → MatchOption found B Q
told-first-of A B P Q None some of is = absurd (cc)
told-first-of A B P Q (Some refusal) some of is = of refusal is

-- where something must be told, it isn't so that none is
pub told-never : (A : Type 0) (P : Refusal → Type 0) (found : Option Refusal) → (A → ⊥) → MatchOption found A P → found ≡ None → ⊥
told-never A P None never is none = never is
told-never A P (Some refusal) never is none = absurd (cc)

-- and where none is told, it is so
pub told-no : (A : Type 0) (P : Refusal → Type 0) (found : Option Refusal) → found ≡ None → MatchOption found A P → A
told-no A P None none is = is
told-no A P (Some refusal) none is = absurd (cc)

pub ok-err : {T E : Type 0} (answer : Result T E) → is_ok answer ≡ false → is_err answer ≡ true
ok-err (Ok done) is = absurd (cc)
ok-err (Err cause) is = refl

pub err-ok : {T E : Type 0} (answer : Result T E) → is_ok answer ≡ true → is_err answer ≡ false
err-ok (Ok done) is = refl
err-ok (Err cause) is = absurd (cc)

-- why one shape isn't written, where it does without what is missing
pub unsynced-of : (shape : Shape) (synced : Bool) (m : Members) (refusal : Refusal) → DoesWithout shape m → write_refusal shape synced m ≡ Some refusal → IsNotResynced shape synced m refusal
unsynced-of shape synced m refusal few is = elim (write-cause shape synced m refusal is) [
  | inl many ↦ absurd (let above = many.above in omega (arith, above, few))
  | inr cause ↦ cause
]

module _ (low high : Run) (m : Members) (few : DoesWithout low.shape m) (far : DoesWithout high.shape m) where
  -- where that is told of the first run
  pub unsynced-first : (B : Type 0) (found : Option Refusal) → is_some found ≡ true → found ≡ write_refusal low.shape low.synced m → MatchOption found B (AreRunsUnwritten low high m)
  unsynced-first B None some is = absurd (cc)
  unsynced-first B (Some refusal) some is = inr (few, far, inl (unsynced-of low.shape low.synced m refusal few (sym is)))

  -- and of the second alone
  pub unsynced-then : (first found : Option Refusal) → is_some first ≡ false → first ≡ write_refusal low.shape low.synced m → found ≡ write_refusal high.shape high.synced m
      → MatchOption found ((write_refusal low.shape low.synced m ≡ None) × (write_refusal high.shape high.synced m ≡ None)) (AreRunsUnwritten low high m)
  unsynced-then (Some refusal) found none one two = absurd (cc)
  unsynced-then None None none one two = (sym one, sym two)
  unsynced-then None (Some refusal) none one two = inr (few, far, inr (unsynced-of high.shape high.synced m refusal far (sym two)))

module _ (m : Members) (window : Option Span) (relied first to : ℕ) (low high : Run) (are : AreRuns m.newest window relied first to low high) where
  -- a sector that the high run's shape places
  pub high-sector : (x : ℕ) × (first ≤ x) × (x < to) × (shape_for m.newest x ≡ high.shape)
  high-sector = elim (cases_lt low.end to) [
    | inl more ↦ (
      low.end,
      (let begins = are.begins in let some = are.some in omega (arith, begins, some)),
      more,
      are.high.one low.end (let meet = are.meet in omega (arith, meet)) (let ends = are.ends in omega (arith, ends, more)),
    )
    | inr last ↦ (
      first,
      omega arith,
      (let begins = are.begins in let some = are.some in let order = are.high.order in let meet = are.meet in let ends = are.ends in omega (arith, begins, some, order, meet, ends)),
      low-is first (let begins = are.begins in omega (arith, begins)) (let begins = are.begins in let some = are.some in omega (arith, begins, some))
          ∙ sym (are.empty (let order = are.high.order in let meet = are.meet in let ends = are.ends in omega (arith, last, order, meet, ends))),
    )
  ]
    where
      low-is : (x : ℕ) → low.first ≤ x → x < low.end → shape_for m.newest x ≡ low.shape
      low-is = are.low.one

  pub runs-torn : (refusal : Refusal) → AreRunsTorn low high m refusal → IsListTorn first to m refusal
  runs-torn refusal (inl many) =
      let begins = are.begins in let some = are.some in let order = are.high.order in let meet = are.meet in let ends = are.ends in
      (first, omega arith, omega (arith, begins, some, order, meet, ends), subst (λ (s : Shape). LacksTooMany s m refusal) (sym (are.low.one first (omega (arith, begins)) (omega (arith, begins, some)))) many)
  runs-torn refusal (inr many) =
      let there = high-sector in
      (there.0, there.1, there.2, subst (λ (s : Shape). LacksTooMany s m refusal) (sym there.3) many)

  -- each sector's shape does without what is missing
  pub each-does : DoesWithout low.shape m → DoesWithout high.shape m → (y : ℕ) → first ≤ y → y < to → DoesWithout (shape_for m.newest y) m
  each-does few far y from under = elim (cases_lt y low.end) [
    | inl near ↦ subst (λ (s : Shape). DoesWithout s m) (sym (are.low.one y (let begins = are.begins in omega (arith, begins, from)) near)) few
    | inr past ↦ subst (λ (s : Shape). DoesWithout s m) (sym (are.high.one y (let meet = are.meet in omega (arith, meet, past)) (let ends = are.ends in omega (arith, ends, under)))) far
  ]

  -- a run in which parity isn't relied on
  run-unsynced : (run : Run) → IsRun m.newest run → IsRelied m.newest window relied run → first ≤ run.first → run.end ≤ to → (refusal : Refusal) → IsNotResynced run.shape run.synced m refusal
      → (x : ℕ) × (first ≤ x) × (x < to) × (covers window x ≡ false) × (relied_rows m.newest relied (shape_for m.newest x) ≤ (place_by m.newest x).row) × IsNotResynced (shape_for m.newest x) false m refusal
  run-unsynced run is trusted early late refusal cause =
      let t = trusted.some cause.2 in
      let here : shape_for m.newest t.0 ≡ run.shape = is.one t.0 t.1 t.2 in
      let from = t.1 in
      let end = t.2 in
      let both = subst (λ (s : Shape). (relied_rows m.newest relied s ≤ (place s t.0).row) × IsNotResynced s false m refusal) (sym here) (t.4, (cause.0, cause.1, refl, cause.3, cause.4)) in
      (t.0, omega (arith, early, from), omega (arith, end, late), t.3, both.0, both.1)

  pub runs-unwritten : (refusal : Refusal) → AreRunsUnwritten low high m refusal → IsListUnwritten window relied first to m refusal
  runs-unwritten refusal (inl many) = inl (runs-torn refusal many)
  runs-unwritten refusal (inr (few, far, inl cause)) =
      inr (each-does few far, run-unsynced low are.low are.low_relied (let begins = are.begins in omega (arith, begins)) (let order = are.high.order in let meet = are.meet in let ends = are.ends in omega (arith, order, meet, ends)) refusal cause)
  runs-unwritten refusal (inr (few, far, inr cause)) =
      inr (each-does few far, run-unsynced high are.high are.high_relied (let begins = are.begins in let some = are.some in let meet = are.meet in omega (arith, begins, some, meet)) (let ends = are.ends in omega (arith, ends)) refusal cause)
