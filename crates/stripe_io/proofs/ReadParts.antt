-- Sectors that were read in two parts: those of mended rows, which may be filled in, and the rest.
use Rattle.std.proofs.Common.{◌≡◌, ◌⊎◌, inl, inr, ℕ, ◌+◌, ◌-◌, ◌*◌, ◌<◌, ◌++◌, true, false, List, length, take, drop, sym, ◌∙◌, ap, ap₂, subst, arith}
use Rattle.std.proofs.Math.Seq.{drop-append-add}
use Rattle.std.proofs.lemmas.List.{drop-append-le, take-append-le, length-drop}
use Rattle.sb_safe_updates.specs.raid_types_Sectors.{Sector}
use Rattle.sb_safe_updates.specs.raid_types_Shapes.{is_valid_shape, is_multiple, data_disks}
use Rattle.sb_safe_updates.specs.raid_types_the_Shape.{Shape}
use Rattle.sb_safe_updates.specs.bank_Given.{Given}
use Rattle.sb_safe_updates.specs.bank_Tape.{Contents}
use Rattle.sb_safe_updates.specs.raid_layout_Layout.{place}
use Rattle.sb_safe_updates.proofs.raid_layout_Places.{place-role_below, place-row_below}
use Rattle.sb_safe_updates.specs.raid_parity_Rows.{sector_of}
use Rattle.sb_safe_updates.specs.sb_specs_the_Members.{Members}
use Rattle.sb_safe_updates.specs.sb_specs_Reading.{role_count}
use Rattle.sb_safe_updates.specs.stripe_row_Rows.{reading_of, is_held, members_without}
use Rattle.sb_safe_updates.proofs.stripe_row_Lacks.{lacking-missing}
use Rattle.sb_safe_updates.specs.stripe_list_Calls.{IsListed}
use Rattle.sb_safe_updates.specs.stripe_list_Full.{DataStands, RowStands}
use Rattle.sb_safe_updates.proofs.stripe_list_ListLaws.{listed_since, lacks_by}
use Rattle.sb_safe_updates.specs.array_members_Placed.{AreWhole, IsPlaced, IsInForce}
use Rattle.sb_safe_updates.proofs.array_members_Fit.{force-valid, force-multiple, force-disks}

-- ---- the bytes

rest : (i : ℕ) → 512 * i + 512 - 512 * i ≡ 512
rest i = omega arith

pub sector-front : (front back : List ℕ) (n i : ℕ) → length front ≡ 512 * n → i < n → sector_of (front ++ back) i ≡ sector_of front i
sector-front front back n i len lt =
    let there : length (drop (512 * i) front) ≡ length front - 512 * i = length-drop (512 * i) front in
    ap (take (512 * i + 512 - 512 * i)) (drop-append-le (512 * i) front back (omega (arith, len, lt)))
    ∙ take-append-le (512 * i + 512 - 512 * i) (drop (512 * i) front) back (omega (arith, there, len, lt))

pub sector-back : (front back : List ℕ) (n i : ℕ) → length front ≡ 512 * n → sector_of (front ++ back) (n + i) ≡ sector_of back i
sector-back front back n i len =
    let at : 512 * (n + i) ≡ length front + 512 * i = omega (arith, len) in
    ap₂ (λ (k m : ℕ). take k (drop m (front ++ back))) (rest (n + i) ∙ sym (rest i)) at ∙ ap (take (512 * i + 512 - 512 * i)) (drop-append-add front back (512 * i))

-- ---- what was read

module _ (given : Given) (shape : Shape) (old mid new : Members) (lost lost' : ℕ) (between : mid ≡ members_without lost old) (after : new ≡ members_without lost' mid) (was : IsPlaced given old)
    (force : IsInForce old.newest shape) (c c' : Contents) (still : c' ≡ c) (list : ℕ → Sector) (x : ℕ) (stands : DataStands (reading_of old) c shape list (place shape x).row)
    (within : x < data_disks shape * old.newest.size) (v : Sector) where
  valid : is_valid_shape shape ≡ true
  valid = force-valid old.newest was.fit shape force

  row-within : (size : ℕ) → is_multiple size shape.chunk ≡ true → x < data_disks shape * size → (place shape x).row < size
  row-within size multiple lt = place-row_below shape valid x size multiple lt

  below : (place shape x).row < old.newest.size
  below = row-within old.newest.size (force-multiple old.newest was.fit shape force) within

  -- where no role is missing in the end, each sector is held
  held-in_whole : AreWhole new → is_held (reading_of mid) (place shape x).role (place shape x).row ≡ false → ⊥
  held-in_whole whole lacks =
      let newest = ap (λ (m : Members). m.newest) after ∙ ap (λ (m : Members). m.newest) between in
      let role_lt = place-role_below shape valid x in
      let within = force-disks old.newest was.fit shape force in
      let missing = lacking-missing (reading_of new) (place shape x).role (place shape x).row (subst (λ (n : ℕ). (place shape x).row < n) (ap (λ n. n.size) (sym newest)) below)
      (lacks_by (place shape x).role (place shape x).row mid lost' new after lacks) in
      let there = whole (place shape x).role (subst (λ (n : ℕ). (place shape x).role < n) (ap (λ n. role_count n) (sym newest)) (omega (arith, role_lt, within))) in
      absurd (let both = sym there ∙ missing in cc)

  -- one of the mended rows
  pub listed-mended : (mended : ℕ) → is_multiple mended shape.chunk ≡ true → x < data_disks shape * mended
      → ((place shape x).row < mended → AreWhole new ⊎ RowStands (reading_of old) c shape list (place shape x).row)
      → IsListed shape true (reading_of old) (reading_of mid) c x v → v ≡ list x
  listed-mended mended multiple lt fills listed = listed list stands (λ on lacks. by (fills (row-within mended multiple lt)) lacks)
    where
      by : AreWhole new ⊎ RowStands (reading_of old) c shape list (place shape x).row → is_held (reading_of mid) (place shape x).role (place shape x).row ≡ false → RowStands (reading_of old) c shape list (place shape x).row
      by (inl whole) lacks = absurd (held-in_whole whole lacks)
      by (inr row) lacks = row

  -- one behind them, of which nothing was filled in
  pub listed-beyond : IsListed shape false (reading_of mid) (reading_of new) c' x v → v ≡ list x
  listed-beyond listed = listed_since shape false (reading_of new) c c' x v old lost mid between still listed list stands (λ on. absurd (cc))
