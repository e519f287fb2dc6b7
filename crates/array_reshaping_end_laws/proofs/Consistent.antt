-- Contents are consistent under a shape where the superblocks say it alone and each row stands; and where too few roles are left, too many are gone.
use Rattle.std.proofs.Common.{◌≡◌, inl, inr, ℕ, ◌<◌, ◌≤◌, Bool, false, cond, Option, Some, None, List, length, MatchOption, sym, ◌∙◌, ap, subst, arith}
use Rattle.std.proofs.lemmas.Bool.{cases_lt}
use Rattle.array_fixed_invariant.specs.raid_types_Shapes.{tolerance}
use Rattle.array_fixed_invariant.specs.raid_types_Sectors.{Sector}
use Rattle.array_fixed_invariant.specs.bank_the_Operation.{Operation}
use Rattle.array_fixed_invariant.specs.bank_Given.{Given}
use Rattle.array_fixed_invariant.specs.bank_Tape.{Contents, disk}
use Rattle.array_fixed_invariant.proofs.raid_parity_Columns.{tabulate-same}
use Rattle.array_fixed_invariant.specs.sb_specs_the_Members.{Members}
use Rattle.array_fixed_invariant.specs.sb_specs_Reading.{Scope, Reading, reading, is_reshaping, shape_of, target_of}
use Rattle.array_fixed_invariant.specs.stripe_row_Rows.{reading_of, present, is_missing, missing_count}
use Rattle.array_fixed_invariant.specs.stripe_row_Rows as rows
use Rattle.array_fixed_invariant.specs.history_the_Entry.{Entry}
use Rattle.array_fixed_invariant.specs.history_Losses.{is_gone_after}
use Rattle.array_fixed_invariant.specs.history_Reshaped.{IsConsistent, IsConsistentBy, IsConsistentAt}
use Rattle.array_fixed_invariant.specs.history_Stands.{held_row, held_sector}
use Rattle.array_fixed_invariant.specs.history_World.{World, contents_at}
use Rattle.array_fixed_invariant.specs.crash_views_Regions.{DoWithout, IsReadOf}
use Rattle.array_fixed_invariant.specs.crash_views_Views.{Ledger}
use Rattle.array_fixed_invariant.specs.crash_views_Windows.{RowsStand}
use Rattle.array_fixed_invariant.proofs.crash_views_Alike.{shape-alike}
use Rattle.array_fixed_invariant.proofs.crash_views_SoundViews.{good-row}
use Rattle.array_fixed_invariant.proofs.crash_views_Standing.{held-same}
use Rattle.array_fixed_invariant.specs.crash_safety_laws_Changing.{IsSafeChange}
use Rattle.array_fixed_invariant.specs.crash_safety_laws_Steady.{AreUnlost, IsNamedNow}
use Rattle.array_fixed_invariant.proofs.crash_safety_laws_Steady.{held-read}
use Rattle.array_fixed_invariant.proofs.crash_reshape_laws_EndLaws.{fewer-pass}
use Rattle.array_fixed_invariant.specs.array_members_Placed.{IsPlaced}
use Rattle.array_fixed_invariant.proofs.array_members_Fit.{valid}
use Rattle.array_fixed_invariant.proofs.array_members_LiveLeft.{without-left}
use Rattle.array_fixed_invariant.proofs.array_members_Still.{count-still, without-still}
use Rattle.array_fixed_invariant.proofs.history_invariant_Lengths.{now-drawn}
use Rattle.array_fixed_invariant.specs.history_invariant_laws_Reliable.{AreToldGone}
use Rattle.array_reshaping_end_laws.proofs.EndedRows.{rows-still}

-- Where the superblocks are held as members without a reshape say, which lack no more than is tolerated, and whose rows stand, the contents are consistent.
module _ (sound : Type 0) (scope : Scope) (given : Given) (told : Ledger) (m : Members) (tape : List Operation) (list : ℕ → Sector) (placed : IsPlaced given m) (still : is_reshaping m.newest ≡ false)
    (named : IsNamedNow sound scope given told m (disk given.start tape)) (few : missing_count (reading_of m) (shape_of m.newest) ≤ tolerance (shape_of m.newest)) (stand : RowsStand None m (present given tape) list) where
  abbrev former : Members
  former = named.steady.former

  said : (r : Reading) × (reading scope (present given tape) ≡ Some r) × IsReadOf scope named.steady.former r
  said = held-read scope given named.steady.former tape named.steady.since.held (present given tape) (record { eighth = λ slot seen. now-drawn given tape slot 8; ninth = λ slot seen. now-drawn given tape slot 9 })

  -- the members say what they said
  same-reading : reading_of named.steady.former ≡ reading_of m
  same-reading = λ i. record {
    newest = (sym named.steady.since.since i).newest;
    own = (sym named.steady.since.since i).own;
    roles = named.roles i;
    spares = (sym named.steady.since.since i).spares;
  }

  same-shape : shape_of (said.0).newest ≡ shape_of m.newest
  same-shape = sym (shape-alike named.steady.former.newest (said.0).newest (said.2).array) ∙ ap (λ (r : Reading). shape_of r.newest) same-reading

  same-rows : (row : ℕ) → held_row (present given tape) (said.0) (shape_of m.newest) row ≡ rows.held_row (present given tape) (reading_of m) (shape_of m.newest) row
  same-rows row =
      tabulate-same (shape_of m.newest).disks (λ role. held_sector (present given tape) (said.0) role row) (λ role. rows.held_sector (present given tape) (reading_of named.steady.former) role row)
      (λ role lt. held-same scope given named.steady.former named.steady.right.placed (present given tape) (said.0) (said.2) role row)
      ∙ ap (λ (r : Reading). rows.held_row (present given tape) r (shape_of m.newest) row) same-reading

  alone : target_of (said.0).newest ≡ None
  alone =
      ap (λ (b : Bool). cond b (Some (record { level = (said.0).newest.new_level; layout = (said.0).newest.new_layout; chunk = (said.0).newest.new_chunk; disks = (said.0).newest.raid_disks })) None)
      (sym (said.2).array.reshaping ∙ ap (λ (r : Reading). is_reshaping r.newest) same-reading ∙ still)

  by : IsConsistentBy (present given tape) (shape_of m.newest) (said.0)
  by = record {
    shaped = same-shape;
    alone = alone;
    rows = λ row lt.
        let below : row < m.newest.size = (let size = sym (said.2).array.size ∙ ap (λ (r : Reading). r.newest.size) same-reading in omega (arith, lt, size)) in
        good-row (reading_of m) (present given tape) (shape_of m.newest) list row (valid given m placed) below few
        (rows-still scope given m placed still (present given tape) list stand row below) (said.0) (same-rows row);
  }

  pub consistent : IsConsistent scope (present given tape) (shape_of m.newest)
  consistent = subst (λ (o : Option Reading). MatchOption o ⊥ (IsConsistentBy (present given tape) (shape_of m.newest))) (sym (said.1)) by

-- And whatever it lacks: behind a change that leaves them so, where each missing role is gone.
pub consistent-at : (sound : Type 0) (world : World) (given : Given) (entries : List Entry) (told more : Ledger) (m : Members) (before after : List Operation) (list : ℕ → Sector) → IsPlaced given m → AreUnlost m
    → is_reshaping m.newest ≡ false → contents_at world (length after) ≡ present given after → AreToldGone world entries m → IsSafeChange sound world.scope given told more m before after
    → (DoWithout m → RowsStand None m (present given after) list) → IsConsistentAt world entries (length after) (shape_of m.newest)
consistent-at sound world given entries told more m before after list placed unlost still there gone change stand =
    elim (cases_lt (tolerance (shape_of m.newest)) (missing_count (reading_of m) (shape_of m.newest))) [
      | inl above ↦ inr (
          let pass = fewer-pass (shape_of m.newest).disks (is_missing (reading_of m)) (is_gone_after world entries) (λ role lt miss. gone role (let count = count-still m.newest still in omega (arith, lt, count)) miss) in
          omega (arith, above, pass))
      | inr few ↦ inl (
          let does : DoWithout m = without-still m still few in
          subst (λ (c : Contents). IsConsistent world.scope c (shape_of m.newest)) (sym there) (elim change.next [
            | inl named ↦ consistent sound world.scope given more m after list placed still named few (stand does)
            | inr spent ↦ absurd (spent.none (without-left given m placed unlost does))
          ]))
    ]
