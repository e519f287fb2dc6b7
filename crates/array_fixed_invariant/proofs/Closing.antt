-- What is left of an array in which no step is left is consistent under its shape, unless too many roles are gone.
use Rattle.std.proofs.Common.{◌≡◌, inl, inr, ℕ, ◌<◌, ◌≤◌, Bool, true, false, cond, Option, Some, None, List, length, MatchOption, not, refl, sym, ◌∙◌, ap, subst, arith}
use Rattle.std.specs.Prelude.{⊤}
use Rattle.std.specs.Option.{option_map_or}
use Rattle.std.proofs.lemmas.Bool.{cases_lt}
use Rattle.array_reshaping_invariant.specs.raid_types_Sectors.{Sector}
use Rattle.array_reshaping_invariant.specs.raid_types_Shapes.{has_slot, tolerance}
use Rattle.array_reshaping_invariant.specs.raid_types_the_Shape.{Shape}
use Rattle.array_reshaping_invariant.specs.raid_types_the_Role.{Role}
use Rattle.array_reshaping_invariant.specs.raid_types_the_Role_TheVariants.{Missing}
use Rattle.array_reshaping_invariant.specs.bank_the_Operation.{Operation}
use Rattle.array_reshaping_invariant.specs.bank_Given.{Given}
use Rattle.array_reshaping_invariant.specs.bank_Tape.{disk}
use Rattle.array_reshaping_invariant.proofs.raid_parity_Columns.{tabulate-same}
use Rattle.array_reshaping_invariant.specs.sb_specs_the_Members.{Members}
use Rattle.array_reshaping_invariant.specs.sb_specs_Reading.{Scope, Reading, reading, is_reshaping, is_clean, is_whole, holder, role_state, shape_of, target_of}
use Rattle.array_reshaping_invariant.specs.stripe_row_Rows.{reading_of, present, is_missing, missing_count, members_without, IsTolerated}
use Rattle.array_reshaping_invariant.specs.stripe_row_Rows as rows
use Rattle.array_reshaping_invariant.specs.stripe_list_Full.{RowStands}
use Rattle.array_reshaping_invariant.specs.history_the_Entry.{Entry}
use Rattle.array_reshaping_invariant.specs.history_Losses.{is_gone_after}
use Rattle.array_reshaping_invariant.specs.history_Reshaped.{IsConsistent, IsConsistentBy, IsConsistentAt}
use Rattle.array_reshaping_invariant.specs.history_Sound.{OpensFit}
use Rattle.array_reshaping_invariant.specs.history_Stands.{held_row, held_sector}
use Rattle.array_reshaping_invariant.specs.crash_views_Regions.{DoWithout, IsReadOf, header_in}
use Rattle.array_reshaping_invariant.specs.crash_views_Views.{Ledger, IsSettled}
use Rattle.array_reshaping_invariant.specs.crash_views_Windows.{RowsStand}
use Rattle.array_reshaping_invariant.proofs.crash_views_Alike.{shape-alike}
use Rattle.array_reshaping_invariant.proofs.crash_views_SoundViews.{good-row}
use Rattle.array_reshaping_invariant.proofs.crash_views_Standing.{held-same}
use Rattle.array_reshaping_invariant.proofs.crash_views_Stands.{still-stands}
use Rattle.array_reshaping_invariant.specs.crash_safety_laws_Steady.{IsSteady}
use Rattle.array_reshaping_invariant.proofs.crash_safety_laws_Steady.{held-read}
use Rattle.array_reshaping_invariant.proofs.crash_safety_laws_Without.{state-without}
use Rattle.array_reshaping_invariant.proofs.crash_reshape_laws_EndLaws.{fewer-pass}
use Rattle.array_reshaping_invariant.specs.array_members_Lacking.{RowsStandBelow}
use Rattle.array_reshaping_invariant.proofs.array_members_LiveLeft.{left-steady, without-left}
use Rattle.array_reshaping_invariant.proofs.array_members_Still.{count-still, without-still, outside-still}
use Rattle.array_reshaping_invariant.specs.history_invariant_Safe.{world_in, IsSafeHistory, IsNowRight}
use Rattle.array_reshaping_invariant.proofs.history_invariant_Lengths.{now-drawn}
use Rattle.array_reshaping_invariant.specs.history_invariant_laws_Reliable.{AreToldGone}
use Rattle.array_fixed_invariant.specs.Still.{AreAtRest, IsNamedOrClean}
use Rattle.array_fixed_invariant.proofs.Named.{missing-named}

-- ---- what the superblocks say

-- Where they are held as former members have it, that do without what they miss and whose rows stand, the contents are consistent.
module _ (sound : Type 0) (scope : Scope) (given : Given) (told : Ledger) (m : Members) (tape : List Operation) (steady : IsSteady sound scope given told m (disk given.start tape)) where
  abbrev former : Members
  former = steady.former

  abbrev shape : Shape
  shape = shape_of steady.former.newest

  said : (r : Reading) × (reading scope (present given tape) ≡ Some r) × IsReadOf scope steady.former r
  said = held-read scope given steady.former tape steady.since.held (present given tape) (record { eighth = λ slot seen. now-drawn given tape slot 8; ninth = λ slot seen. now-drawn given tape slot 9 })

  same-rows : (row : ℕ) → held_row (present given tape) (said.0) (shape_of steady.former.newest) row ≡ rows.held_row (present given tape) (reading_of steady.former) (shape_of steady.former.newest) row
  same-rows row =
      tabulate-same (shape_of steady.former.newest).disks (λ role. held_sector (present given tape) (said.0) role row) (λ role. rows.held_sector (present given tape) (reading_of steady.former) role row)
      (λ role lt. held-same scope given steady.former steady.right.placed (present given tape) (said.0) (said.2) role row)

  module _ (still : is_reshaping steady.former.newest ≡ false) (few : IsTolerated (reading_of steady.former) (shape_of steady.former.newest)) (list : ℕ → Sector)
      (stand : (row : ℕ) → row < steady.former.newest.size → RowStands (reading_of steady.former) (present given tape) (shape_of steady.former.newest) list row) where
    alone : target_of (said.0).newest ≡ None
    alone =
        ap (λ (b : Bool). cond b (Some (record { level = (said.0).newest.new_level; layout = (said.0).newest.new_layout; chunk = (said.0).newest.new_chunk; disks = (said.0).newest.raid_disks })) None)
        (sym (said.2).array.reshaping ∙ still)

    by : IsConsistentBy (present given tape) (shape_of steady.former.newest) (said.0)
    by = record {
      shaped = sym (shape-alike steady.former.newest (said.0).newest (said.2).array);
      alone = alone;
      rows = λ row lt.
          let below : row < steady.former.newest.size = (let size = (said.2).array.size in omega (arith, lt, size)) in
          good-row (reading_of steady.former) (present given tape) (shape_of steady.former.newest) list row steady.right.placed.fit.valid.old below few (stand row below) (said.0) (same-rows row);
    }

    pub former-consistent : IsConsistent scope (present given tape) (shape_of steady.former.newest)
    former-consistent = subst (λ (o : Option Reading). MatchOption o ⊥ (IsConsistentBy (present given tape) (shape_of steady.former.newest))) (sym (said.1)) by

-- ---- the members

-- the former members had each role that these have
module _ (former : Members) (gone : ℕ) where
  still-missing : (role : ℕ) → is_missing (reading_of former) role ≡ true → is_missing (reading_of (members_without gone former)) role ≡ true
  still-missing role miss =
      ap (λ (s : Role). not (is_whole s)) (state-without gone former.roles role) ∙ by (option_map_or (has_slot gone) (holder (role_state (reading_of former) role)) false)
    where
      by : (b : Bool) → not (is_whole (cond b Missing (role_state (reading_of former) role))) ≡ true
      by true = refl
      by false = miss

  pub fewer-missing : (shape : Shape) → missing_count (reading_of former) shape ≤ missing_count (reading_of (members_without gone former)) shape
  fewer-missing shape = fewer-pass shape.disks (is_missing (reading_of former)) (is_missing (reading_of (members_without gone former))) (λ role lt miss. still-missing role miss)

module _ (sound : Type 0) (scope : Scope) (given : Given) (told : Ledger) (m : Members) (tape : List Operation) (steady : IsSteady sound scope given told m (disk given.start tape)) (rest : AreAtRest given m)
    (few : missing_count (reading_of m) (shape_of m.newest) ≤ tolerance (shape_of m.newest)) where
  same-shape : shape_of steady.former.newest ≡ shape_of m.newest
  same-shape = ap (λ (n : Members). shape_of n.newest) (sym steady.since.since)

  former-still : is_reshaping steady.former.newest ≡ false
  former-still = ap (λ (n : Members). is_reshaping n.newest) (sym steady.since.since) ∙ rest.still

  former-few : IsTolerated (reading_of steady.former) (shape_of steady.former.newest)
  former-few =
      let counted = fewer-missing steady.former steady.since.gone (shape_of steady.former.newest) in
      let most : missing_count (reading_of (members_without steady.since.gone steady.former)) (shape_of steady.former.newest) ≤ tolerance (shape_of steady.former.newest) =
      subst (λ (n : Members). missing_count (reading_of n) (shape_of n.newest) ≤ tolerance (shape_of n.newest)) steady.since.since few in
      omega (arith, counted, most)

  -- where each lost slot is named, they are the members
  pub named-consistent : steady.former.roles ≡ m.roles → (list : ℕ → Sector) → ((row : ℕ) → row < m.newest.size → RowStands (reading_of m) (present given tape) (shape_of m.newest) list row)
      → IsConsistent scope (present given tape) (shape_of m.newest)
  named-consistent same list stand =
      subst (λ (s : Shape). IsConsistent scope (present given tape) s) same-shape
      (former-consistent sound scope given told m tape steady former-still former-few list
      (λ row lt. subst (λ (s : Shape). RowStands (reading_of steady.former) (present given tape) s list row) (sym same-shape)
      (subst (λ (r : Reading). RowStands r (present given tape) (shape_of m.newest) list row) (sym same-reading)
      (stand row (subst (λ (n : Members). row < n.newest.size) (sym steady.since.since) lt)))))
    where
      same-reading : reading_of steady.former ≡ reading_of m
      same-reading = λ i. record {
        newest = (sym steady.since.since i).newest;
        own = (sym steady.since.since i).own;
        roles = same i;
        spares = (sym steady.since.since i).spares;
      }

  -- where they say clean, their rows are settled
  pub clean-consistent : is_clean m.newest ≡ true → sound → IsConsistent scope (present given tape) (shape_of m.newest)
  clean-consistent clean fit =
      subst (λ (s : Shape). IsConsistent scope (present given tape) s) same-shape
      (former-consistent sound scope given told m tape steady former-still former-few settled.list
      ((still-stands scope given steady.former (present given tape) settled.list steady.right.placed former-still).1.0 shown))
    where
      settled : IsSettled scope steady.former told.values (disk given.start tape)
      settled = steady.right.settled (ap (λ (n : Members). is_clean n.newest) (sym steady.since.since) ∙ clean) (without-still steady.former former-still former-few) fit

      shown : RowsStand None steady.former (present given tape) settled.list
      shown x is = settled.rows (present given tape) (now-drawn given tape) x (outside-still steady.former.newest former-still scope steady.former (header_in scope (present given tape)) x refl is.within)

-- ---- at its end

-- So it is behind a call that leaves the array at rest, where all rows stand, and each missing role is told gone.
pub closing-consistent : (given : Given) (tape : List Operation) (scope : Scope) (first : ℕ) (entries : List Entry) (m : Members) (carried : ℕ → ℕ → Bool) (reshaping : Bool) (list : ℕ → Sector) → AreAtRest given m
    → AreToldGone (world_in given tape scope first) entries m → IsSafeHistory ⊤ (world_in given tape scope first) given m carried reshaping entries → (DoWithout m → IsNamedOrClean m) → OpensFit (world_in given tape scope first)
    → (DoWithout m → RowsStandBelow m.newest.size m (present given tape) list) → IsConsistentAt (world_in given tape scope first) entries (length tape) (shape_of m.newest)
closing-consistent given tape scope first entries m carried reshaping list rest gone safe named fit stand =
    elim (cases_lt (tolerance (shape_of m.newest)) (missing_count (reading_of m) (shape_of m.newest))) [
      | inl above ↦ inr (
          let pass = fewer-pass (shape_of m.newest).disks (is_missing (reading_of m)) (is_gone_after (world_in given tape scope first) entries)
          (λ role lt miss. gone role (let count = count-still m.newest rest.still in omega (arith, lt, count)) miss) in
          omega (arith, above, pass))
      | inr few ↦ inl (of few (without-still m rest.still few) safe.now)
    ]
  where
    of : missing_count (reading_of m) (shape_of m.newest) ≤ tolerance (shape_of m.newest) → DoWithout m → IsNowRight (world_in given tape scope first) given m carried reshaping entries
        → IsConsistent scope (present given tape) (shape_of m.newest)
    of few does (inr unkept) = absurd (unkept.spent.none (without-left given m rest.placed rest.unlost does))
    of few does (inl over) =
        let live = without-left given m rest.placed rest.unlost does in
        let steady = left-steady live over in
        elim (named does) [
          | inl missing ↦
              let named = missing-named m (disk given.start tape) rest.placed (missing live) steady in
              named-consistent (OpensFit (world_in given tape scope first)) scope given _ m tape named.steady rest few named.roles list (λ row lt. stand does row lt lt)
          | inr clean ↦ clean-consistent (OpensFit (world_in given tape scope first)) scope given _ m tape steady rest few clean fit
        ]
