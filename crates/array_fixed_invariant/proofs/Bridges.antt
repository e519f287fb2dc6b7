-- Without a resync and without a role that is recovered, the record is what a reshape begins in, and what its end leaves.
use Rattle.std.proofs.Common.{◌≡◌, ℕ, ◌<◌, ◌≤◌, nat_lt, Bool, true, false, cond, Option, None, List, length, refl, sym, ◌∙◌, ap, subst, arith}
use Rattle.std.specs.Prelude.{IfSome, is_some, ⊤}
use Rattle.std.proofs.lemmas.Bool.Decides.{nat_tests}
use Rattle.array_reshaping_invariant.specs.raid_types_Sectors.{Sector, zero_sector}
use Rattle.array_reshaping_invariant.specs.bank_the_Operation.{Operation}
use Rattle.array_reshaping_invariant.specs.bank_Given.{Given}
use Rattle.array_reshaping_invariant.specs.raid_parity_Rows.{IsSector}
use Rattle.array_reshaping_invariant.specs.sb_specs_the_Members.{Members}
use Rattle.array_reshaping_invariant.specs.sb_specs_Reading.{Scope, shape_of, list_length}
use Rattle.array_reshaping_invariant.specs.stripe_row_Rows.{present}
use Rattle.array_reshaping_invariant.specs.history_the_Entry.{Entry}
use Rattle.array_reshaping_invariant.specs.history_Epochs.{HasRoomForEvents}
use Rattle.array_reshaping_invariant.specs.history_Flat.{now}
use Rattle.array_reshaping_invariant.specs.history_Legal.{told_left}
use Rattle.array_reshaping_invariant.specs.history_Losses.{is_unsynced}
use Rattle.array_reshaping_invariant.specs.history_Sound.{OpensFit}
use Rattle.array_reshaping_invariant.specs.history_World.{opening_list}
use Rattle.array_reshaping_invariant.specs.crash_views_Regions.{DoWithout}
use Rattle.array_reshaping_invariant.specs.crash_safety_laws_Steady.{AreUnlost}
use Rattle.array_reshaping_invariant.specs.crash_reshape_laws_Plans.{HasNoneRecovering}
use Rattle.array_reshaping_invariant.proofs.crash_reshape_laws_GrownLaws.{row-list}
use Rattle.array_reshaping_invariant.specs.array_members_the_Work.{Work}
use Rattle.array_reshaping_invariant.specs.array_members_Lacking.{synced_rows}
use Rattle.array_reshaping_invariant.specs.array_members_Numbers.{bears}
use Rattle.array_reshaping_invariant.specs.array_members_Rebuilding.{AreSparesFree}
use Rattle.array_reshaping_invariant.specs.array_members_Status.{stripes_of}
use Rattle.array_reshaping_invariant.proofs.array_members_Fit.{valid}
use Rattle.array_reshaping_invariant.specs.history_invariant_Safe.{TakesNone, KeepsLevel}
use Rattle.array_fixed_invariant.specs.Still.{AreNoneMissing}
use Rattle.array_reshaping_invariant.specs.history_invariant_Safe.{world_in, IsFilledRight, IsSafeHistory}
use Rattle.array_reshaping_invariant.specs.Moving.{HasListStill, IsStillKept}
use Rattle.array_fixed_invariant.specs.Still.{AreAtRest, HasListStood, IsStill}
use Rattle.array_fixed_invariant.proofs.Stood.{list-shown, shown-list, rows-shown, shown-rows, sector-inside}

-- ---- once no resync is pending

module _ (tells : Type 0) (given : Given) (tape : List Operation) (scope : Scope) (first : ℕ) (entries : List Entry) (m : Members) (work : Work) (left : ℕ)
    (was : IsStill tells given tape scope first entries m work left) (synced : work.resync ≡ None) where
  abbrev current : ℕ → Sector
  current = now (opening_list (world_in given tape scope first)) entries

  -- the list, with zeros behind its end
  abbrev list : ℕ → Sector
  list = λ x. cond (nat_lt x (list_length m.newest)) (now (opening_list (world_in given tape scope first)) entries x) zero_sector

  list-is : (x : ℕ) → x < list_length m.newest → list x ≡ current x
  list-is x lt = ap (λ (b : Bool). cond b (current x) zero_sector) (is-below (list_length m.newest) lt)
    where
      is-below : (n : ℕ) → x < n → nat_lt x n ≡ true
      is-below n lt = grind (arith, nat_tests, lt)

  list-past : (x : ℕ) → list_length m.newest ≤ x → list x ≡ zero_sector
  list-past x past = ap (λ (b : Bool). cond b (current x) zero_sector) (not-below (list_length m.newest) past)
    where
      not-below : (n : ℕ) → n ≤ x → nat_lt x n ≡ false
      not-below n past = grind (arith, nat_tests, past)

  listed : tells → DoWithout m → IsFilledRight (world_in given tape scope first) entries → HasListStill (OpensFit (world_in given tape scope first)) m (present given tape) (now (opening_list (world_in given tape scope first)) entries)
  listed t does fills =
      let l = was.listed t does fills in
      record {
        list = list;
        is = list-is;
        zeros = list-past;
        stands = λ x slot shown held. list-shown given m was.members_are (present given tape) current l.stands x slot shown held ∙ sym (list-is x shown.within);
        rows = λ fit. rows-shown given m was.members_are (present given tape) list (λ row lt.
            row-list m (present given tape) (shape_of m.newest) current list row (valid given m was.members_are.placed) (λ y at. list-is y (sector-inside given m was.members_are y (omega (arith, at, lt))))
            (l.rows fit row (subst (λ (o : Option ℕ). row < synced_rows o m) (sym synced) lt) lt));
      }

  pub stands-kept : IsStillKept tells given tape scope first entries m (bears work)
  stands-kept = record {
    slots = was.slots;
    placed = was.members_are.placed;
    still = was.members_are.still;
    sizes_are = was.sizes_are;
    levelled = was.levelled;
    gone = was.gone;
    unclean = was.unclean;
    recorded = was.recorded;
    past = was.past;
    listed = listed;
    reshaping = was.reshaping;
    over = was.over;
    safe = was.safe;
  }

-- ---- and the other way

pub kept-again : (tells : Type 0) (given : Given) (tape : List Operation) (scope : Scope) (first : ℕ) (entries : List Entry) (m : Members) (carried : ℕ → ℕ → Bool) (work : Work) (left : ℕ)
    → IsStillKept tells given tape scope first entries m carried → AreUnlost m → AreSparesFree given m → length m.spares ≤ 32 → HasNoneRecovering m → work.resync ≡ None → bears work ≡ carried
    → IfSome (told_left entries) (λ n. n ≡ left) → (tells → is_unsynced (world_in given tape scope first) entries ≡ false)
    → (tells → TakesNone (world_in given tape scope first) entries → KeepsLevel entries → AreNoneMissing m)
    → IsStill tells given tape scope first entries m work left
kept-again tells given tape scope first entries m carried work left was unlost free spares whole none carries told synced full = record {
  slots = was.slots;
  members_are = rest;
  sizes_are = was.sizes_are;
  left_told = told;
  reshaping = was.reshaping;
  over = was.over;
  progress = subst (λ (o : Option ℕ). IfSome o (λ mended. mended ≤ stripes_of m)) (sym none) tt;
  pending = λ t. synced t ∙ sym (ap (λ (o : Option ℕ). is_some o) none);
  dirty = λ does pending. absurd (let no = sym (ap (λ (o : Option ℕ). is_some o) none) ∙ pending in cc);
  levelled = was.levelled;
  gone = was.gone;
  full = full;
  unclean = was.unclean;
  recorded = was.recorded;
  past = was.past;
  listed = listed;
  safe = subst (λ (c : ℕ → ℕ → Bool). tells → IsFilledRight (world_in given tape scope first) entries → HasRoomForEvents (world_in given tape scope first)
      → IsSafeHistory ⊤ (world_in given tape scope first) given m c was.reshaping entries) (sym carries) was.safe;
}
  where
    rest : AreAtRest given m
    rest = record { placed = was.placed; still = was.still; unlost = unlost; free = free; spares = spares }

    current : ℕ → Sector
    current = now (opening_list (world_in given tape scope first)) entries

    listed : tells → DoWithout m → IsFilledRight (world_in given tape scope first) entries → HasListStood (OpensFit (world_in given tape scope first)) work m (present given tape) (now (opening_list (world_in given tape scope first)) entries)
    listed t does fills =
        let l = was.listed t does fills in
        record {
          stands = shown-list given m rest (present given tape) (now (opening_list (world_in given tape scope first)) entries) (λ x slot shown held. l.stands x slot shown held ∙ l.is x shown.within);
          whole = λ fit x lt. subst IsSector (l.is x lt) ((l.rows fit x (record { within = lt; outside = refl })).whole x refl);
          rows = λ fit row high low.
              row-list m (present given tape) (shape_of m.newest) l.list (now (opening_list (world_in given tape scope first)) entries) row (valid given m was.placed) (λ y at. sym (l.is y (sector-inside given m rest y (omega (arith, at, low)))))
              (shown-rows given m rest (present given tape) l.list (l.rows fit) row low);
          rebuilt = λ fit role slot row lt is. absurd (whole role slot is);
        }
