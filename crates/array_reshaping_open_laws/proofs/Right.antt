-- What an opening finds of an array in a reshape is seen right by what it tells: a stop leaves what is there, and nothing else.
use Rattle.std.proofs.Common.{◌≡◌, inl, inr, ℕ, suc, zero, ◌+◌, ◌<◌, Bool, true, false, List, [], ◌∷◌, length, take, drop, Some, refl, sym, ◌∙◌, ap, subst, arith}
use Rattle.std.specs.Prelude.{slice_index_or}
use Rattle.array_reshaping_invariant.specs.raid_types_Sectors.{Sector, zero_sector}
use Rattle.array_reshaping_invariant.specs.raid_types_Shapes.{has_slot}
use Rattle.array_reshaping_invariant.specs.bank_the_Operation.{Operation}
use Rattle.array_reshaping_invariant.specs.bank_Given.{Given}
use Rattle.array_reshaping_invariant.specs.bank_Tape.{IsIn, disk}
use Rattle.array_reshaping_invariant.specs.raid_layout_Layout.{place}
use Rattle.array_reshaping_invariant.specs.sb_specs_the_Members.{Members}
use Rattle.array_reshaping_invariant.specs.sb_specs_Election.{reading_in}
use Rattle.array_reshaping_invariant.specs.sb_specs_Reading.{Scope, reading, is_clean, final_shape, role_count, list_length, data_offset_of}
use Rattle.array_reshaping_invariant.specs.stripe_row_Rows.{reading_of, present, is_missing, held_slot}
use Rattle.array_reshaping_invariant.proofs.stripe_row_Losses.{holder-of}
use Rattle.array_reshaping_invariant.proofs.history_GivenLaws.{holder-given}
use Rattle.array_reshaping_invariant.specs.crash_views_Regions.{ArePlaced, place_by}
use Rattle.array_reshaping_invariant.specs.crash_views_Views.{Disk, Ledger, IsTail, AreHeadersFit, IsViewRight}
use Rattle.array_reshaping_invariant.specs.crash_views_Windows.{AreTailsStanding}
use Rattle.array_reshaping_invariant.proofs.crash_views_Stands.{window-inside}
use Rattle.array_reshaping_invariant.proofs.crash_views_WindowLaws.{open-window}
use Rattle.array_reshaping_invariant.specs.crash_safety_laws_Carried.{AreCarried}
use Rattle.array_reshaping_invariant.specs.array_members_Lacking.{AreHoldersFlushed}
use Rattle.array_reshaping_invariant.specs.array_members_Placed.{IsPlaced}
use Rattle.array_reshaping_invariant.specs.array_members_Under.{StandsUnder, RowsStandUnder}
use Rattle.array_reshaping_invariant.proofs.array_members_Still.{flushed-is-settled}
use Rattle.array_reshaping_invariant.specs.array_call_specs_Adopting.{AreNumbersKept}
use Rattle.array_reshaping_open_laws.specs.Opening.{AreAmong}

only : (v w : Sector) → IsIn (w ∷ []) v → v ≡ w
only v w (inl same) = same
only v w (inr none) = absurd none

-- the value at the opening is the one that may be there
pub first-in : (list : List Sector) (x : ℕ) → x < length list → IsIn (take 1 (drop x list)) (slice_index_or list x [])
first-in [] x lt = absurd (omega (arith, lt))
first-in (w ∷ list) zero lt = inl refl
first-in (w ∷ list) (suc x) lt = first-in list x (omega (arith, lt))

pub first-now : (list : List Sector) (x : ℕ) → slice_index_or (take 1 (drop x list)) 0 [] ≡ slice_index_or list x []
first-now [] zero = refl
first-now [] (suc x) = refl
first-now (w ∷ list) zero = refl
first-now (w ∷ list) (suc x) = first-now list x

-- ---- the view

-- The list stands on the members whichever header a stop leaves, which is what is there; what is told of it is this list, with the roles that are missing, and a
-- dirty mark.
module _ (sound : Type 0) (bank : Given) (tape : List Operation) (scope : Scope) (m : Members) (told : Ledger) (list : ℕ → Sector) (backed : ArePlaced scope bank m) (placed : IsPlaced bank m)
    (flushed : AreHoldersFlushed (reading_of m) bank tape) (sized : list_length m.newest ≡ told.size) (values : (x : ℕ) → x < list_length m.newest → IsIn (told.values x) (list x))
    (gone : (role : ℕ) → role < role_count m.newest → is_missing (reading_of m) role ≡ true → told.gone role ≡ true) (unclean : is_clean m.newest ≡ false → told.unclean ≡ true) (reshaping : told.reshaping ≡ true)
    (under : StandsUnder scope m (present bank tape) (disk bank.start tape) list) (rows : is_clean m.newest ≡ true → sound → RowsStandUnder scope m (present bank tape) (disk bank.start tape) list)
    (headers : sound → AreHeadersFit scope m (disk bank.start tape)) (tails : AreTailsStanding m (present bank tape) list) (zeros : (x : ℕ) → IsTail m.newest x → list x ≡ zero_sector) where
  abbrev d : Disk
  d = disk bank.start tape

  -- what a stop may leave of a row that a slot holds
  held-only : (role row slot : ℕ) (v : Sector) → held_slot (reading_of m) role row ≡ Some slot → IsIn (disk bank.start tape slot (data_offset_of (reading_of m) slot + row)) v
      → v ≡ present bank tape slot (data_offset_of (reading_of m) slot + row)
  held-only role row slot v held may =
      let k : ℕ = data_offset_of (reading_of m) slot + row in
      let own = holder-of (reading_of m) role row slot held in
      only v (present bank tape slot k) (subst (λ (l : List Sector). IsIn l v) (flushed role slot k own (λ e. absurd (let far = placed.behind role slot own in omega (arith, e, far)))) may)

  pub found-right : IsViewRight sound scope bank told m (disk bank.start tape)
  found-right = record {
    placed = backed;
    sized = sized;
    gone = gone;
    unclean = unclean;
    reshaping = λ active. reshaping;
    held = λ header may x slot outside holds v is. subst (λ (w : Sector). IsIn (told.values x) w)
        (sym (held-only (place_by m.newest x).role (place_by m.newest x).row slot v holds is
        ∙ under.outside header may x slot (record { within = outside.within; outside = outside.outside }) holds)) (values x outside.within);
    sections = λ header may span active x low high v is.
        subst (λ (w : Sector). IsIn (told.values x) w) (sym (only v (list x) (under.sections header may span active x low high v is)))
        (values x (let inside = window-inside m.newest placed.fit span (open-window scope m.newest header span active) in omega (arith, high, inside)));
    settled = λ clean few so. flushed-is-settled scope bank m tape told.values list placed flushed (rows clean so) values;
    headers = λ active so. headers so;
    tails = λ so x slot tail held v is.
        held-only (place (final_shape m.newest) x).role (place (final_shape m.newest) x).row slot v held is
        ∙ tails x slot tail held ∙ zeros x tail;
  }

-- ---- what the slots hold

-- a slot that holds a role is a given one
pub found-flushed : (bank : Given) (tape : List Operation) (scope : Scope) (m : Members) → reading scope (present bank tape) ≡ Some (reading_in bank.slots m)
    → ((s k : ℕ) → has_slot scope.given s ≡ true → disk bank.start tape s k ≡ present bank tape s k ∷ []) → AreHoldersFlushed (reading_of m) bank tape
found-flushed bank tape scope m says flushed role slot k held eighth = flushed slot k (holder-given scope (present bank tape) (reading_in bank.slots m) role slot says held)

-- each number that a superblock bears is known
pub found-carried : (scope : Scope) (carried : ℕ → ℕ → Bool) (m : Members) (d : Disk) → AreAmong carried m → AreNumbersKept scope m.own d → AreCarried scope carried m.own d
found-carried scope carried m d among kept = record {
  kept = among;
  shown = λ slot sb may. (let found = kept slot sb may in ap (carried slot) (sym found.2) ∙ among slot found.0 found.1);
}
