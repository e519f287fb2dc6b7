-- What two writes of rows leave, one behind the other.
use Rattle.std.proofs.Common.{◌≡◌, ℕ, ◌+◌, ◌*◌, ◌/◌, ◌<◌, ◌≤◌, nat_le, true, if◌then◌else◌, List, length, slice_index, Contains, Option, Some, None, is_some, sym, ◌∙◌, ap, subst, arith}
use Rattle.std.proofs.lemmas.List.{get_or_default}
use Rattle.stripe_region_read.specs.raid_types_Sectors.{Sector}
use Rattle.stripe_region_read.specs.raid_types_the_Shape.{Shape}
use Rattle.stripe_region_read.specs.raid_types_the_Span.{Span}
use Rattle.stripe_region_read.specs.raid_types_Shapes.{stripe_sectors}
use Rattle.stripe_region_read.specs.raid_layout_Layout.{place}
use Rattle.stripe_region_read.specs.bank_Given.{Given}
use Rattle.stripe_region_read.specs.bank_Tape.{Contents}
use Rattle.stripe_region_read.specs.sb_codec_the_Sb.{Sb}
use Rattle.stripe_region_read.specs.sb_specs_the_Members.{Members}
use Rattle.stripe_region_read.specs.sb_specs_Reading.{Reading, shape_of, holder, data_offset_of}
use Rattle.stripe_region_read.specs.stripe_row_Rows.{reading_of, held_slot}
use Rattle.stripe_region_read.proofs.stripe_row_Losses.{holder-of}
use Rattle.stripe_region_read.specs.stripe_list_Buffers.{AreStanding}
use Rattle.stripe_region_read.specs.stripe_list_Full.{full_sector}
use Rattle.stripe_region_read.specs.stripe_list_Writing.{StaysRebuilt}
use Rattle.stripe_region_read.specs.array_members_Placed.{HaveSameReshape}
use Rattle.stripe_region_read.specs.array_members_Moving.{IsMoved}
use Rattle.stripe_region_read.specs.array_members_Lacking.{IsHeldRowKept, AreOtherRowsKept, AreRowsWritten}
use Rattle.stripe_region_read.proofs.array_members_Elements.{contains-at}
use Rattle.stripe_region_read.proofs.array_members_Fit.{list-alike, for-alike, alike-force}
use Rattle.stripe_region_read.proofs.array_members_HeldRows.{held-moved}
use Rattle.stripe_region_read.proofs.array_members_LackingWrites.{recovering-before, full-before}
use Rattle.stripe_region_read.specs.Stretches.{relied_rows}
use Rattle.stripe_region_write.specs.declared.runs.Run.{Run}
use Rattle.stripe_region_write.specs.Runs.{IsRun, IsRelied, AreRuns, AreFull, StayRebuilt}

pub some-none : {A : Type 0} (o : Option A) → is_some o ≡ true → o ≡ None → ⊥
some-none None some none = absurd (cc)
some-none (Some x) some none = absurd (cc)

-- ---- rows that were written

-- where each of these rows is one of those, others than those are kept where others than these are
pub rows-in : (r : Reading) (before after : Contents) (own among : ℕ → Type 0) → ((row : ℕ) → own row → among row) → AreOtherRowsKept own r before after → AreOtherRowsKept among r before after
rows-in r before after own among each kept row out role slot held = kept row (λ has. out (each row has)) role slot held

module _ (shape : Shape) (first : ℕ) (from rows : List ℕ) (next : ℕ) (m : Members) (before after : Contents) (buffer buffer' : List ℕ)
    (done : AreRowsWritten shape first from rows 0 next m before after buffer buffer') (within : next ≤ length rows) where
  -- another row is as it was
  pub row-apart : (row : ℕ) → (Contains rows row → ⊥) → IsHeldRowKept (reading_of m) before after row
  row-apart row out = done.others row (λ i low lt e. out (subst (λ (r : ℕ). Contains rows r) e (contains-at rows i (omega (arith, lt, within)))))

  pub rows-apart : (among : ℕ → Type 0) → ((row : ℕ) → Contains rows row → among row) → AreOtherRowsKept among (reading_of m) before after
  rows-apart among each row none = row-apart row (λ has. none (each row has))

  -- what was read of rows that aren't among these still stands
  pub standing-apart : (given : Given) (old : Members) → IsMoved given old m → (other : Shape) (row : ℕ) (sectors : ℕ → Sector) → (Contains rows row → ⊥) → AreStanding (reading_of old) before other row sectors
      → AreStanding (reading_of m) after other row sectors
  standing-apart given old moved other row sectors out stands role slot lt held =
      stands role slot lt (held-moved moved role row slot held)
      ∙ sym (row-apart row out role slot (holder-of (reading_of m) role row slot held) ∙ ap (λ (n : ℕ). before slot (n + row)) (moved.offsets slot))

module _ (shape : Shape) (first : ℕ) (from rows : List ℕ) (next : ℕ) (m : Members) (before after : Contents) (buffer buffer' : List ℕ)
    (done : AreRowsWritten shape first from rows 0 next m before after buffer buffer') (all : next ≡ length rows) where
  -- where all were, each is full
  pub full-done : AreFull m after shape first from rows buffer
  full-done list list' w holds row has =
      let i = has.0 in
      let at : slice_index rows i ≡ row = get_or_default rows i 0 row has.1 ∙ has.2 in
      subst (λ (r : ℕ). (role slot : ℕ) → role < shape.disks → held_slot (reading_of m) role r ≡ Some slot → after slot (data_offset_of (reading_of m) slot + r) ≡ full_sector shape list' r role) at
      (done.full list list' w holds i (omega arith) (let lt = has.1 in omega (arith, lt, all)))

  -- and stays so where it isn't written again
  pub full-kept : (given : Given) (new : Members) (later : Contents) → IsMoved given m new → ((row : ℕ) → Contains rows row → IsHeldRowKept (reading_of new) after later row) → AreFull new later shape first from rows buffer
  full-kept given new later moved kept list list' w holds row has role slot lt held =
      kept row has role slot (holder-of (reading_of new) role row slot held)
      ∙ ap (λ (n : ℕ). after slot (n + row)) (moved.offsets slot)
      ∙ full-done list list' w holds row has role slot lt (held-moved moved role row slot held)

  -- what was rebuilt of them stays so
  pub rebuilt-done : StayRebuilt m before after shape first from rows buffer
  rebuilt-done list list' w holds row has =
      let i = has.0 in
      let at : slice_index rows i ≡ row = get_or_default rows i 0 row has.1 ∙ has.2 in
      subst (λ (r : ℕ). StaysRebuilt (reading_of m) before after shape list list' r) at (done.rebuilt list list' w holds i (omega arith) (let lt = has.1 in omega (arith, lt, all)))

  pub rebuilt-kept : (given : Given) (new : Members) (later : Contents) → IsMoved given m new → ((row : ℕ) → Contains rows row → IsHeldRowKept (reading_of new) after later row)
      → StayRebuilt new before later shape first from rows buffer
  rebuilt-kept given new later moved kept list list' w holds row has role slot lt is full =
      kept row has role slot (ap holder is)
      ∙ ap (λ (n : ℕ). after slot (n + row)) (moved.offsets slot)
      ∙ rebuilt-done list list' w holds row has role slot lt (recovering-before moved role slot is) (full-before moved before shape list row role slot full)

-- ---- runs of superblocks that say the same

module _ (old new : Sb) (reshape : HaveSameReshape old new) (shape : shape_of new ≡ shape_of old) (size : new.size ≡ old.size) where
  relied-alike : (relied : ℕ) (s : Shape) → relied_rows new relied s ≡ relied_rows old relied s
  relied-alike relied s i = if nat_le (list-alike old new reshape shape size i) relied then size i else relied / stripe_sectors s * s.chunk

  run-alike : (run : Run) → IsRun old run → IsRun new run
  run-alike run is = record {
    force = alike-force old new reshape shape size run.shape is.force;
    one = λ x low high. for-alike old new reshape shape size x ∙ is.one x low high;
    order = is.order;
    within = subst (λ (n : ℕ). run.end ≤ n) (sym (list-alike old new reshape shape size)) is.within;
  }

  trust-alike : (window : Option Span) (relied : ℕ) (run : Run) → IsRelied old window relied run → IsRelied new window relied run
  trust-alike window relied run is = record {
    rows = λ synced x low high out. subst (λ (n : ℕ). (place run.shape x).row < n) (sym (relied-alike relied run.shape)) (is.rows synced x low high out);
    some = λ unsynced. (let t = is.some unsynced in (t.0, t.1, t.2, t.3, subst (λ (n : ℕ). n ≤ (place run.shape t.0).row) (sym (relied-alike relied run.shape)) t.4));
  }

  pub runs-alike : (window : Option Span) (relied first to : ℕ) (low high : Run) → AreRuns old window relied first to low high → AreRuns new window relied first to low high
  runs-alike window relied first to low high are = record {
    low = run-alike low are.low;
    high = run-alike high are.high;
    low_relied = trust-alike window relied low are.low_relied;
    high_relied = trust-alike window relied high are.high_relied;
    begins = are.begins;
    some = are.some;
    meet = are.meet;
    ends = are.ends;
    apart = λ more. (let cut = are.apart more in (reshape.reshaping ∙ cut.0, cut.1 ∙ sym reshape.position));
    empty = are.empty;
    wider = are.wider;
  }
