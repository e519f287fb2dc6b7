-- Delayed rows that are written out.
use Rattle.std.proofs.Common.{◌≡◌, ◌≢◌, ◌⊎◌, inl, inr, ℕ, zero, suc, ◌+◌, ◌-◌, ◌*◌, ◌/◌, ◌<◌, Bool, true, false, List, [], length, take, drop, Option, Some, refl, sym, ◌∙◌, ap, ap₂, subst, arith}
use Rattle.std.specs.Prelude.{slice_index_or, is_some, None, MatchOption, ⊤}
use Rattle.std.specs.List.{find}
use Rattle.std.proofs.lemmas.Bool.{cases_eq}
use Rattle.std.proofs.lemmas.List.{drop-drop}
use Rattle.stripe_delayed_store.specs.raid_types_Sectors.{Sector, first_sectors, sectors_of}
use Rattle.stripe_delayed_store.specs.raid_types_the_Shape.{Shape}
use Rattle.stripe_delayed_store.specs.raid_types_the_Side.{Side}
use Rattle.stripe_delayed_store.specs.raid_types_the_Side_TheVariants.{Old, New}
use Rattle.stripe_delayed_store.specs.bank_Given.{Given}
use Rattle.stripe_delayed_store.specs.bank_Tape.{Contents, IsIn}
use Rattle.stripe_delayed_store.specs.raid_layout_Layout.{place}
use Rattle.stripe_delayed_store.specs.raid_types_Shapes.{has_slot}
use Rattle.stripe_delayed_store.specs.sb_specs_the_Members.{Members}
use Rattle.stripe_delayed_store.specs.sb_specs_Reading.{shape_of}
use Rattle.stripe_delayed_store.specs.stripe_row_Rows.{reading_of}
use Rattle.stripe_delayed_store.specs.stripe_row_Writes.{OthersStand}
use Rattle.stripe_delayed_store.proofs.array_members_HeldRows.{held-moved}
use Rattle.stripe_delayed_store.proofs.stripe_row_Losses.{holder-of}
use Rattle.stripe_delayed_store.specs.stripe_list_Full.{AreWholeIn, RowStands}
use Rattle.stripe_delayed_store.specs.raid_parity_Rows.{sector_of}
use Rattle.stripe_delayed_store.specs.stripe_list_Writing.{AreDataOf, HasFull}
use Rattle.stripe_delayed_store.proofs.raid_layout_Places.{place-role_below}
use Rattle.raid_types.proofs.SectorLaws.{length-sectors_of}
use Rattle.stripe_delayed_store.specs.array_members_Placed.{IsPlaced}
use Rattle.stripe_delayed_store.specs.array_members_Moving.{IsMoved}
use Rattle.stripe_delayed_store.specs.array_members_Lacking.{ListStands, AreOtherRowsKept}
use Rattle.stripe_delayed_store.proofs.array_members_Fit.{valid}
use Rattle.stripe_delayed_store.proofs.array_members_LackingWrites.{recovering-before}
use Rattle.stripe_delayed_rows.specs.stripe_cache_the_Cached.{Cached}
use Rattle.stripe_delayed_rows.specs.stripe_cache_Rows.{Rows, same_side, is_row, without, held_row}
use Rattle.stripe_delayed_rows.specs.stripe_cache_Apart.{IsCache}
use Rattle.stripe_delayed_rows.proofs.stripe_cache_Laws.{is_row-true, is_row-self, length_without, held_row-without, held_row-without_other}
use Rattle.stripe_delayed_rows.proofs.stripe_cache_Views.{without-none}
use Rattle.stripe_delayed_rows.specs.Overlay.{Sides, placed, is_in_row, sector_in, with_row, AreDelayed, IsHeld, IsRowOfSide, taken}
use Rattle.stripe_delayed_rows.proofs.RowLaws.{taken-held, same_held, by_bool, never}
use Rattle.stripe_delayed_rows.proofs.OverlayLaws.{taking, of-list, with-here, with-other, undelayed}
use Rattle.stripe_delayed_store.specs.Rows.{DifferWhereChanged}
use Rattle.stripe_delayed_store.proofs.RowLaws.{can-be-written}
use Rattle.stripe_delayed_store.specs.Stored.{IsRowStored, HasRowStood}
use Rattle.stripe_delayed_store.proofs.StoredLaws.{stored-stand}
use Rattle.stripe_write_back.specs.WrittenOut.{IsNearer, IsWrittenOut, AreBytesOf, IsRowWrittenOut, HasRow, CanBeWritten, RowsCanBeTaken, OneRowIsWrittenOut, WrittenOutRowByRow, NearerIsAllowed, WrittenOutListsStand, RowsStandOn}

-- ---- bytes

plain : (bytes : List ℕ) (role : ℕ) → sector_of bytes role ≡ take 512 (drop (512 * role) bytes)
plain bytes role =
    let n : 512 * role + 512 - 512 * role ≡ 512 = omega arith in
    ap (λ (m : ℕ). take m (drop (512 * role) bytes)) n

first_sectors-at : (n i : ℕ) (bytes : List ℕ) → i < n → slice_index_or (first_sectors n bytes) i [] ≡ take 512 (drop (512 * i) bytes)
first_sectors-at zero i bytes lt = absurd (omega (arith, lt))
first_sectors-at (suc n) zero bytes lt = refl
first_sectors-at (suc n) (suc i) bytes lt =
    let far : 512 + 512 * i ≡ 512 * suc i = omega arith in
    first_sectors-at n i (drop 512 bytes) (omega (arith, lt)) ∙ ap (λ (l : List ℕ). take 512 l) (drop-drop (512 * i) 512 bytes ∙ ap (λ (m : ℕ). drop m bytes) far)

pub sector-at : (bytes : List ℕ) (role : ℕ) → role < length bytes / 512 → slice_index_or (sectors_of bytes) role [] ≡ sector_of bytes role
sector-at bytes role lt = first_sectors-at (length bytes / 512) role bytes lt ∙ sym (plain bytes role)

-- ---- one row

same_true : (s : Side) → same_side s s ≡ true
same_true Old = refl
same_true New = refl

module _ (given : Given) (sides : Sides) (m : Members) (gone : Cached) (bytes : List ℕ) (was : IsPlaced given m) (mine : IsRowOfSide sides m.newest.size gone)
    (shape : sides.shape gone.side ≡ shape_of m.newest) (are : AreBytesOf gone bytes) where
  -- its sectors are those of its row
  here : (x : ℕ) → (place (shape_of m.newest) x).row ≡ gone.row → is_in_row sides x gone ≡ true
  here x at =
      let at' : (place (sides.shape gone.side) x).row ≡ gone.row = ap (λ (s : Shape). (place s x).row) shape ∙ at in
      let side : sides.side x ≡ gone.side = mine.region x at' in
      let row : (placed sides x).row ≡ gone.row = ap (λ (s : Side). (place (sides.shape s) x).row) side ∙ at' in
      ap₂ (λ (s : Side) (r : ℕ). is_row s r gone) side row ∙ is_row-self gone

  -- and no other
  elsewhere : (x : ℕ) → (place (shape_of m.newest) x).row ≢ gone.row → is_in_row sides x gone ≡ false
  elsewhere x ne = by_bool (is_in_row sides x gone ≡ false) (is_in_row sides x gone)
      (λ t. absurd (ne (let names : (sides.side x ≡ gone.side) × ((placed sides x).row ≡ gone.row) = is_row-true (sides.side x) (placed sides x).row gone t in
      sym (ap (λ (s : Shape). (place s x).row) shape) ∙ sym (ap (λ (s : Side). (place (sides.shape s) x).row) names.0) ∙ names.1)))
      (λ f. f)

  -- the place of such a sector by the shape
  there : (x : ℕ) → (place (shape_of m.newest) x).row ≡ gone.row → (placed sides x).role ≡ (place (shape_of m.newest) x).role
  there x at =
      let at' : (place (sides.shape gone.side) x).row ≡ gone.row = ap (λ (s : Shape). (place s x).row) shape ∙ at in
      ap (λ (s : Side). (place (sides.shape s) x).role) (mine.region x at') ∙ ap (λ (s : Shape). (place s x).role) shape

  disks : length bytes / 512 ≡ (shape_of m.newest).disks
  disks = sym (length-sectors_of bytes) ∙ ap (λ (b : List Sector). length b) are.sectors ∙ mine.whole ∙ ap (λ (s : Shape). s.disks) shape

  -- by a list that has the row's sectors, and is stored where they aren't changed
  module _ (stored list : ℕ → Sector) (has : HasRow sides gone stored list) where
    own : AreDataOf (shape_of m.newest) list gone.row (sector_of bytes)
    own x at =
        let low : (place (shape_of m.newest) x).role < length bytes / 512 = subst (λ (n : ℕ). (place (shape_of m.newest) x).role < n) (sym disks) (place-role_below (shape_of m.newest) (valid given m was) x) in
        sym (sector-at bytes (place (shape_of m.newest) x).role low)
        ∙ ap (λ (b : List Sector). slice_index_or b (place (shape_of m.newest) x).role []) are.sectors
        ∙ ap (λ (r : ℕ). sector_in gone r) (sym (there x at))
        ∙ (has x (here x at)).0

    differ : DifferWhereChanged (shape_of m.newest) gone.row gone.changed stored list
    differ x at kept = (has x (here x at)).1 (ap (λ (r : ℕ). has_slot gone.changed r) (there x at) ∙ kept)

    row-stored : IsRowStored (shape_of m.newest) gone.row list stored (with_row sides gone stored)
    row-stored = record {
      here = λ x at. with-here sides gone stored x (here x at) ∙ (has x (here x at)).0;
      other = λ x ne. with-other sides gone stored x (elsewhere x ne);
    }

    near : IsNearer list stored (with_row sides gone stored)
    near x = by_bool ((with_row sides gone stored x ≡ stored x) ⊎ (with_row sides gone stored x ≡ list x)) (is_in_row sides x gone)
        (λ t. inr (with-here sides gone stored x t ∙ (has x t).0))
        (λ f. inl (with-other sides gone stored x f))

    pub can-be : (c : Contents) → ListStands m c stored → CanBeWritten c m gone bytes stored list
    can-be c stands = record {
      size = are.whole ∙ ap (λ (n : ℕ). 512 * n) disks;
      own = own;
      differ = differ;
      others = can-be-written (reading_of m) c (shape_of m.newest) gone.row gone.changed bytes stored list (valid given m was) (stands gone.row mine.below) own differ;
    }

-- the row that a cache holds is such a row by the list over it
pub held-has : (sides : Sides) (rows : Rows) (gone : Cached) (stored list : ℕ → Sector) → IsCache rows → IsHeld rows gone → AreDelayed sides rows stored list → HasRow sides gone stored list
held-has sides rows gone stored list cache held right x of = of-list sides rows gone stored list cache held right x of

pub taken-out : RowsCanBeTaken
taken-out given sides m c test rows gone bytes stored list was cache of found shape are right stands =
    let held : IsHeld rows gone = (taken-held test rows gone cache found).0 in
    can-be given sides m gone bytes was (of gone held) shape are stored list (held-has sides rows gone stored list cache held right) c stands

-- what is written of a row that is such a row leaves the new stored list standing
pub row-stood : (given : Given) (sides : Sides) (old new : Members) (before after : Contents) (gone : Cached) (stored list : ℕ → Sector) → IsPlaced given old → IsMoved given old new
    → IsRowOfSide sides old.newest.size gone → sides.shape gone.side ≡ shape_of old.newest → IsRowWrittenOut (shape_of old.newest) gone new before after → HasRow sides gone stored list
    → HasRowStood old new before after gone.row list stored (with_row sides gone stored) × IsNearer list stored (with_row sides gone stored)
row-stood given sides old new before after gone stored list was moved mine shape did has =
    let data' : AreDataOf (shape_of old.newest) list gone.row (sector_of did.bytes) = own given sides old gone did.bytes was mine shape did.are stored list has in (
      stored-stand given old new before after gone.row list stored (with_row sides gone stored) was moved did.others (did.full list data')
          (did.rebuilt stored list data' (differ given sides old gone did.bytes was mine shape did.are stored list has))
          (row-stored given sides old gone did.bytes was mine shape did.are stored list has),
      near given sides old gone did.bytes was mine shape did.are stored list has,
    )

-- the rows that stand
pub rows-stood : (old new : Members) (before after : Contents) (row : ℕ) (list stored stored' : ℕ → Sector) → HasRowStood old new before after row list stored stored'
    → (r : ℕ) → AreWholeIn (shape_of old.newest) list r → RowStands (reading_of old) before (shape_of old.newest) stored r → RowStands (reading_of new) after (shape_of old.newest) stored' r
rows-stood old new before after row list stored stored' stood r whole good = elim (cases_eq r row) [
  | inl same ↦ subst (λ (n : ℕ). RowStands (reading_of new) after (shape_of old.newest) stored' n) (sym same)
      (stood.good (subst (λ (n : ℕ). AreWholeIn (shape_of old.newest) list n) same whole))
  | inr ne ↦ stood.rows r ne good
]

pub one-out : OneRowIsWrittenOut
one-out given sides old new before after test rows gone was moved cache of found shape did = record {
  out = λ stored list right stands.
      let held : IsHeld rows gone = (taken-held test rows gone cache found).0 in
      let stood = row-stood given sides old new before after gone stored list was moved (of gone held) shape did (held-has sides rows gone stored list cache held right) in (
        with_row sides gone stored,
        record {
          delayed = taking sides test rows gone stored list cache found right;
          stands = stood.0.stands stands;
          nearer = stood.1;
          rows = rows-stood old new before after gone.row list stored (with_row sides gone stored) stood.0;
          rebuilt = stood.0.rebuilt;
        },
      );
}

-- ---- one after another

pub then-out : WrittenOutRowByRow
then-out given sides a b c one two three rows rows' rows'' first second left right = record {
  out = λ stored list delayed stands.
      let s1 = left.out stored list delayed stands in
      let s2 = right.out s1.0 list s1.1.delayed s1.1.stands in (
        s2.0,
        record {
          delayed = s2.1.delayed;
          stands = s2.1.stands;
          nearer = λ x. both (stored x) (s1.0 x) (s2.0 x) (list x) (s1.1.nearer x) (s2.1.nearer x);
          rows = λ row whole good. subst (λ (s : Shape). RowStands (reading_of c) three s s2.0 row) first.shape
              (s2.1.rows row (subst (λ (s : Shape). AreWholeIn s list row) (sym first.shape) whole) (subst (λ (s : Shape). RowStands (reading_of b) two s s1.0 row) (sym first.shape) (s1.1.rows row whole good)));
          rebuilt = λ role slot row lt is had. subst (λ (s : Shape). HasFull (reading_of c) three s s2.0 row role slot) first.shape
              (s2.1.rebuilt role slot row (subst (λ (s : Shape). role < s.disks) (sym first.shape) lt) is
              (subst (λ (s : Shape). HasFull (reading_of b) two s s1.0 row role slot) (sym first.shape) (s1.1.rebuilt role slot row lt (recovering-before second role slot is) had)));
        },
      );
}
  where
    both : (s t u l : Sector) → (t ≡ s) ⊎ (t ≡ l) → (u ≡ t) ⊎ (u ≡ l) → (u ≡ s) ⊎ (u ≡ l)
    both s t u l (inl a) (inl b) = inl (b ∙ a)
    both s t u l (inr a) (inl b) = inr (b ∙ a)
    both s t u l first' (inr b) = inr b

-- ---- a row's bytes, and what a test tells

pub row-size : (gone : Cached) (bytes : List ℕ) (count : ℕ) → AreBytesOf gone bytes → length gone.body ≡ count → length bytes ≡ 512 * count
row-size gone bytes count are size = are.whole ∙ ap (λ (n : ℕ). 512 * n) (sym (length-sectors_of bytes) ∙ ap (λ (b : List Sector). length b) are.sectors ∙ size)

pub none-out : {A : Type 0} (P : Type 0) (Q : A → Type 0) (o : Option A) → MatchOption o P Q → is_some o ≡ false → P
none-out P Q None is none = is
none-out P Q (Some a) is none = absurd (never none)

pub some-out : {A : Type 0} (P : Type 0) (Q : A → Type 0) (o : Option A) → MatchOption o P Q → MatchOption o ⊤ Q
some-out P Q None is = tt
some-out P Q (Some a) is = is

pub never-none : {A X : Type 0} (o : Option A) → is_some o ≡ true → o ≡ None → X
never-none o is none = absurd (cc)

-- ---- no row, and one more

pub none-written : (sides : Sides) (m : Members) (c : Contents) (rows : Rows) → IsWrittenOut sides m m c c rows rows
none-written sides m c rows = record {
  out = λ stored list delayed stands. (
    stored,
    record {
      delayed = delayed;
      stands = stands;
      nearer = λ x. inl refl;
      rows = λ row whole good. good;
      rebuilt = λ role slot row lt is had. had;
    },
  );
}

pub fewer : (p : Cached → Bool) (cs : List Cached) (d : Cached) → find p cs ≡ Some d → length (without p cs) < length cs
fewer p cs d found = let n : suc (length (without p cs)) ≡ length cs = length_without p cs d found in omega (arith, n)

-- where no row passes, none is taken out
pub same-rows : (test : Cached → Bool) (rows new : Rows) → find test rows.held ≡ None → new ≡ taken test rows → new ≡ rows
same-rows test rows new none is = is ∙ ap (λ (cs : List Cached). let r : Rows = record rows { held = cs } in r) (without-none test rows.held none)

-- ---- once all is written

pub nearer-allowed : NearerIsAllowed
nearer-allowed size values stored list stored' near was allowed x lt = elim (near x) [
  | inl same ↦ subst (λ (v : Sector). IsIn (values x) v) (sym same) (was x lt)
  | inr new ↦ subst (λ (v : Sector). IsIn (values x) v) (sym new) (allowed x lt)
]

pub list-out : WrittenOutListsStand
list-out sides old new before after rows rows' stored list did none right stands =
    let s = did.out stored list right stands in
    let same : s.0 ≡ list = λ i x. undelayed sides rows' s.0 list none s.1.delayed x i in
    record {
      stands = subst (λ (l : ℕ → Sector). ListStands new after l) same s.1.stands;
      rows = λ row whole good. subst (λ (l : ℕ → Sector). RowStands (reading_of new) after (shape_of old.newest) l row) same (s.1.rows row whole good);
      rebuilt = λ role slot row lt is had. subst (λ (l : ℕ → Sector). HasFull (reading_of new) after (shape_of old.newest) l row role slot) same (s.1.rebuilt role slot row lt is had);
    }

-- ---- what isn't changed stands on

pub others-later : (given : Given) (old new : Members) (before after : Contents) (written row : ℕ) (bytes : List ℕ) (changed : ℕ) → IsMoved given old new → row ≢ written
    → AreOtherRowsKept (λ other. other ≡ written) (reading_of new) before after → OthersStand before (reading_of old) (shape_of old.newest) row bytes changed
    → OthersStand after (reading_of new) (shape_of new.newest) row bytes changed
others-later given old new before after written row bytes changed moved ne others stands =
    subst (λ (s : Shape). OthersStand after (reading_of new) s row bytes changed) (sym moved.shape)
    (λ role slot lt kept held.
    stands role slot lt kept (held-moved moved role row slot held)
    ∙ sym (ap (λ (n : ℕ). before slot (n + row)) (moved.offsets slot))
    ∙ sym (others row ne role slot (holder-of (reading_of new) role row slot held)))

pub stand-on : RowsStandOn
stand-on given old new before after side test rows gone moved cache found others was cached held =
    by_bool ((cached.side ≡ side) × ((bytes : List ℕ) → AreBytesOf cached bytes → OthersStand after (reading_of new) (shape_of new.newest) cached.row bytes cached.changed)) (is_row cached.side cached.row gone)
    (λ mine. absurd (both (sym (same_held cached.side cached.row gone (taken test rows) mine) ∙ held_row-without test rows cache gone found) held))
    (λ other.
    let before' = was cached (sym (held_row-without_other test rows gone found cached.side cached.row other) ∙ held) in
    let gone-side : gone.side ≡ side = (was gone (taken-held test rows gone cache found).0).0 in (
      before'.0,
      λ bytes are. others-later given old new before after gone.row cached.row bytes cached.changed moved
          (λ same. never (sym (ap₂ (λ (s : Side) (r : ℕ). is_row s r gone) (before'.0 ∙ sym gone-side) same ∙ is_row-self gone) ∙ other)) others (before'.1 bytes are),
    ))
  where
    both : held_row cached.side cached.row (taken test rows) ≡ None → held_row cached.side cached.row (taken test rows) ≡ Some cached → ⊥
    both h g = cc
