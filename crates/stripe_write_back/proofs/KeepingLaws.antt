-- A row that a write changed is kept in place of being written.
use Rattle.std.proofs.Common.{◌≡◌, inl, inr, ℕ, ◌<◌, ◌*◌, ◌/◌, true, false, List, [], length, Option, Some, None, refl, sym, ◌∙◌, ap, ap₂, subst, arith}
use Rattle.std.specs.Prelude.{IfSome, slice_index_or}
use Rattle.stripe_delayed_store.specs.raid_parity_Rows.{sector_of}
use Rattle.stripe_delayed_store.specs.stripe_row_Rows.{reading_of}
use Rattle.stripe_delayed_store.specs.stripe_row_Writes.{OthersStand}
use Rattle.stripe_delayed_store.specs.raid_types_Sectors.{Sector, sectors_of}
use Rattle.stripe_delayed_store.specs.raid_types_the_Shape.{Shape}
use Rattle.stripe_delayed_store.specs.raid_types_the_Side.{Side}
use Rattle.stripe_delayed_store.specs.bank_Given.{Given}
use Rattle.stripe_delayed_store.specs.bank_Tape.{Contents}
use Rattle.stripe_delayed_store.specs.sb_specs_the_Members.{Members}
use Rattle.stripe_delayed_store.specs.sb_specs_Reading.{shape_of}
use Rattle.stripe_delayed_store.specs.array_members_Moving.{IsMoved}
use Rattle.stripe_delayed_store.specs.array_members_Lacking.{AreOtherRowsKept}
use Rattle.raid_types.proofs.SectorLaws.{length-sectors_of}
use Rattle.stripe_delayed_rows.specs.stripe_cache_the_Cached.{Cached}
use Rattle.stripe_delayed_rows.specs.stripe_cache_Rows.{Rows, held_row, kept, is_row}
use Rattle.stripe_delayed_rows.specs.stripe_cache_Apart.{IsCache}
use Rattle.stripe_delayed_rows.proofs.stripe_cache_Laws.{held_row-kept, held_row-kept_none, held_row-kept_other}
use Rattle.stripe_delayed_rows.specs.Overlay.{Sides, placed, with_row, AreDelayed, AreRowsOfSides, IsHeld, IsRowOfSide, IsRowWritten}
use Rattle.stripe_delayed_rows.proofs.RowLaws.{leaving-held, held_own, held_is, same_held, same_test, pushed-gone, by_bool, by_option}
use Rattle.stripe_delayed_rows.proofs.OverlayLaws.{keeping, evicting, through, stored-none}
use Rattle.stripe_write_back.specs.WrittenOut.{HasRow, AreBytesOf, AreRowsStanding, one_side}
use Rattle.stripe_write_back.specs.Keeping.{row_of, all_changed, KeptRowsStay, EvictedRowsAreWritten, RowsAreWrittenThrough}
use Rattle.stripe_write_back.proofs.WrittenOutLaws.{held-has, row-stood, rows-stood, others-later, sector-at}

pub kept-stay : KeptRowsStay
kept-stay sides m c rows cached cache none = record {
  kept = λ stored list list' right stands written. (
    stored,
    record {
      delayed = keeping sides rows cached stored list list' cache none written right;
      stands = stands;
      nearer = inl (λ x. inl refl);
      rows = λ row whole whole' good. good;
      rebuilt = λ role slot row lt is had. had;
    },
  );
}

pub evicted-written : EvictedRowsAreWritten
evicted-written given sides old new before after rows cached gone was moved cache of leaves shape did = record {
  kept = λ stored list list' right stands written.
      let held : IsHeld rows gone = (leaving-held rows cached gone cache leaves).0 in
      let stood = row-stood given sides old new before after gone stored list was moved (of gone held) shape did (held-has sides rows gone stored list cache held right) in (
        with_row sides gone stored,
        record {
          delayed = evicting sides rows cached gone stored list list' cache leaves written right;
          stands = stood.0.stands stands;
          nearer = inl stood.1;
          rows = λ row whole whole' good. rows-stood old new before after gone.row list stored (with_row sides gone stored) stood.0 row whole good;
          rebuilt = stood.0.rebuilt;
        },
      );
}

-- a row that isn't held has its sectors by the new list
pub own-has : (sides : Sides) (rows : Rows) (cached : Cached) (stored list list' : ℕ → Sector) → held_row cached.side cached.row rows ≡ None → AreDelayed sides rows stored list
    → IsRowWritten sides cached list list' → HasRow sides cached stored list'
own-has sides rows cached stored list list' absent right written x of =
    (written.here x of, λ same. stored-none sides rows stored list right x (sym (same_held (sides.side x) (placed sides x).row cached rows of) ∙ absent) ∙ sym (written.same x of same))

pub written-through : RowsAreWrittenThrough
written-through given sides old new before after rows cached was moved absent mine shape did = record {
  kept = λ stored list list' right stands written.
      let stood = row-stood given sides old new before after cached stored list' was moved mine shape did (own-has sides rows cached stored list list' absent right written) in (
        with_row sides cached stored,
        record {
          delayed = through sides rows cached stored list list' absent written right;
          stands = stood.0.stands stands;
          nearer = inr stood.1;
          rows = λ row whole whole' good. rows-stood old new before after cached.row list' stored (with_row sides cached stored) stood.0 row whole' good;
          rebuilt = stood.0.rebuilt;
        },
      );
}

-- ---- the row itself

-- the row of these bytes is one of its side
pub own-row : (side : Side) (shape : Shape) (size row : ℕ) (bytes : List ℕ) (changed : ℕ) → row < size → length bytes ≡ 512 * shape.disks → IsRowOfSide (one_side side shape) size (row_of side row bytes changed)
own-row side shape size row bytes changed below is = record {
  whole = length-sectors_of bytes ∙ by_512 (length bytes) shape.disks is;
  below = below;
  region = λ x at. refl;
}
  where
    by_512 : (n disks : ℕ) → n ≡ 512 * disks → n / 512 ≡ disks
    by_512 n disks is = omega (arith, is)

-- the bytes of a row fit in the place of its older form
pub keep-fits : (sides : Sides) (size : ℕ) (rows : Rows) (side : Side) (row count disks : ℕ) → ((s : Side) → (sides.shape s).disks ≡ disks) → AreRowsOfSides sides size rows → count ≡ 512 * disks
    → IfSome (held_row side row rows) (λ held. count ≡ 512 * length held.body)
keep-fits sides size rows side row count disks same of is = by (held_row side row rows) refl
  where
    by : (o : Option Cached) → held_row side row rows ≡ o → IfSome o (λ held. count ≡ 512 * length held.body)
    by None none = tt
    by (Some d) found = is ∙ ap (λ (n : ℕ). 512 * n) (sym ((of d (held_own rows side row d found)).whole ∙ same d.side))

-- ---- what isn't changed stands on

-- a row that is held behind a kept one was held, if it isn't that
held-before : (rows : Rows) (new d : Cached) → IsCache rows → is_row d.side d.row new ≡ false → IsHeld (kept new rows) d → IsHeld rows d
held-before rows new d cache other held = by_option (IsHeld rows d) (held_row d.side d.row rows)
    (λ none. absurd (both (kept new rows) held (held_row-kept_none new rows d.side d.row other none)))
    (λ e there. elim (held_row-kept_other new rows cache d.side d.row e other there) [
      | inl here ↦ there ∙ sym here ∙ held
      | inr gone ↦ absurd (both (kept new rows) held
          (let mine : is_row d.side d.row e ≡ true = held_is rows d.side d.row e there in
          sym (same_held d.side d.row e (kept new rows) mine) ∙ pushed-gone rows new e cache gone.0 gone.1 (same_test d.side d.row e new mine ∙ other)))
    ])
  where
    both : (rows : Rows) → held_row d.side d.row rows ≡ Some d → held_row d.side d.row rows ≡ None → ⊥
    both rows h g = cc

-- bytes of the same sectors have the same sector of each role
same-sector : (bytes mine : List ℕ) (count role : ℕ) → length bytes ≡ 512 * (length bytes / 512) → sectors_of bytes ≡ sectors_of mine → length mine ≡ 512 * count → role < count → sector_of bytes role ≡ sector_of mine role
same-sector bytes mine count role whole same size lt =
    let count-mine : length mine / 512 ≡ count = by_512 (length mine) count size in
    let count-bytes : length bytes / 512 ≡ count = sym (length-sectors_of bytes) ∙ ap (λ (l : List Sector). length l) same ∙ length-sectors_of mine ∙ count-mine in
    sym (sector-at bytes role (omega (arith, lt, count-bytes))) ∙ ap (λ (l : List Sector). slice_index_or l role []) same ∙ sector-at mine role (omega (arith, lt, count-mine))
  where
    by_512 : (n disks : ℕ) → n ≡ 512 * disks → n / 512 ≡ disks
    by_512 n disks is = omega (arith, is)

-- a row is kept
pub kept-standing : (m : Members) (c : Contents) (side : Side) (row : ℕ) (bytes : List ℕ) (changed : ℕ) (rows : Rows) → IsCache rows → length bytes ≡ 512 * (shape_of m.newest).disks
    → OthersStand c (reading_of m) (shape_of m.newest) row bytes (all_changed side row changed rows) → AreRowsStanding m c side rows → AreRowsStanding m c side (kept (row_of side row bytes changed) rows)
kept-standing m c side row bytes changed rows cache size own was d held =
    by_bool ((d.side ≡ side) × ((b : List ℕ) → AreBytesOf d b → OthersStand c (reading_of m) (shape_of m.newest) d.row b d.changed)) (is_row d.side d.row (row_of side row bytes changed))
    (λ mine.
    let is : record (row_of side row bytes changed) { changed = all_changed side row changed rows } ≡ d = inner (record (row_of side row bytes changed) { changed = all_changed side row changed rows }) d
    (sym (held_row-kept (row_of side row bytes changed) rows) ∙ same_held d.side d.row (row_of side row bytes changed) (kept (row_of side row bytes changed) rows) mine ∙ held) in
    subst (λ (e : Cached). (e.side ≡ side) × ((b : List ℕ) → AreBytesOf e b → OthersStand c (reading_of m) (shape_of m.newest) e.row b e.changed)) is
    (refl, λ b are role slot lt kept' held'. same-sector b bytes (shape_of m.newest).disks role are.whole are.sectors size lt ∙ own role slot lt kept' held'))
    (λ other. was d (held-before rows (row_of side row bytes changed) d cache other held))
  where
    inner : (a b : Cached) → Some a ≡ Some b → a ≡ b
    inner a b h = cc

-- a row that isn't held is written
pub later-standing : (given : Given) (old new : Members) (before after : Contents) (side : Side) (rows : Rows) (gone : Cached) → IsMoved given old new → gone.side ≡ side → held_row gone.side gone.row rows ≡ None
    → AreOtherRowsKept (λ other. other ≡ gone.row) (reading_of new) before after → AreRowsStanding old before side rows → AreRowsStanding new after side rows
later-standing given old new before after side rows gone moved mine absent others was d held =
    let first = was d held in (
      first.0,
      λ bytes are. others-later given old new before after gone.row d.row bytes d.changed moved
          (λ same. both (ap₂ (λ (s : Side) (r : ℕ). held_row s r rows) (first.0 ∙ sym mine) same ∙ absent) held) others (first.1 bytes are),
    )
  where
    both : held_row d.side d.row rows ≡ None → held_row d.side d.row rows ≡ Some d → ⊥
    both h g = cc
