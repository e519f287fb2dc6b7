-- What stands once a row that was kept in memory is written.
use Rattle.std.proofs.Common.{◌≡◌, ◌⊎◌, inl, inr, ℕ, ◌+◌, ◌<◌, Bool, true, false, List, ◌∷◌, Some, if◌then◌else◌, refl, sym, ◌∙◌, ap, subst}
use Rattle.std.proofs.lemmas.Bool.{cases_eq}
use Rattle.sb_safe_updates.specs.raid_types_Sectors.{Sector}
use Rattle.sb_safe_updates.specs.raid_types_the_Shape.{Shape}
use Rattle.sb_safe_updates.specs.bank_Given.{Given}
use Rattle.sb_safe_updates.specs.bank_Tape.{Contents, IsIn}
use Rattle.sb_safe_updates.specs.raid_layout_Layout.{place}
use Rattle.sb_safe_updates.specs.raid_parity_Rows.{IsSector, sector_of}
use Rattle.sb_safe_updates.specs.sb_specs_the_Members.{Members}
use Rattle.sb_safe_updates.specs.sb_specs_Reading.{shape_of, holder, data_offset_of}
use Rattle.sb_safe_updates.specs.stripe_row_Rows.{reading_of, held_slot}
use Rattle.sb_safe_updates.specs.stripe_list_Full.{DataStands, full_sector}
use Rattle.sb_safe_updates.specs.stripe_list_Writing.{IsFull, HasFull, StaysRebuilt, AreDataOf}
use Rattle.sb_safe_updates.proofs.stripe_list_FullLaws.{full-same}
use Rattle.sb_safe_updates.specs.crash_views_Views.{Ledger}
use Rattle.sb_safe_updates.specs.crash_safety_laws_Steady.{IsSafeNow, IsMoreTold}
use Rattle.sb_safe_updates.proofs.crash_safety_laws_Steady.{losing-stays-safe}
use Rattle.sb_safe_updates.specs.array_members_Placed.{IsPlaced}
use Rattle.sb_safe_updates.specs.array_members_Moving.{IsMoved}
use Rattle.sb_safe_updates.proofs.array_members_MemberLaws.{without-none}
use Rattle.sb_safe_updates.proofs.array_members_PutLists.{list-put, row-put, rebuilt-put}
use Rattle.sb_safe_updates.proofs.array_members_LackingWrites.{full-before, full-later, recovering-before}
use Rattle.sb_safe_updates.proofs.array_members_Fit.{valid}
use Rattle.sb_safe_updates.proofs.array_members_HeldRows.{held-moved}
use Rattle.sb_safe_updates.specs.crash_safety_laws_Marking.{AreOthersPresent}
use Rattle.sb_safe_updates.proofs.stripe_row_Losses.{holder-of}
use Rattle.stripe_delayed_store.specs.Stored.{with_write, DelayedWritesStaySafe, StoredRowsStand}

-- ---- a write that is only told

one-more : (b : Bool) (w v : Sector) (values : List Sector) → IsIn values v → IsIn (if b then w ∷ values else values) v
one-more true w v values has = inr has
one-more false w v values has = has

told-write : (covers : ℕ → Bool) (body : ℕ → Sector) (told : Ledger) → IsMoreTold told (with_write covers body told)
told-write covers body told = record {
  size = refl;
  values = λ x lt v has. one-more (covers x) (body x) v (told.values x) has;
  gone = λ role is. is;
  unclean = λ is. refl;
  reshaping = λ is. is;
  carried = λ slot number is. is;
}

pub delayed-safe : (sound : Type 0) → DelayedWritesStaySafe sound
delayed-safe sound scope given told covers body members d safe =
    subst (λ (m : Members). IsSafeNow sound scope given (with_write covers body told) m d) (without-none members)
    (losing-stays-safe sound scope given 0 told (with_write covers body told) members d (told-write covers body told) safe)

-- ---- a row that is stored

pub stored-stand : StoredRowsStand
stored-stand given old new before after row list stored stored' was moved others full stays is = record {
  stands = λ stands. list-put given old new moved was before after (λ r. r ≡ row) which others stored stored' same stands
      (λ r at below. subst (λ (n : ℕ). DataStands (reading_of new) after (shape_of old.newest) stored' n) (sym at) (λ role slot lt here held. there role slot lt held));
  good = λ whole. record {
    whole = λ x at. subst IsSector (sym (is.here x at)) (whole x at);
    sectors = λ role slot lt here held. there role slot lt held;
    parity = λ role slot lt here held. there role slot lt held;
  };
  rows = λ r ne stands. row-put given old new moved was before after (λ other. other ≡ row) which others stored stored' same r ne (λ x at. same r ne x at) stands;
  rebuilt = λ role slot r lt recovers had. elim (cases_eq r row) [
    | inl at ↦ subst (λ (n : ℕ). HasFull (reading_of new) after (shape_of old.newest) stored' n role slot) (sym at)
        (stays role slot lt recovers (subst (λ (k : ℕ). before slot k ≡ full_sector (shape_of old.newest) stored row role) (offset slot row)
        (subst (λ (n : ℕ). HasFull (reading_of old) before (shape_of old.newest) stored n role slot) at had)) ∙ alike role lt)
    | inr ne ↦ rebuilt-put given old new moved was before after (λ other. other ≡ row) which others stored stored' same role slot r ne lt recovers had
  ];
}
  where
    which : (r : ℕ) → (r ≡ row) ⊎ ((r ≡ row) → ⊥)
    which r = elim (cases_eq r row) [ inl at ↦ inl at | inr ne ↦ inr ne ]

    same : (r : ℕ) → ((r ≡ row) → ⊥) → (x : ℕ) → (place (shape_of old.newest) x).row ≡ r → stored' x ≡ stored x
    same r none x at = is.other x (λ e. none (sym at ∙ e))

    alike : (role : ℕ) → role < (shape_of old.newest).disks → full_sector (shape_of old.newest) list row role ≡ full_sector (shape_of old.newest) stored' row role
    alike role lt = full-same (shape_of old.newest) list stored' row (valid given old was) (λ x at. is.here x at) role lt

    there : (role slot : ℕ) → role < (shape_of old.newest).disks → held_slot (reading_of new) role row ≡ Some slot → after slot (data_offset_of (reading_of new) slot + row) ≡ full_sector (shape_of old.newest) stored' row role
    there role slot lt held = full role slot lt held ∙ alike role lt

    offset : (slot row : ℕ) → data_offset_of (reading_of old) slot + row ≡ data_offset_of (reading_of new) slot + row
    offset slot row = ap (λ (n : ℕ). n + row) (sym (moved.offsets slot))

-- ---- a list that has the row's bytes

abbrev pub list-of : Shape → List ℕ → ℕ → Sector
list-of shape bytes x = sector_of bytes (place shape x).role

pub list-of-is : (shape : Shape) (row : ℕ) (bytes : List ℕ) → AreDataOf shape (list-of shape bytes) row (sector_of bytes)
list-of-is shape row bytes x at = refl

-- ---- behind an update of the superblocks

pub full-stays : (given : Given) (mid new : Members) → IsMoved given mid new → IsPlaced given mid → (between after : Contents) → AreOthersPresent between after
    → (shape : Shape) (list : ℕ → Sector) (row : ℕ) → IsFull (reading_of mid) between shape list row → IsFull (reading_of new) after shape list row
full-stays given mid new moved was between after others shape list row full role slot lt held =
    full-later moved was others shape list row role slot (holder-of (reading_of new) role row slot held) (full role slot lt (held-moved moved role row slot held))

pub rebuilt-stays : (given : Given) (mid new : Members) → IsMoved given mid new → IsPlaced given mid → (before between after : Contents) → AreOthersPresent between after
    → (shape : Shape) (stored list : ℕ → Sector) (row : ℕ) → StaysRebuilt (reading_of mid) before between shape stored list row → StaysRebuilt (reading_of new) before after shape stored list row
rebuilt-stays given mid new moved was before between after others shape stored list row stays role slot lt is had =
    full-later moved was others shape list row role slot (ap holder is) (stays role slot lt (recovering-before moved role slot is) (full-before moved before shape stored row role slot had))
