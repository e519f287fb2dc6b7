-- A write of an array without an active reshape, from what `write_listed` says of it.
use Rattle.std.proofs.Common.{◌≡◌, ◌⊎◌, inl, inr, ℕ, ◌+◌, ◌*◌, ◌/◌, ◌<◌, ◌≤◌, ◌==◌, Bool, true, false, Option, List, [], ◌++◌, length, refl, sym, ◌∙◌, ap₂, subst, arith}
use Rattle.std.specs.Prelude.{IsFalse}
use Rattle.std.proofs.lemmas.Bool.Decides.{nat_tests}
use Rattle.array_fixed_invariant.specs.raid_types_Sectors.{Sector, sectors_of}
use Rattle.array_fixed_invariant.specs.raid_types_Shapes.{data_disks}
use Rattle.array_specs.specs.raid_types_the_Refusal.{Refusal}
use Rattle.array_fixed_invariant.specs.raid_types_the_Who.{Who}
use Rattle.array_fixed_invariant.specs.raid_types_the_Shape.{Shape}
use Rattle.array_fixed_invariant.specs.raid_types_the_Role_TheVariants.{Recovering}
use Rattle.array_fixed_invariant.specs.bank_the_Operation.{Operation}
use Rattle.array_fixed_invariant.specs.bank_Given.{Given}
use Rattle.array_fixed_invariant.specs.bank_Tape.{Contents}
use Rattle.array_fixed_invariant.proofs.raid_layout_Places.{place-row_below}
use Rattle.array_fixed_invariant.specs.sb_specs_the_Members.{Members}
use Rattle.array_fixed_invariant.specs.sb_specs_Reading.{Scope, is_clean, shape_of, list_length, role_state}
use Rattle.array_fixed_invariant.specs.stripe_row_Rows.{reading_of, present}
use Rattle.array_fixed_invariant.specs.stripe_list_Buffers.{IsTouched}
use Rattle.array_fixed_invariant.specs.stripe_list_Full.{RowStands, AreWholeIn}
use Rattle.array_fixed_invariant.specs.stripe_list_Writing.{IsWritten, HasFull}
use Rattle.array_fixed_invariant.specs.history_the_Entry.{Entry}
use Rattle.array_fixed_invariant.specs.history_the_Event_TheVariants.{Refused}
use Rattle.array_fixed_invariant.specs.history_Legal.{visible_at}
use Rattle.array_fixed_invariant.specs.history_Losses.{unsettles}
use Rattle.array_fixed_invariant.specs.history_Plain.{entries_of}
use Rattle.array_fixed_invariant.specs.history_Sound.{OpensFit}
use Rattle.array_fixed_invariant.specs.history_World.{World}
use Rattle.array_fixed_invariant.specs.crash_views_Regions.{DoWithout}
use Rattle.array_fixed_invariant.specs.crash_views_Views.{Ledger, IsTailZero}
use Rattle.array_fixed_invariant.specs.crash_views_Windows.{IsOfRegion}
use Rattle.array_fixed_invariant.proofs.crash_views_Stands.{list-still}
use Rattle.array_fixed_invariant.specs.crash_safety_laws_Marking.{AreOthersPresent}
use Rattle.array_fixed_invariant.specs.crash_safety_laws_Safety.{HasRoomLeft, IsRisen}
use Rattle.array_fixed_invariant.specs.crash_safety_laws_Steady.{IsSafeOver, KeepsSafe, AreGoneTold, AreWritesAllowed}
use Rattle.array_fixed_invariant.specs.array_members_the_Work.{Work}
use Rattle.array_fixed_invariant.specs.array_members_Lacking.{AreLostSince, LacksTooMany, IsUnwritten, RowsStandBelow, DataStandsAmong, RowsStandAmong, AreOtherRowsKept, are_synced, synced_rows}
use Rattle.array_fixed_invariant.specs.array_members_Moving.{Grows, IsMoved}
use Rattle.array_fixed_invariant.specs.array_members_Placed.{AreWhole}
use Rattle.array_fixed_invariant.proofs.array_members_Fit.{valid, list-alike}
use Rattle.array_fixed_invariant.specs.history_append_Losing.{losses_of, failure_events}
use Rattle.array_fixed_invariant.proofs.array_call_specs_DegradedLaws.{pending-of}
use Rattle.array_fixed_invariant.proofs.array_call_laws_TouchedLaws.{safe-put, list-written, rows-written, rebuilt-written}
use Rattle.array_fixed_invariant.specs.history_invariant_Recorded.{IsCallGoing}
use Rattle.array_fixed_invariant.specs.history_invariant_Safe.{world_in}
use Rattle.array_fixed_invariant.specs.Still.{AreAtRest, IsStill}
use Rattle.array_fixed_invariant.proofs.Leaving.{rest-moved}
use Rattle.array_fixed_invariant.proofs.Stood.{mended-moved}
use Rattle.array_fixed_invariant.proofs.Writing.{IsPutStill, IsWrittenStill, unwritten-stands, torn-stands}
use Rattle.array_specs.proofs.Called.{risen-told}
use Rattle.array_fixed_invariant.proofs.array_call_laws_WriteLaws.{mended-multiple}
use Rattle.array_fixed_laws.proofs.Reading.{unwritten-still}

-- ---- rows whose parity is to be relied on

module _ (given : Given) (m : Members) (rest : AreAtRest given m) (resync : Option ℕ) (shape : Shape) (same : shape ≡ shape_of m.newest) (at count : ℕ) where
  -- sectors that end within those of the mended rows touch no other row
  touched-mended : (row : ℕ) → are_synced (shape_of m.newest) (synced_rows resync m) (at + count) ≡ true → IsTouched shape at count row → row < synced_rows resync m
  touched-mended row mended touched =
      let here = subst (λ (s : Shape). IsTouched s at count row) same touched in
      let all : at + count ≤ data_disks (shape_of m.newest) * synced_rows resync m = grind (arith, nat_tests, mended) in
      let below : here.0 < data_disks (shape_of m.newest) * synced_rows resync m = let last = here.2 in omega (arith, all, last) in
      subst (λ (r : ℕ). r < synced_rows resync m) here.3
      (place-row_below (shape_of m.newest) (valid given m rest.placed) here.0 (synced_rows resync m) (mended-multiple given m rest.placed resync) below)

  -- those that it touches stand, where they are synced
  pub synced-rows : (new : Members) (synced : Bool) → synced ≡ are_synced (shape_of m.newest) (synced_rows resync m) (at + count) → (c : Contents) (list : ℕ → Sector)
      → AreWhole new ⊎ RowsStandBelow (synced_rows resync m) m c list → synced ≡ true → AreWhole new ⊎ RowsStandAmong shape (IsTouched shape at count) m c list
  synced-rows new synced asked c list (inl whole) is = inl whole
  synced-rows new synced asked c list (inr below) is = inr (λ row touched low.
      subst (λ (s : Shape). RowStands (reading_of m) c s list row) (sym same) (below row (touched-mended row (sym asked ∙ is) touched) low))

-- ---- what it leaves

module _ (given : Given) (tape tape' : List Operation) (old new : Members) (rest : AreAtRest given old) (moved : IsMoved given old new) (resync : Option ℕ)
    (shape : Shape) (same : shape ≡ shape_of old.newest) (at : ℕ) (from : List ℕ) (synced : Bool) (asked : synced ≡ are_synced (shape_of old.newest) (synced_rows resync old) (at + length from / 512)) where
  abbrev AreSynced : (ℕ → Sector) → Type 0
  AreSynced list = synced ≡ true → AreWhole new ⊎ RowsStandAmong shape (IsTouched shape at (length from / 512)) old (present given tape) list

  pub put-still : {tells : Type 0} {roles spares : ℕ} {before after : ℕ → ℕ} {begun : Bool} → AreLostSince old new roles spares before after → Grows tells tape tape' → (is_clean old.newest ≡ false → is_clean new.newest ≡ false) → IsRisen tells old new tape tape'
      → (tells → (world : World) → (told : Ledger) → HasRoomLeft old tape tape' → AreGoneTold told new → told.unclean ≡ true → (list list' : ℕ → Sector) → IsWritten list list' at from
      → DataStandsAmong shape (IsTouched shape at (length from / 512)) old (present given tape) list → AreSynced list → IsOfRegion old shape (IsTouched shape at (length from / 512))
      → (begun ≡ true → AreWritesAllowed old told.values list') → (OpensFit world → IsTailZero old.newest list') → IsSafeOver world given told old tape → KeepsSafe world given told new tape tape')
      → IsPutStill tells given tape tape' old new roles spares before after (synced_rows resync old) at from begun
  put-still since grows stays rise safe = record {
    moved = moved;
    since = since;
    grows = grows;
    stays = stays;
    rise = risen-told rise;
    safe = λ t world told room gone unclean list list' written stands filled allowed began.
        safe-put given old new moved rest.placed shape same at (length from / 512) from synced tape tape' rest.still safe t world told room gone unclean list list' written stands
        (synced-rows given old rest resync shape same at (length from / 512) new synced asked (present given tape) list filled) allowed began;
  }

  pub written-still : {tells : Type 0} → is_clean new.newest ≡ false → (tells → AreOtherRowsKept (IsTouched shape at (length from / 512)) (reading_of new) (present given tape) (present given tape'))
      → (tells → (list list' : ℕ → Sector) → IsWritten list list' at from → DataStandsAmong shape (IsTouched shape at (length from / 512)) old (present given tape) list
      → DataStandsAmong shape (IsTouched shape at (length from / 512)) new (present given tape') list')
      → (tells → (list list' : ℕ → Sector) → IsWritten list list' at from → DataStandsAmong shape (IsTouched shape at (length from / 512)) old (present given tape) list → AreSynced list
      → (row : ℕ) → IsTouched shape at (length from / 512) row → row < old.newest.size → AreWholeIn shape list row → RowStands (reading_of new) (present given tape') shape list' row)
      → (tells → (list list' : ℕ → Sector) → IsWritten list list' at from → DataStandsAmong shape (IsTouched shape at (length from / 512)) old (present given tape) list → AreSynced list
      → (role slot row : ℕ) → role < shape.disks → role_state (reading_of new) role ≡ Recovering slot → IsTouched shape at (length from / 512) row → row < old.newest.size
      → HasFull (reading_of old) (present given tape) shape list row role slot → HasFull (reading_of new) (present given tape') shape list' row role slot)
      → IsWrittenStill tells given tape tape' old new (synced_rows resync old) at from
  written-still dirty others put good rebuilt = record {
    dirty = dirty;
    put = list-written given old new moved rest.placed shape same at (length from / 512) from synced tape tape' (omega arith) others put;
    good = λ t list list' written stands below row mended low.
        let size : row < old.newest.size = subst (λ (n : ℕ). row < n) moved.size low in
        let stood = subst (λ (s : Shape). RowStands (reading_of old) (present given tape) s list row) (sym same) (below row mended size) in
        subst (λ (s : Shape). RowStands (reading_of new) (present given tape') s list' row) (same ∙ sym moved.shape)
        (rows-written given old new moved rest.placed shape same at (length from / 512) from synced tape tape' (omega arith) others good t list list' written stands
        (synced-rows given old rest resync shape same at (length from / 512) new synced asked (present given tape) list (inr below)) row size stood.whole (inr stood));
    rebuilt = λ t list list' written stands below role slot row lt is low full.
        subst (λ (s : Shape). HasFull (reading_of new) (present given tape') s list' row role slot) same
        (rebuilt-written given old new moved rest.placed shape same at (length from / 512) from synced tape tape' (omega arith) others rebuilt t list list' written stands
        (synced-rows given old rest resync shape same at (length from / 512) new synced asked (present given tape) list (inr below)) role slot row
        (subst (λ (s : Shape). role < s.disks) (sym same) lt) is low (subst (λ (s : Shape). HasFull (reading_of old) (present given tape) s list row role slot) (sym same) full));
  }

-- ---- one that wasn't done

pub failed-stands : {tells : Type 0} {given : Given} {tape tape' : List Operation} {scope : Scope} {first : ℕ} {entries : List Entry} {old new : Members} {work : Work} {left roles spares : ℕ} {before after : ℕ → ℕ}
    (left' : ℕ) (who : Who) (end : ℕ) (shape : Shape) (at : ℕ) (from : List ℕ) (synced begun : Bool) (refusal : Refusal)
    → IsStill tells given tape scope first entries old work left → DoWithout old → IsCallGoing entries who → IsFalse (who.caller == 254) → (tells → end ≡ length tape') → (losses_of roles spares ≡ [] → left' ≡ left)
    → shape ≡ shape_of old.newest → synced ≡ are_synced (shape_of old.newest) (synced_rows work.resync old) (at + length from / 512) → at + length from / 512 ≤ list_length old.newest
    → (tells → at + length from / 512 ≤ visible_at (world_in given tape scope first) entries) → IsPutStill tells given tape tape' old new roles spares before after (synced_rows work.resync old) at from begun
    → IsUnwritten shape synced new refusal → (begun ≡ true → LacksTooMany shape new refusal) → (begun ≡ false → tells → AreOthersPresent (present given tape) (present given tape'))
    → IsStill tells given tape' scope first (entries ++ entries_of who end (failure_events roles spares begun at (sectors_of from) refusal)) new work left'
failed-stands {tells = tells} {given = given} {tape = tape} {tape' = tape'} {scope = scope} {first = first} {entries = entries} {old = old} {new = new} {work = work} {left = left} {roles = roles} {spares = spares} {before = before} {after = after}
    left' who end shape at from synced begun refusal was does goes caller at_end alike same asked within seen did why lacks others = by begun refl
  where
    in_new : shape ≡ shape_of new.newest
    in_new = same ∙ sym did.moved.shape

    why-new : IsUnwritten (shape_of new.newest) (are_synced (shape_of new.newest) (synced_rows work.resync new) (at + length from / 512)) new refusal
    why-new = subst (λ (b : Bool). IsUnwritten (shape_of new.newest) b new refusal)
        (asked ∙ ap₂ (λ (s : Shape) (n : ℕ). are_synced s n (at + length from / 512)) (sym did.moved.shape) (sym (mended-moved did.moved work.resync)))
        (subst (λ (s : Shape). IsUnwritten s synced new refusal) in_new why)

    dirty : IsUnwritten shape synced new refusal → (is_clean old.newest ≡ false) ⊎ (unsettles (Refused refusal) ≡ true)
    dirty (inl many) = inr (subst (λ (r : Refusal). unsettles (Refused r) ≡ true) (sym many.told) refl)
    dirty (inr found) = inl (was.dirty does (pending-of old work.resync (at + length from / 512) (subst (λ (n : ℕ). at + length from / 512 ≤ n) (list-still old.newest was.members_are.still) within) (sym asked ∙ found.2)))

    by : (b : Bool) → begun ≡ b → IsStill tells given tape' scope first (entries ++ entries_of who end (failure_events roles spares b at (sectors_of from) refusal)) new work left'
    by true is = torn-stands tells given tape tape' scope first entries old new work left left' who end roles spares before after at from begun was does goes caller at_end alike within seen did refusal
        (inl (subst (λ (s : Shape). LacksTooMany s new refusal) in_new (lacks is)))
    by false is = unwritten-stands tells given tape tape' scope first entries old new work left left' who end roles spares before after at from begun was does goes caller at_end alike within seen did refusal is
        (unwritten-still given new (rest-moved given old new did.moved was.members_are) work.resync (at + length from / 512) refusal
        (subst (λ (n : ℕ). at + length from / 512 ≤ n) (sym (list-alike old.newest new.newest did.moved.reshape did.moved.shape did.moved.size)) within) why-new)
        (dirty why) (others is)
