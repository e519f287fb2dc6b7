-- A slot that is made a spare: it may be one now, or was lost in this.
use Rattle.std.proofs.Common.{◌≡◌, inl, inr, ℕ, ◌/◌, ◌<◌, ◌≤◌, ◌==◌, false, Option, Some, None, List, [], ◌∷◌, ◌++◌, length, refl, sym, ◌∙◌, subst, arith}
use Rattle.std.specs.Prelude.{IsFalse, IfSome, ⊤}
use Rattle.array_reshaping_invariant.specs.raid_types_Sectors.{Sector}
use Rattle.array_call_laws.specs.raid_types_the_Refusal_TheVariants.{SlotFault}
use Rattle.array_reshaping_invariant.specs.raid_types_the_Who.{Who}
use Rattle.array_reshaping_invariant.specs.bank_the_Operation.{Operation}
use Rattle.array_reshaping_invariant.specs.bank_Given.{Given}
use Rattle.array_reshaping_invariant.specs.bank_Tape.{Contents, IsIn, disk}
use Rattle.array_reshaping_invariant.specs.sb_codec_the_Sb.{Sb}
use Rattle.array_reshaping_invariant.specs.sb_specs_the_Members.{Members}
use Rattle.array_reshaping_invariant.specs.sb_specs_Held.{IsSecondHalf}
use Rattle.array_reshaping_invariant.specs.sb_specs_Reading.{Scope, shape_of, role_state, holder}
use Rattle.array_reshaping_invariant.specs.stripe_row_Rows.{reading_of, present}
use Rattle.array_reshaping_invariant.specs.history_the_Entry.{Entry}
use Rattle.array_reshaping_invariant.specs.history_the_Event.{Event}
use Rattle.array_reshaping_invariant.specs.history_the_Event_TheVariants.{Added, Refused}
use Rattle.array_reshaping_invariant.specs.history_Flat.{now}
use Rattle.array_reshaping_invariant.specs.history_Legal.{told_left, IsLegalEvent}
use Rattle.array_reshaping_invariant.specs.history_Plain.{entries_of}
use Rattle.array_reshaping_invariant.specs.history_Sound.{OpensFit}
use Rattle.array_reshaping_invariant.specs.history_World.{opening_list}
use Rattle.array_reshaping_invariant.specs.crash_views_Regions.{DoWithout}
use Rattle.array_reshaping_invariant.specs.crash_views_Views.{Ledger}
use Rattle.array_reshaping_invariant.specs.crash_safety_laws_Carried.{AreToldAnew}
use Rattle.array_reshaping_invariant.specs.crash_safety_laws_Marking.{AreOthersPresent}
use Rattle.array_reshaping_invariant.specs.crash_safety_laws_Safety.{HasLiveSlot, HasRoomLeft, IsRisen}
use Rattle.array_reshaping_invariant.specs.crash_safety_laws_Steady.{IsMoreTold, IsSafeOver, KeepsSafe, AreGoneTold, IsUncleanTold, with_number}
use Rattle.array_reshaping_invariant.specs.array_members_the_Work.{Work}
use Rattle.array_reshaping_invariant.specs.array_members_Flushing.{OnlyFlushesAdded}
use Rattle.array_reshaping_invariant.specs.array_members_Lacking.{AreLostSince, RowsStandBelow, synced_rows}
use Rattle.array_reshaping_invariant.specs.array_members_Moving.{Grows}
use Rattle.array_reshaping_invariant.specs.array_members_Numbers.{bears, bearing, IsOfScope}
use Rattle.array_reshaping_invariant.specs.array_members_Rebuilding.{with_spare}
use Rattle.array_reshaping_invariant.specs.array_members_Status.{stripes_of}
use Rattle.array_reshaping_invariant.proofs.array_members_AddedRows.{list-with, among-with, rebuilt-with}
use Rattle.array_reshaping_invariant.proofs.history_append_BearerLaws.{bears-more}
use Rattle.array_reshaping_invariant.proofs.array_members_Flushed.{contents-added}
use Rattle.array_reshaping_invariant.proofs.array_members_HeldRows.{missing-before, vacant-missing}
use Rattle.array_reshaping_invariant.proofs.array_members_MarkedSafe.{added-longer, flushed-safe}
use Rattle.array_reshaping_invariant.proofs.array_members_MovedLaws.{grows-then}
use Rattle.array_reshaping_invariant.proofs.array_members_SafeStretch.{safe-then}
use Rattle.array_reshaping_invariant.specs.history_append_Losing.{losses_of}
use Rattle.array_reshaping_invariant.proofs.history_append_CallLaws.{losses-are}
use Rattle.array_reshaping_invariant.proofs.array_call_specs_DegradedLaws.{count-moved}
use Rattle.array_reshaping_invariant.proofs.array_call_specs_KeptLaws.{left-lost}
use Rattle.array_call_laws.proofs.AddedKept.{AddsSafe}
use Rattle.array_call_laws.proofs.AddedNumbers.{told-with}
use Rattle.array_call_laws.proofs.AddedLosses.{IsAddDone, with-placed, stays-added, does-added, left-added}
use Rattle.array_reshaping_invariant.specs.history_invariant_Recorded.{IsCallGoing, entry_of}
use Rattle.array_reshaping_invariant.specs.history_invariant_Safe.{world_in, IsFilledRight}
use Rattle.array_reshaping_invariant.proofs.history_invariant_Anew.{history-anew}
use Rattle.array_reshaping_invariant.proofs.history_invariant_laws_Behind.{AreLostOrMissing, IsAmong, early-losses, legal-losses}
use Rattle.array_reshaping_invariant.proofs.history_invariant_laws_Quiet.{IsQuiet, LeavesNumbers, stretch-more}
use Rattle.array_fixed_invariant.specs.Still.{AreAtRest, HasListStood, IsStill}
use Rattle.array_fixed_invariant.proofs.Quiet.{placed-stands}
use Rattle.array_fixed_invariant.proofs.Stood.{stood-moved}

-- ---- the number

-- with the number no more is told than is by the work that knows it
with-told : (slot number : ℕ) (work : Work) (was told : Ledger) → slot < 32 → IsMoreTold was told → ((s n : ℕ) → told.carried s n ≡ bears (bearing false slot number work) s n) → IsMoreTold (with_number slot number was) told
with-told slot number work was told below less knows = record {
  size = less.size;
  values = less.values;
  gone = less.gone;
  unclean = less.unclean;
  reshaping = less.reshaping;
  carried = λ s n is. knows s n ∙ told-with slot number work s n (was.carried s n) below (λ before. sym (knows s n) ∙ less.carried s n before) is;
}

-- ---- the list

-- as many rows are mended
mended-with : (m : Members) (slot : ℕ) (sb : Sb) (resync : Option ℕ) → synced_rows resync (with_spare slot sb m) ≡ synced_rows resync m
mended-with m slot sb None = refl
mended-with m slot sb (Some mended) = refl

stood-with : (sound : Type 0) (work : Work) (m : Members) (slot : ℕ) (sb : Sb) (c : Contents) (list : ℕ → Sector) → ((role : ℕ) → holder (role_state (reading_of m) role) ≡ Some slot → ⊥)
    → HasListStood sound work m c list → HasListStood sound work (with_spare slot sb m) c list
stood-with sound work m slot sb c list unheld l = record {
  stands = list-with m slot sb unheld c list l.stands;
  whole = l.whole;
  rows = λ so. subst (λ (n : ℕ). RowsStandBelow n (with_spare slot sb m) c list) (sym (mended-with m slot sb work.resync))
      (among-with m slot sb unheld (shape_of m.newest) (λ row. row < synced_rows work.resync m) c list (l.rows so));
  rebuilt = λ so. rebuilt-with m slot sb unheld work c list (l.rebuilt so);
}

-- ---- the call

module _ (tells : Type 0) (given : Given) (tape mid_tape tape' : List Operation) (scope : Scope) (first : ℕ) (entries : List Entry) (old new : Members) (work : Work) (left left' : ℕ)
    (slot : ℕ) (sb : Sb) (lost : ℕ) (before after : ℕ → ℕ) (who : Who) (end roles spares : ℕ)
    (was : IsStill tells given tape scope first entries old work left) (live : HasLiveSlot old) (goes : IsCallGoing entries who) (caller : IsFalse (who.caller == 254)) (at_end : tells → end ≡ length tape')
    (looked : tells → OnlyFlushesAdded tape mid_tape) (did : IsAddDone tells given slot sb old new lost mid_tape tape' before after) (since : AreLostSince old new roles spares before after)
    (of_scope : IsOfScope scope given slot sb) (unknown : (s : ℕ) → bears work s sb.dev_number ≡ false)
    (second : tells → (sector : Sector) → IsIn (disk given.start mid_tape slot 9) sector → IsSecondHalf sb sector) (safe : AddsSafe tells given slot sb old new mid_tape tape') where
  below : slot < 32
  below = let few = did.slots in let lt = did.there in omega (arith, few, lt)

  grows : Grows tells tape tape'
  grows = grows-then (record { more = λ t. ((looked t).0, (looked t).2) }) did.grows

  others : tells → AreOthersPresent (present given tape) (present given tape')
  others t s k apart = did.others t s k apart ∙ (λ i. contents-added given.start tape mid_tape (looked t) i s k)

  rest : AreAtRest given new
  rest =
      let stays = stays-added did was.members_are.still in
      record { placed = stays.placed; still = stays.still; unlost = stays.unlost; free = stays.free; spares = stays.spares }

  missing : AreLostOrMissing old new (IsAmong roles)
  missing role lt gone = elim (missing-before did.moved role gone) [
    | inl was_gone ↦ inl (subst (λ (n : ℕ). role < n) (count-moved did.moved) lt, was_gone)
    | inr vacant ↦ elim (since.vacant role lt vacant) [
      | inl was_vacant ↦ inl (subst (λ (n : ℕ). role < n) (count-moved did.moved) lt, vacant-missing (reading_of old) role was_vacant)
      | inr has ↦ inr has
    ]
  ]

  -- each mark is safe, with the number
  keeps : (t : tells) (before_told told : Ledger) → IsMoreTold before_told told → ((s n : ℕ) → before_told.carried s n ≡ bears work s n) → ((s n : ℕ) → told.carried s n ≡ bears (bearing false slot sb.dev_number work) s n)
      → HasRoomLeft old tape tape' → AreGoneTold before_told new → IsUncleanTold before_told old
      → IsSafeOver (world_in given tape scope first) given before_told old tape → KeepsSafe (world_in given tape scope first) given told new tape tape'
  keeps t before_told told less knew knows room gone unclean began =
      let world = world_in given tape scope first in
      let flushed = flushed-safe (OpensFit world) scope given before_told old tape mid_tape (looked t) began in
      let longer = added-longer tape mid_tape (looked t) in
      let done = safe t world before_told (λ some. let r = room some in omega (arith, r, longer)) gone unclean of_scope (λ s. knew s sb.dev_number ∙ unknown s) (second t) live flushed.next in
      safe-then (OpensFit world) scope given told old new tape mid_tape tape'
      (stretch-more (OpensFit world) scope given before_told told old tape mid_tape less flushed)
      (stretch-more (OpensFit world) scope given (with_number slot sb.dev_number before_told) told new mid_tape tape' (with-told slot sb.dev_number work before_told told below less knows) done)

  rise : tells → IsRisen ⊤ old new tape tape'
  rise t = record {
    left = λ more. live;
    events = λ u more. let risen = did.rise.events t more in let longer = added-longer tape mid_tape (looked t) in omega (arith, risen, longer);
  }

  listed : tells → DoWithout new → IsFilledRight (world_in given tape scope first) entries
      → HasListStood (OpensFit (world_in given tape scope first)) (bearing false slot sb.dev_number work) new (present given tape') (now (opening_list (world_in given tape scope first)) entries)
  listed t can fills =
      let l = stood-moved (OpensFit (world_in given tape scope first)) work given (with_spare slot sb old) new (present given tape) (present given tape') (now (opening_list (world_in given tape scope first)) entries) did.moved (with-placed did) (others t)
      (stood-with (OpensFit (world_in given tape scope first)) work old slot sb (present given tape) (now (opening_list (world_in given tape scope first)) entries) (λ role held. did.untaken role (inl held)) (was.listed t (does-added did can) fills)) in
      record { stands = l.stands; whole = l.whole; rows = l.rows; rebuilt = l.rebuilt }

  -- an event behind its losses that is legal wherever it stands
  spared : (event : Event) → IsQuiet event → IfSome (told_left (entries ++ entries_of who end (losses_of roles spares ++ event ∷ []))) (λ n. n ≡ left')
      → (tells → IsLegalEvent (world_in given tape' scope first) (entries ++ entries_of who end (losses_of roles spares)) (entry_of who end event) [] event)
      → IsStill tells given tape' scope first (entries ++ entries_of who end (losses_of roles spares ++ event ∷ [])) new (bearing false slot sb.dev_number work) left'
  spared event quiet told legal =
      placed-stands tells given tape tape' scope first entries old new work (bearing false slot sb.dev_number work) left left' who end (losses_of roles spares) (IsAmong roles) event was live goes caller at_end grows quiet rest
      (stays-added did was.members_are.still).shape (stays-added did was.members_are.still).size (does-added did) (early-losses roles spares) missing did.clean (bears-more slot sb.dev_number work) refl (progress work.resync was.progress) told listed call
    where
      progress : (o : Option ℕ) → IfSome o (λ mended. mended ≤ stripes_of old) → IfSome o (λ mended. mended ≤ stripes_of new)
      progress None is = tt
      progress (Some mended) is = subst (λ (n : ℕ). mended ≤ n) (λ i. sym ((stays-added did was.members_are.still).size) i / (sym ((stays-added did was.members_are.still).shape) i).chunk) is

      call : tells → LeavesNumbers given tape scope first entries old new (bears work) (bears (bearing false slot sb.dev_number work)) false who (losses_of roles spares) (event ∷ []) tape' end
      call t = record {
        rise = rise t;
        keeps = λ before_told told_so fills more less knew knows room gone unclean began. keeps t before_told told_so less knew knows room gone unclean began;
        legal = λ all fills gone level. legal-losses (world_in given tape' scope first) entries who end (losses_of roles spares) (event ∷ []) (losses-are roles spares) (legal t, tt, tt);
      }

  -- a new spare: any number of steps may be left then
  pub added-stands : IsStill tells given tape' scope first (entries ++ entries_of who end (losses_of roles spares ++ Added slot ∷ [])) new (bearing false slot sb.dev_number work) left'
  added-stands = spared (Added slot) (record { adds = refl; gives = refl; ends = refl; still = λ x values. refl; level = λ n. refl; other = refl }) (left-added left' entries who end slot (losses_of roles spares) (losses-are roles spares)) (λ t. tt)

  -- one that was lost in this
  pub lost-stands : (losses_of roles spares ≡ [] → left' ≡ left)
      → IsStill tells given tape' scope first (entries ++ entries_of who end (losses_of roles spares ++ Refused (SlotFault slot) ∷ [])) new (bearing false slot sb.dev_number work) left'
  lost-stands alike = spared (Refused (SlotFault slot)) (record { adds = refl; gives = refl; ends = refl; still = λ x values. refl; level = λ n. refl; other = refl })
      (left-lost left left' entries who end (losses_of roles spares) (Refused (SlotFault slot) ∷ []) (losses-are roles spares) alike was.left_told (λ told is. is)) (λ t. tt)

-- ---- the number of a new spare

-- the device numbers that slots may bear may be told anew
pub stands-anew : (tells : Type 0) (given : Given) (tape : List Operation) (scope : Scope) (first : ℕ) (entries : List Entry) (m : Members) (work : Work) (carried : List ℕ) (left : ℕ)
    → AreToldAnew m (bears work) (bears (record work { carried = carried })) → IsStill tells given tape scope first entries m work left → IsStill tells given tape scope first entries m (record work { carried = carried }) left
stands-anew tells given tape scope first entries m work carried left anew was = record {
  slots = was.slots;
  members_are = was.members_are;
  sizes_are = was.sizes_are;
  left_told = was.left_told;
  reshaping = was.reshaping;
  over = was.over;
  progress = was.progress;
  pending = was.pending;
  dirty = was.dirty;
  levelled = was.levelled;
  gone = was.gone;
  full = was.full;
  unclean = was.unclean;
  recorded = was.recorded;
  past = was.past;
  listed = λ t can fills. let l = was.listed t can fills in record { stands = l.stands; whole = l.whole; rows = l.rows; rebuilt = l.rebuilt };
  safe = λ t fills room. history-anew ⊤ (world_in given tape scope first) given m (bears work) (bears (record work { carried = carried })) was.reshaping entries anew (was.safe t fills room);
}
