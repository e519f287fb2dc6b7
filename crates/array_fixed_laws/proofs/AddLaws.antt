-- A slot that is made a spare, from what `add_member` leaves, or isn't; and a bank of which only counts of faults have risen.
use Rattle.std.specs.Prelude.{⊤}
use Rattle.std.proofs.Common.{◌≡◌, ◌≢◌, inl, ℕ, ◌+◌, ◌≤◌, true, false, Option, List, [], ◌∷◌, ◌++◌, length, refl, sym, ◌∙◌, ap₂, subst, arith}
use Rattle.array_fixed_invariant.specs.raid_types_Sectors.{Sector}
use Rattle.array_fixed_invariant.specs.raid_types_Shapes.{has_slot}
use Rattle.array_specs.specs.raid_types_the_Refusal.{Refusal}
use Rattle.array_specs.specs.raid_types_the_Refusal_TheVariants.{NoSuchSlot, SlotTaken, TooManyMissing, SlotTooSmall, SlotFault}
use Rattle.array_fixed_invariant.specs.raid_types_the_Who.{Who}
use Rattle.array_fixed_invariant.specs.bank_the_Operation.{Operation}
use Rattle.array_fixed_invariant.specs.bank_Given.{Given}
use Rattle.array_fixed_invariant.specs.bank_Tape.{IsIn, disk}
use Rattle.array_fixed_invariant.specs.sb_codec_the_Sb.{Sb}
use Rattle.array_fixed_invariant.specs.sb_specs_the_Members.{Members}
use Rattle.array_fixed_invariant.specs.sb_specs_Held.{IsSecondHalf}
use Rattle.array_fixed_invariant.specs.sb_specs_Reading.{Scope}
use Rattle.array_fixed_invariant.specs.sb_specs_Reads.{has_spare}
use Rattle.array_fixed_invariant.proofs.sb_specs_SlotSets.{none_there}
use Rattle.array_fixed_invariant.specs.history_the_Entry.{Entry}
use Rattle.array_fixed_invariant.specs.history_the_Event.{Event}
use Rattle.array_fixed_invariant.specs.history_the_Event_TheVariants.{Added, Refused}
use Rattle.array_fixed_invariant.specs.history_Epochs.{HasRoomForEvents}
use Rattle.array_fixed_invariant.specs.history_Flat.{next_number}
use Rattle.array_fixed_invariant.specs.history_Plain.{entries_of}
use Rattle.array_fixed_invariant.specs.history_Sound.{OpensFit}
use Rattle.array_fixed_invariant.specs.crash_safety_laws_Safety.{HasLiveSlot}
use Rattle.array_fixed_invariant.specs.array_members_the_Work.{Work}
use Rattle.array_fixed_invariant.specs.array_members_Flushing.{OnlyFlushesAdded}
use Rattle.array_fixed_invariant.specs.array_members_Lacking.{AreLostSince}
use Rattle.array_fixed_invariant.specs.array_members_Numbers.{bears, bearing, IsOfScope}
use Rattle.array_fixed_invariant.specs.array_members_Rebuilding.{IfOwn}
use Rattle.array_fixed_invariant.proofs.array_members_Flushed.{contents-added}
use Rattle.array_fixed_invariant.proofs.array_members_MarkedSafe.{added-longer, flushed-safe}
use Rattle.array_fixed_invariant.proofs.array_members_MovedLaws.{moved-same}
use Rattle.array_fixed_invariant.specs.history_append_Losing.{losses_of}
use Rattle.array_fixed_invariant.proofs.history_append_LosingLaws.{no-losses}
use Rattle.array_fixed_invariant.specs.array_call_specs_Kept.{scope_in}
use Rattle.array_fixed_invariant.specs.array_call_specs_Calls.{IsUnaddable}
use Rattle.array_fixed_invariant.proofs.array_call_laws_AddedKept.{AddsSafe}
use Rattle.array_fixed_invariant.proofs.array_call_laws_AddedNumbers.{told-anew}
use Rattle.array_fixed_invariant.proofs.array_call_laws_AddedLosses.{IsAddDone, stays-added, left-carried, left-refused}
use Rattle.array_fixed_invariant.specs.reshape_request_the_PhasesLeft.{PhasesLeft}
use Rattle.array_fixed_invariant.specs.history_invariant_Safe.{world_in, IsFilledRight, IsSafeHistory}
use Rattle.array_fixed_invariant.proofs.history_invariant_Records.{begins-going}
use Rattle.array_fixed_invariant.specs.Still.{IsStill}
use Rattle.array_fixed_invariant.proofs.Refusals.{IsRefusedStill}
use Rattle.array_fixed_invariant.proofs.Sparing.{added-stands, lost-stands, stands-anew}
use Rattle.array_fixed_invariant.proofs.Staying.{IsNamedStill, refused-stands}
use Rattle.array_specs.specs.Parts.{still_left}
use Rattle.array_specs.specs.Plans.{KeepsShape}
use Rattle.array_specs.proofs.Called.{not_254}
use Rattle.array_fixed_laws.specs.Plain.{IsPlainKept}
use Rattle.array_fixed_laws.specs.Ready.{IsReady}
use Rattle.array_fixed_laws.proofs.StepLaws.{shapes-moved, planned-same}

-- ---- why it isn't, before it is touched

pub unaddable-refused : (given : Given) (backup : Option ℕ) (slot : ℕ) (m : Members) (resync : Option ℕ) (refusal : Refusal) → IsUnaddable given backup slot m refusal → IsRefusedStill resync m refusal
unaddable-refused given backup slot m resync (NoSuchSlot asked) why = tt
unaddable-refused given backup slot m resync (SlotTaken taken) why = tt
unaddable-refused given backup slot m resync (SlotTooSmall have want) why = tt
unaddable-refused given backup slot m resync (TooManyMissing count most) why = why.2
unaddable-refused given backup slot m resync refusal why = absurd why

-- ---- where it fails at the first look

module _ {tells : Type 0} {given : Given} {tape tape' : List Operation} {scope : Scope} {first : ℕ} {entries : List Entry} {m : Members} {work : Work} {left : ℕ} (who : Who) (end slot : ℕ)
    (was : IsStill tells given tape scope first entries m work left) (live : HasLiveSlot m) (number : who.number ≡ next_number who.caller entries) (caller : who.caller ≢ 254) (at_end : tells → end ≡ length tape')
    (looked : tells → OnlyFlushesAdded tape tape') where
  none-lost : (role : ℕ) → has_slot 0 role ≡ true → ⊥
  none-lost role has = let clash : false ≡ true = sym (none_there role) ∙ has in cc

  named : IsNamedStill tells given tape tape' m m 0 0 (λ slot. 0) (λ slot. 0)
  named = record {
    moved = moved-same given given m m refl refl was.members_are.placed was.members_are.unlost;
    since = record {
      vacant = λ role lt is. inl is;
      gone = λ role has. absurd (none-lost role has);
      held = λ role has. absurd (none-lost role has);
      failed = λ spare has. absurd (none-lost spare has);
      were = λ spare has. absurd (none-lost spare has);
      told = λ spare has. inl has;
    };
    grows = record { more = λ t. ((looked t).0, (looked t).2) };
    clean = refl;
    rise = λ t. record { left = λ is. is; events = λ u is. (let longer = added-longer tape tape' (looked t) in omega (arith, longer)) };
    others = λ t s k apart. (λ i. contents-added given.start tape tape' (looked t) i s k);
    safe = λ t world told room gone unclean began. flushed-safe (OpensFit world) world.scope given told m tape tape' (looked t) began;
  }

  pub looked-refused : IsStill tells given tape' scope first (entries ++ entries_of who end (Refused (SlotFault slot) ∷ [])) m work left
  looked-refused =
      subst (λ (l : List Event). IsStill tells given tape' scope first (entries ++ entries_of who end (l ++ Refused (SlotFault slot) ∷ [])) m work left) no-losses
      (refused-stands tells given tape tape' scope first entries m m work left left who end 0 0 (λ slot. 0) (λ slot. 0) (SlotFault slot) was live (begins-going entries who number) (not_254 who.caller caller) at_end named
      (λ none. refl) tt)

-- ---- where its superblock is written

module _ {tells : Type 0} {given : Given} {tape mid_tape tape' : List Operation} {scope : Scope} {first : ℕ} {entries : List Entry} {old new : Members} {work : Work} (ahead : PhasesLeft)
    {slot : ℕ} {sb : Sb} {lost : ℕ} {before after : ℕ → ℕ} (who : Who) (end roles spares : ℕ) (was : IsStill tells given tape scope first entries old work (still_left work old ahead)) (live : HasLiveSlot old)
    (number : who.number ≡ next_number who.caller entries) (caller : who.caller ≢ 254) (at_end : tells → end ≡ length tape')
    (looked : tells → OnlyFlushesAdded tape mid_tape) (did : IsAddDone tells given slot sb old new lost mid_tape tape' before after) (since : AreLostSince old new roles spares before after)
    (of_scope : IsOfScope scope given slot sb) (unknown : (s : ℕ) → bears work s sb.dev_number ≡ false)
    (second : tells → (sector : Sector) → IsIn (disk given.start mid_tape slot 9) sector → IsSecondHalf sb sector) (safe : AddsSafe tells given slot sb old new mid_tape tape') where
  -- it is a spare, whose superblock bears its new number alone
  pub add-done : has_spare new.spares slot ≡ true → IfOwn new slot (λ own. (own.dev_number ≡ sb.dev_number) × (own.data_offset ≡ sb.data_offset))
      → IsStill tells given tape' scope first (entries ++ entries_of who end (losses_of roles spares ++ Added slot ∷ [])) new (bearing true slot sb.dev_number work) (still_left (bearing true slot sb.dev_number work) new ahead)
  add-done has stored =
      stands-anew tells given tape' scope first (entries ++ entries_of who end (losses_of roles spares ++ Added slot ∷ [])) new (bearing false slot sb.dev_number work) (bearing true slot sb.dev_number work).carried
      (still_left (bearing true slot sb.dev_number work) new ahead) (told-anew given new slot sb.dev_number sb work (let few = did.slots in let lt = did.there in omega (arith, few, lt)) (stays-added did was.members_are.still).free has stored refl)
      (added-stands tells given tape mid_tape tape' scope first entries old new work (still_left work old ahead) (still_left (bearing true slot sb.dev_number work) new ahead) slot sb lost before after who end roles spares was live
      (begins-going entries who number) (not_254 who.caller caller) at_end looked did since of_scope unknown second safe)

  -- it was lost in this
  pub add-lost : has_spare new.spares slot ≡ false
      → IsStill tells given tape' scope first (entries ++ entries_of who end (losses_of roles spares ++ Refused (SlotFault slot) ∷ [])) new (bearing false slot sb.dev_number work) (still_left (bearing false slot sb.dev_number work) new ahead)
  add-lost none =
      lost-stands tells given tape mid_tape tape' scope first entries old new work (still_left work old ahead) (still_left (bearing false slot sb.dev_number work) new ahead) slot sb lost before after who end roles spares was live
      (begins-going entries who number) (not_254 who.caller caller) at_end looked did since of_scope unknown second safe
      (λ quiet. ap₂ (λ (a b : ℕ). a + b) (left-carried work (bearing false slot sb.dev_number work).carried new ∙ left-refused did roles spares since work none quiet) (planned-same ahead (shapes-moved did.moved)))

-- ---- nothing was written

still-same : {tells : Type 0} {given : Given} {tape tape' : List Operation} {scope : Scope} {first : ℕ} {entries : List Entry} {m : Members} {work : Work} {left : ℕ} → (tells → tape' ≡ tape)
    → IsStill tells given tape scope first entries m work left → IsStill tells given tape' scope first entries m work left
still-same {tells = tells} {given = given} {tape' = tape'} {scope = scope} {first = first} {entries = entries} {m = m} {work = work} {left = left} same was = record {
  slots = was.slots;
  members_are = was.members_are;
  sizes_are = was.sizes_are;
  left_told = was.left_told;
  reshaping = was.reshaping;
  over = was.over;
  progress = was.progress;
  pending = λ t. (here t).pending t;
  dirty = was.dirty;
  levelled = λ t. (here t).levelled t;
  gone = λ t. (here t).gone t;
  full = λ t. (here t).full t;
  unclean = λ t. (here t).unclean t;
  recorded = λ t. (here t).recorded t;
  past = λ t. (here t).past t;
  listed = λ t. (here t).listed t;
  safe = λ t. subst (λ (l : List Operation). IsFilledRight (world_in given l scope first) entries → HasRoomForEvents (world_in given l scope first)
      → IsSafeHistory ⊤ (world_in given l scope first) given m (bears work) was.reshaping entries) (sym (same t)) (was.safe t);
}
  where
    here : tells → IsStill tells given tape' scope first entries m work left
    here t = subst (λ (l : List Operation). IsStill tells given l scope first entries m work left) (sym (same t)) was

pub ready-same : {tells : Type 0} {given given' : Given} {tape tape' : List Operation} {uuid : List ℕ} {slots : ℕ} {backup : Option ℕ} {first : ℕ} {entries : List Entry} {members : Members} {work : Work} {ahead : PhasesLeft} {limit : Option ℕ}
    {faults faults' : ℕ → ℕ} {steps room rows buffer far_rows far_buffer : ℕ} → given' ≡ given → (tells → tape' ≡ tape) → ((s : ℕ) → faults s ≤ faults' s)
    → IsReady tells given tape (scope_in given uuid slots backup) first entries members work ahead limit faults steps room rows buffer far_rows far_buffer
    → IsReady tells given' tape' (scope_in given' uuid slots backup) first entries members work ahead limit faults' steps room rows buffer far_rows far_buffer
ready-same {tells = tells} {given = given} {tape' = tape'} {uuid = uuid} {slots = slots} {backup = backup} {first = first} {entries = entries} {members = members} {work = work} {ahead = ahead} {limit = limit} {faults = faults} {faults' = faults'}
    {steps = steps} {room = room} {rows = rows} {buffer = buffer} {far_rows = far_rows} {far_buffer = far_buffer} known same rose was =
    subst (λ (g : Given). IsReady tells g tape' (scope_in g uuid slots backup) first entries members work ahead limit faults' steps room rows buffer far_rows far_buffer) (sym known) (record {
      kept = still-same same was.kept;
      sized = was.sized;
      limited = was.limited;
      planned = was.planned;
      failed = λ slot there lost. let before = was.failed slot there lost in let more = rose slot in omega (arith, before, more);
      room_left = was.room_left;
      rows_fit = was.rows_fit;
      buffer_fits = was.buffer_fits;
      far_rows_fit = was.far_rows_fit;
      far_buffer_fits = was.far_buffer_fits;
      plain = λ t keeps. subst (λ (l : List Operation). IsPlainKept (world_in given l (scope_in given uuid slots backup) first) members entries) (sym (same t))
          (was.plain t (subst (λ (l : List Operation). KeepsShape (world_in given l (scope_in given uuid slots backup) first) entries) (same t) keeps));
      plainly = was.plainly;
      ahead_told = was.ahead_told;
    })
