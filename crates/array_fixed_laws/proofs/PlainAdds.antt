-- What an array keeps of a history of one shape, by a role that is failed by command, and by a slot that is made a spare, or isn't.
use Rattle.std.proofs.Common.{◌≡◌, ◌≢◌, ◌⊎◌, inl, inr, ℕ, ◌<◌, ◌≤◌, ◌==◌, ◌||◌, Bool, true, false, cond, nat_lt, Option, Some, None, List, [], ◌∷◌, ◌++◌, length, refl, sym, ◌∙◌, ap, subst, arith}
use Rattle.std.specs.Prelude.{IsTrue}
use Rattle.std.specs.List.{list_any}
use Rattle.std.proofs.lemmas.Bool.Decides.{nat_tests}
use Rattle.std.proofs.lemmas.List.Elements.{All-nil, All-cons}
use Rattle.std.proofs.lemmas.List.Folds.{list_any-append}
use Rattle.array_fixed_invariant.specs.raid_types_Shapes.{has_slot}
use Rattle.array_specs.specs.raid_types_the_Refusal.{Refusal}
use Rattle.array_specs.specs.raid_types_the_Refusal_TheVariants.{NoSuchSlot, SlotTaken, TooManyMissing, SlotTooSmall, SlotFault}
use Rattle.array_fixed_invariant.specs.raid_types_the_Who.{Who}
use Rattle.array_fixed_invariant.specs.bank_the_Operation.{Operation}
use Rattle.array_fixed_invariant.specs.bank_Given.{Given, Sizes}
use Rattle.array_fixed_invariant.specs.sb_codec_the_Sb.{Sb}
use Rattle.array_fixed_invariant.specs.sb_specs_the_Members.{Members}
use Rattle.array_fixed_invariant.specs.sb_specs_Reading.{Scope, role_count, is_backup}
use Rattle.array_fixed_invariant.specs.sb_specs_Reads.{has_spare}
use Rattle.array_fixed_invariant.proofs.sb_specs_ValidFields.{few-roles}
use Rattle.array_fixed_invariant.specs.stripe_row_Rows.{reading_of, is_missing}
use Rattle.array_fixed_invariant.specs.history_the_Entry.{Entry}
use Rattle.array_fixed_invariant.specs.history_the_Event.{Event}
use Rattle.array_fixed_invariant.specs.history_the_Event_TheVariants.{Lost, Failed, Added, Refused}
use Rattle.array_fixed_invariant.specs.history_the_LostCause_TheVariants.{Command}
use Rattle.array_fixed_invariant.specs.history_OneShape.{opening_in, is_lost, is_gone_now, is_spare_now, adds_slot, IsTakenNow, IsTooSmallNow}
use Rattle.array_fixed_invariant.specs.history_Plain.{loses_role, entries_of}
use Rattle.array_fixed_invariant.specs.history_Sound.{LosesNoRole}
use Rattle.array_fixed_invariant.proofs.history_laws_OneShapeGrowing.{IsOneShapeCall, call-faults, call-fails}
use Rattle.array_fixed_invariant.specs.array_members_the_Work.{Work}
use Rattle.array_fixed_invariant.specs.array_members_Flushing.{OnlyFlushesAdded}
use Rattle.array_fixed_invariant.specs.array_members_Lacking.{AreLostSince}
use Rattle.array_fixed_invariant.specs.array_members_Moving.{Grows, IsMoved}
use Rattle.array_fixed_invariant.specs.array_members_Placed.{is_unassigned}
use Rattle.array_fixed_invariant.specs.array_members_Rebuilding.{MayHold}
use Rattle.array_fixed_invariant.proofs.array_members_Fit.{valid}
use Rattle.array_fixed_invariant.proofs.array_members_HeldRows.{missing-before, missing-moved, vacant-missing}
use Rattle.array_fixed_invariant.proofs.array_members_MovedLaws.{grows-none, grows-then}
use Rattle.array_fixed_invariant.specs.history_append_Losing.{losses_of}
use Rattle.array_fixed_invariant.proofs.history_append_CallLaws.{GivesNone, losses-are, gives-losses, told-losses, all-losses}
use Rattle.array_fixed_invariant.proofs.history_append_LosingLaws.{entries-both}
use Rattle.array_fixed_invariant.proofs.history_append_PlainLaws.{one}
use Rattle.array_fixed_invariant.proofs.history_append_StepLaws.{faults-are}
use Rattle.array_fixed_invariant.specs.array_call_specs_Calls.{IsTaken, IsUnaddable}
use Rattle.array_fixed_invariant.specs.array_call_specs_Kept.{AreTold, AreOnlyTold}
use Rattle.array_fixed_invariant.proofs.array_call_specs_DegradedLaws.{count-moved, too-many-here}
use Rattle.array_fixed_invariant.proofs.array_call_specs_OnlyLaws.{MakeSpares, TellsOnly, either, lost-among, gone-or, spare-both, moved-held, gone-behind-losses, spares-behind-losses, added-makes}
use Rattle.array_fixed_invariant.proofs.array_call_specs_RecordLaws.{told-more, gone-lately}
use Rattle.array_fixed_invariant.proofs.array_call_laws_AddedLosses.{IsAddDone, told-added, spares-added}
use Rattle.array_fixed_invariant.proofs.array_call_laws_AddLaws.{lowest}
use Rattle.array_fixed_invariant.specs.reshape_request_the_PhasesLeft.{PhasesLeft}
use Rattle.array_fixed_invariant.specs.history_invariant_Recorded.{IsCallGoing}
use Rattle.array_fixed_invariant.specs.history_invariant_Safe.{world_in}
use Rattle.array_fixed_laws.specs.Plain.{MayTellPlainly, IsPlainKept}
use Rattle.array_specs.specs.Parts.{visible_size}
use Rattle.array_fixed_laws.specs.Ready.{IsReady}
use Rattle.array_fixed_laws.proofs.Plain.{IsLeftPlain, plain-called}
use Rattle.array_fixed_laws.proofs.PlainBehind.{refused-plain, here-plain}

-- ---- a role is failed: its slot is taken out first, and others may be lost in the update that names it

module _ {tells : Type 0} {given : Given} {tape tape' : List Operation} {scope : Scope} {first : ℕ} {entries : List Entry} {old mid new : Members} {work : Work} {ahead : PhasesLeft} {limit : Option ℕ} {faults : ℕ → ℕ}
    {steps room rows buffer far_rows far_buffer roles spares : ℕ} {before after : ℕ → ℕ} (was : IsReady tells given tape scope first entries old work ahead limit faults steps room rows buffer far_rows far_buffer)
    (who : Who) (end : ℕ) (goes : IsCallGoing entries who) (caller : who.caller ≢ 254) (at_end : tells → end ≡ length tape') (grows : Grows tells tape tape')
    (moved : IsMoved given old new) (role : ℕ) (out : (other : ℕ) → is_unassigned (reading_of mid) other ≡ true → (is_unassigned (reading_of old) other ≡ true) ⊎ (other ≡ role))
    (since : AreLostSince mid new roles spares before after) (vacant : is_unassigned (reading_of new) role ≡ true) (left : (slot : ℕ) → has_spare old.spares slot ≡ true → has_spare mid.spares slot ≡ true) where
  abbrev losses : List Event
  losses = losses_of roles spares

  abbrev added : List Entry
  added = entries_of who end (Lost role Command ∷ (losses_of roles spares ++ Failed role ∷ []))

  gives : GivesNone (entries_of who end (Lost role Command ∷ (losses_of roles spares ++ Failed role ∷ [])))
  gives = gives-losses who end losses (Failed role ∷ []) (losses-are roles spares) (λ other. refl)

  told-failed : IsPlainKept (world_in given tape scope first) old entries → AreTold new (entries ++ entries_of who end (Lost role Command ∷ (losses_of roles spares ++ Failed role ∷ [])))
  told-failed p other lt missing = elim (missing-before moved other missing) [
    | inl former ↦ told-members other lt former
    | inr none ↦ told-vacant other lt (since.vacant other lt none)
  ]
    where
      behind : (a b : Bool) → b ≡ true → (a || b) ≡ true
      behind true b e = refl
      behind false b e = e

      itself : (n : ℕ) (b : Bool) → n ≡ role → ((role == n) || b) ≡ true
      itself n b e = grind (arith, nat_tests, e)

      told-members : (other : ℕ) → other < role_count new.newest → is_missing (reading_of old) other ≡ true → IsTrue (is_gone_now (entries ++ entries_of who end (Lost role Command ∷ (losses_of roles spares ++ Failed role ∷ []))) other)
      told-members other lt former = told-more old entries added gives p.told other (subst (λ (n : ℕ). other < n) (count-moved moved) lt) former

      told-vacant : (other : ℕ) → other < role_count new.newest → (is_unassigned (reading_of mid) other ≡ true) ⊎ (has_slot roles other ≡ true)
          → IsTrue (is_gone_now (entries ++ entries_of who end (Lost role Command ∷ (losses_of roles spares ++ Failed role ∷ []))) other)
      told-vacant other lt (inr has) = gone-lately other entries added gives
          (behind (loses_role other (Lost role Command)) (list_any (λ e. loses_role other e.event) (entries_of who end (losses ++ Failed role ∷ [])))
          (told-losses other roles spares who end (Failed role ∷ []) (let few = few-roles new.newest moved.placed.fit.valid in omega (arith, lt, few)) has))
      told-vacant other lt (inl was_vacant) = elim (out other was_vacant) [
        | inl former ↦ told-members other lt (vacant-missing (reading_of old) other former)
        | inr own ↦ gone-lately other entries added gives (itself other (list_any (λ e. loses_role other e.event) (entries_of who end (losses ++ Failed role ∷ []))) own)
      ]

  only-failed : IsPlainKept (world_in given tape scope first) old entries → TellsOnly old new entries (entries_of who end (Lost role Command ∷ (losses_of roles spares ++ Failed role ∷ [])))
  only-failed p = record {
    only = record {
      gone = λ other gone. elim (gone-or other entries added gone) [
        | inl before ↦ missing-moved moved other (p.only.gone other before)
        | inr now ↦ elim (either (role == other) (is_lost (entries_of who end (losses ++ Failed role ∷ [])) other) now) [
          | inl same ↦ subst (λ (r : ℕ). is_missing (reading_of new) r ≡ true) (equal role other same) (vacant-missing (reading_of new) role vacant)
          | inr lost ↦ vacant-missing (reading_of new) other (since.gone other (lost-among other roles spares who end (Failed role ∷ []) refl lost))
        ]
      ];
      spares = λ slot is. spares-behind-losses old.spares new.spares entries who end roles spares (Failed role ∷ []) (λ s has. (was.kept.members_are.free s has).room.small) (λ s has. since.told s (left s has)) (λ s spare has. inl has)
          p.only.spares slot (sym (unlost-spare slot) ∙ is);
    };
    held = moved-held added moved;
  }
    where
      equal : (a b : ℕ) → (a == b) ≡ true → a ≡ b
      equal a b e = grind (arith, nat_tests, e)

      -- the role that is taken out makes no difference to spares
      unlost-spare : (slot : ℕ) → is_spare_now (entries ++ entries_of who end (Lost role Command ∷ (losses_of roles spares ++ Failed role ∷ []))) slot ≡ is_spare_now (entries ++ entries_of who end (losses_of roles spares ++ Failed role ∷ [])) slot
      unlost-spare slot = spare-both slot entries added false ∙ sym (spare-both slot entries (entries_of who end (losses ++ Failed role ∷ [])) false)

  pub failed-plain : IsLeftPlain tells given tape' scope first entries (entries_of who end ((Lost role Command ∷ losses_of roles spares) ++ Failed role ∷ [])) new
  failed-plain =
      plain-called was.kept was.plain who end (Lost role Command ∷ (losses ++ Failed role ∷ [])) goes caller at_end grows moved.shape (λ t p. told-failed p) (λ t p. only-failed p)
      (λ t keeps p fills. call-fails (opening_in (world_in given tape scope first)) entries who end role [] losses tt (faults-are losses (losses-are roles spares)))
      (All-cons (λ e. MayTellPlainly e.event) (one who end (Lost role Command)) (entries_of who end (losses ++ Failed role ∷ [])) tt
      (all-losses MayTellPlainly who end roles spares (Failed role ∷ []) (λ other has. tt) (λ slot has. tt)
      (All-cons (λ e. MayTellPlainly e.event) (one who end (Failed role)) [] tt (All-nil (λ e. MayTellPlainly e.event)))))

-- ---- a slot is made a spare, or is lost in that

module _ {tells : Type 0} {given : Given} {tape mid_tape tape' : List Operation} {scope : Scope} {first : ℕ} {entries : List Entry} {old new : Members} {work : Work} {ahead : PhasesLeft} {limit : Option ℕ} {faults : ℕ → ℕ} {slot : ℕ} {sb : Sb} {lost : ℕ}
    {steps room rows buffer far_rows far_buffer roles spares : ℕ} {before after : ℕ → ℕ} (was : IsReady tells given tape scope first entries old work ahead limit faults steps room rows buffer far_rows far_buffer)
    (who : Who) (end : ℕ) (goes : IsCallGoing entries who) (caller : who.caller ≢ 254) (at_end : tells → end ≡ length tape') (looked : tells → OnlyFlushesAdded tape mid_tape)
    (did : IsAddDone tells given slot sb old new lost mid_tape tape' before after) (since : AreLostSince old new roles spares before after) where
  abbrev told_losses : List Event
  told_losses = losses_of roles spares

  -- each slot that holds a role or is a spare did so before, but for the slot itself
  held-but : (role s : ℕ) → MayHold new role s → ((r : ℕ) × MayHold old r s) ⊎ ((s ≡ slot) × (has_spare new.spares s ≡ true))
  held-but role s (inl held) = inl (role, inl (did.moved.held role s held))
  held-but role s (inr has) = elim (spares-added did s has) [ inl was_one ↦ inl (role, inr was_one) | inr same ↦ inr (same, has) ]

  held-added : (role s : ℕ) → MayHold new role s → ((r : ℕ) × MayHold old r s) ⊎ IsTrue (list_any (λ e. adds_slot s e.event) (entries_of who end (losses_of roles spares ++ Added slot ∷ [])))
  held-added role s may = elim (held-but role s may) [
    | inl before ↦ inl before
    | inr own ↦ inr (
        ap (λ (l : List Entry). list_any (λ e. adds_slot s e.event) l) (entries-both who end told_losses (Added slot ∷ []))
        ∙ list_any-append (λ e. adds_slot s e.event) (entries_of who end told_losses) (entries_of who end (Added slot ∷ []))
        ∙ last (list_any (λ e. adds_slot s e.event) (entries_of who end told_losses)) slot s (sym own.0))
  ]
    where
      last : (b : Bool) (x y : ℕ) → x ≡ y → (b || ((x == y) || false)) ≡ true
      last true x y same = refl
      last false x y same = own (x == y) (by x y same)
        where
          by : (x y : ℕ) → x ≡ y → (x == y) ≡ true
          by x y same = grind (arith, nat_tests, same)

          own : (b : Bool) → b ≡ true → (b || false) ≡ true
          own true is = refl
          own false is = absurd (cc)

  held-lost : (added : List Entry) → has_spare new.spares slot ≡ false → (role s : ℕ) → MayHold new role s → ((r : ℕ) × MayHold old r s) ⊎ IsTrue (list_any (λ e. adds_slot s e.event) added)
  held-lost added none role s may = elim (held-but role s may) [
    | inl before ↦ inl before
    | inr own ↦ absurd (let clash : true ≡ false = sym own.1 ∙ ap (has_spare new.spares) own.0 ∙ none in cc)
  ]

  -- an event behind its losses
  adding : (event : Event) → GivesNone (entries_of who end (event ∷ [])) → LosesNoRole (entries_of who end (event ∷ [])) → MakeSpares new.spares (entries_of who end (event ∷ []))
      → ((role s : ℕ) → MayHold new role s → ((r : ℕ) × MayHold old r s) ⊎ IsTrue (list_any (λ e. adds_slot s e.event) (entries_of who end (losses_of roles spares ++ event ∷ []))))
      → IsOneShapeCall (opening_in (world_in given tape scope first)) (entries ++ entries_of who end (losses_of roles spares)) who end (event ∷ []) → MayTellPlainly event
      → IsLeftPlain tells given tape' scope first entries (entries_of who end (losses_of roles spares ++ event ∷ [])) new
  adding event none loses makes held call plainly =
      plain-called was.kept was.plain who end (told_losses ++ event ∷ []) goes caller at_end (grows-then (record { more = λ t. ((looked t).0, (looked t).2) }) did.grows) did.moved.shape
      (λ t p. told-added did roles spares since entries who end (event ∷ []) p.told none)
      (λ t p. record { only = only p; held = held })
      (λ t keeps p fills. call-faults (opening_in (world_in given tape scope first)) entries who end told_losses (event ∷ []) (faults-are told_losses (losses-are roles spares)) call)
      (all-losses MayTellPlainly who end roles spares (event ∷ []) (λ role has. tt) (λ s has. tt) (All-cons (λ e. MayTellPlainly e.event) (one who end event) [] plainly (All-nil (λ e. MayTellPlainly e.event))))
    where
      only : IsPlainKept (world_in given tape scope first) old entries → AreOnlyTold new (entries ++ entries_of who end (losses_of roles spares ++ event ∷ []))
      only p = record {
        gone = gone-behind-losses old new entries who end roles spares (event ∷ []) (missing-moved did.moved) (λ role has. vacant-missing (reading_of new) role (since.gone role has)) loses p.only;
        spares = spares-behind-losses old.spares new.spares entries who end roles spares (event ∷ []) (λ s has. (was.kept.members_are.free s has).room.small) since.told makes p.only.spares;
      }

  -- it is a spare
  pub added-plain : has_spare new.spares slot ≡ true → IsLeftPlain tells given tape' scope first entries (entries_of who end (losses_of roles spares ++ Added slot ∷ [])) new
  added-plain has = adding (Added slot) (λ role. refl) (λ role. refl) (added-makes who end slot new.spares has) held-added (tt, tt, tt) tt

  -- or it was lost
  pub unadded-plain : has_spare new.spares slot ≡ false → IsLeftPlain tells given tape' scope first entries (entries_of who end (losses_of roles spares ++ Refused (SlotFault slot) ∷ [])) new
  unadded-plain none =
      adding (Refused (SlotFault slot)) (λ role. refl) (λ role. refl) (λ s spare is. inl is) (held-lost (entries_of who end (told_losses ++ Refused (SlotFault slot) ∷ [])) none) (tt, tt, tt) tt

-- ---- it is refused before it is touched

module _ {tells : Type 0} {given : Given} {tape : List Operation} {scope : Scope} {first : ℕ} {entries : List Entry} {m : Members} {work : Work} {ahead : PhasesLeft} {limit : Option ℕ} {faults : ℕ → ℕ}
    {steps room rows buffer far_rows far_buffer : ℕ} (was : IsReady tells given tape scope first entries m work ahead limit faults steps room rows buffer far_rows far_buffer)
    (who : Who) (end : ℕ) (goes : IsCallGoing entries who) (caller : who.caller ≢ 254) (at_end : tells → end ≡ length tape) (slot : ℕ) (backup : Option ℕ) (backup_is : scope.backup ≡ backup) where
  slots-are : scope.sizes.slots ≡ given.slots
  slots-are = ap (λ (s : Sizes). s.slots) was.kept.sizes_are

  sectors-are : (s : ℕ) → s < given.slots → scope.sizes.sectors s ≡ given.sectors s
  sectors-are s lt = ap (λ (z : Sizes). z.sectors s) was.kept.sizes_are ∙ ap (λ (b : Bool). cond b (given.sectors s) 0) (below s given.slots lt)
    where
      below : (a b : ℕ) → a < b → nat_lt a b ≡ true
      below a b lt = grind (arith, nat_tests, lt)

  taken-now : IsTaken backup m slot → IsPlainKept (world_in given tape scope first) m entries → IsTakenNow (opening_in (world_in given tape scope first)) entries slot
  taken-now (inl own) p = inl (backup_is ∙ by backup own)
    where
      equal : (a b : ℕ) → (a == b) ≡ true → a ≡ b
      equal a b e = grind (arith, nat_tests, e)

      by : (o : Option ℕ) → is_backup o slot ≡ true → o ≡ Some slot
      by None is = absurd (cc)
      by (Some s) is = ap (λ (n : ℕ). Some n) (equal s slot is)
  taken-now (inr used) p = inr (p.used used.0 slot used.1)

  too-small-now : (have want : ℕ) → IsUnaddable given backup slot m (SlotTooSmall have want) → IsPlainKept (world_in given tape scope first) m entries → IsTooSmallNow (opening_in (world_in given tape scope first)) entries have want
  too-small-now have want (there, free, does, have_is, short, offset, first_is, want_is) p =
      let low = lowest m (valid given m was.kept.members_are.placed) does in
      let room = was.kept.members_are.placed.holders low.role low.slot low.held in
      let at = first_is low.role low.slot low.held low.none in
      let long : want ≤ given.sectors low.slot = (let within = room.within in omega (arith, want_is, at, within)) in
      let sectors = sectors-are low.slot room.known in
      record {
        fewer = short;
        short = (slot, have_is ∙ sym (sectors-are slot there));
        long = (low.slot, p.used low.role low.slot (inl low.held), omega (arith, long, sectors));
      }

  pub unaddable-plain : (refusal : Refusal) → IsUnaddable given backup slot m refusal → IsLeftPlain tells given tape scope first entries (entries_of who end (Refused refusal ∷ [])) m
  unaddable-plain (NoSuchSlot asked) why =
      refused-plain was who end goes caller at_end (grows-none (λ t. refl)) (NoSuchSlot asked) (λ t p. let same = slots-are in let is = why.0 in let past = why.1 in omega (arith, same, is, past)) tt
  unaddable-plain (SlotTaken taken) why =
      refused-plain was who end goes caller at_end (grows-none (λ t. refl)) (SlotTaken taken) (λ t p. subst (IsTakenNow (opening_in (world_in given tape scope first)) entries) (sym why.0) (taken-now why.2 p)) tt
  unaddable-plain (SlotTooSmall have want) why = refused-plain was who end goes caller at_end (grows-none (λ t. refl)) (SlotTooSmall have want) (λ t p. too-small-now have want why p) tt
  unaddable-plain (TooManyMissing count most) why =
      here-plain was who end goes caller at_end (grows-none (λ t. refl)) (TooManyMissing count most) (too-many-here (visible_size m limit) work.resync m (TooManyMissing count most) why.2)
  unaddable-plain refusal why = absurd why
