-- A call behind losses that leaves the list, and what is under way: it reads, or it is refused.
use Rattle.std.proofs.Common.{◌≡◌, inl, inr, ℕ, ◌<◌, ◌==◌, ◌≤◌, ◌/◌, Option, Some, None, List, [], ◌∷◌, ◌++◌, length, refl, sym, ◌∙◌, ap, subst}
use Rattle.std.specs.Prelude.{IsFalse, IfSome, ⊤}
use Rattle.array_reshaping_invariant.specs.raid_types_Shapes.{tolerance, tolerance_of}
use Rattle.array_reshaping_invariant.specs.raid_types_the_Refusal.{Refusal}
use Rattle.array_reshaping_invariant.specs.raid_types_the_Who.{Who}
use Rattle.array_reshaping_invariant.specs.bank_the_Operation.{Operation}
use Rattle.array_reshaping_invariant.specs.bank_Given.{Given}
use Rattle.array_reshaping_invariant.specs.sb_specs_the_Members.{Members}
use Rattle.array_reshaping_invariant.specs.sb_specs_Reading.{Scope, is_clean}
use Rattle.array_reshaping_invariant.specs.stripe_row_Rows.{present}
use Rattle.array_reshaping_invariant.specs.history_the_Entry.{Entry}
use Rattle.array_reshaping_invariant.specs.history_the_Event.{Event}
use Rattle.array_reshaping_invariant.specs.history_the_Event_TheVariants.{Refused}
use Rattle.array_reshaping_invariant.specs.history_Flat.{now}
use Rattle.array_reshaping_invariant.specs.history_Legal.{level_at, IsLegalEvent}
use Rattle.array_reshaping_invariant.specs.history_Plain.{entries_of}
use Rattle.array_reshaping_invariant.specs.history_Sound.{OpensFit}
use Rattle.array_reshaping_invariant.specs.history_World.{World, opening_list}
use Rattle.array_reshaping_invariant.specs.crash_views_Views.{Ledger}
use Rattle.array_reshaping_invariant.specs.crash_safety_laws_Marking.{AreOthersPresent}
use Rattle.array_reshaping_invariant.specs.crash_safety_laws_Safety.{HasLiveSlot, HasRoomLeft, IsRisen}
use Rattle.array_reshaping_invariant.specs.crash_safety_laws_Steady.{IsSafeOver, KeepsSafe, AreGoneTold, IsUncleanTold}
use Rattle.array_reshaping_invariant.specs.array_members_the_Work.{Work}
use Rattle.array_reshaping_invariant.specs.array_members_Lacking.{AreLostSince}
use Rattle.array_reshaping_invariant.specs.array_members_Moving.{Grows, IsMoved}
use Rattle.array_reshaping_invariant.specs.array_members_Status.{stripes_of}
use Rattle.array_reshaping_invariant.proofs.array_members_Fit.{count-alike}
use Rattle.array_reshaping_invariant.proofs.array_members_HeldRows.{without-before}
use Rattle.array_reshaping_invariant.proofs.array_members_LackingLaws.{since-missing}
use Rattle.array_reshaping_invariant.specs.history_append_Losing.{losses_of}
use Rattle.array_reshaping_invariant.proofs.history_append_CallLaws.{losses-are}
use Rattle.array_reshaping_invariant.proofs.history_append_LeftLaws.{TellLeft}
use Rattle.array_reshaping_invariant.proofs.array_call_specs_KeptLaws.{left-lost}
use Rattle.array_reshaping_invariant.specs.history_invariant_Recorded.{IsCallGoing, entry_of}
use Rattle.array_reshaping_invariant.specs.history_invariant_Safe.{world_in}
use Rattle.array_reshaping_invariant.specs.history_invariant_laws_Reliable.{IsReliable, AreToldGone}
use Rattle.array_reshaping_invariant.proofs.history_invariant_laws_Behind.{AreLostOrMissing, IsAmong, early-losses, legal-losses}
use Rattle.array_reshaping_invariant.proofs.history_invariant_laws_Quiet.{IsQuiet}
use Rattle.array_reshaping_invariant.proofs.Refusals.{quiet-refusal}
use Rattle.array_fixed_invariant.specs.Still.{IsStill}
use Rattle.array_fixed_invariant.proofs.Stood.{stood-moved}
use Rattle.array_fixed_invariant.proofs.Quiet.{early-stands}
use Rattle.array_fixed_invariant.proofs.Refusals.{IsRefusedStill, refused-right, unsynced-behind}

-- ---- members that only moved

pub missing-since : {given : Given} {old new : Members} {roles spares : ℕ} {before after : ℕ → ℕ} → IsMoved given old new → AreLostSince old new roles spares before after → AreLostOrMissing old new (IsAmong roles)
missing-since {old = old} {new = new} moved since role lt gone = elim (since-missing moved since role lt gone) [
  | inl was ↦ inl (subst (λ (n : ℕ). role < n) (count-alike old.newest new.newest moved.reshape moved.shape moved.size) lt, was)
  | inr has ↦ inr has
]

-- as many stripes are mended of as many
pub progress-moved : {given : Given} {old new : Members} → IsMoved given old new → (n : ℕ) → n ≤ stripes_of old → n ≤ stripes_of new
progress-moved {old = old} {new = new} moved n few = subst (λ (m : ℕ). n ≤ m) (λ i. sym moved.size i / (sym moved.shape i).chunk) few

pub progress-same : {given : Given} {old new : Members} → IsMoved given old new → (o : Option ℕ) → IfSome o (λ mended. mended ≤ stripes_of old) → IfSome o (λ mended. mended ≤ stripes_of new)
progress-same moved None is = tt
progress-same moved (Some mended) is = progress-moved moved mended is

-- what a read or a name leaves of its array: slots may have been lost, and nothing but superblocks was written
pub record IsNamedStill (tells : Type 0) (given : Given) (tape tape' : List Operation) (old new : Members) (roles spares : ℕ) (before after : ℕ → ℕ) : Type 0 where
  pub moved : IsMoved given old new
  pub since : AreLostSince old new roles spares before after
  pub grows : Grows tells tape tape'
  pub clean : is_clean new.newest ≡ is_clean old.newest
  pub rise : tells → IsRisen ⊤ old new tape tape'
  pub others : tells → AreOthersPresent (present given tape) (present given tape')
  pub safe : tells → (world : World) → (told : Ledger) → HasRoomLeft old tape tape' → AreGoneTold told new → IsUncleanTold told old → IsSafeOver world given told old tape → KeepsSafe world given told new tape tape'

-- ---- a call that leaves the list

pub stays-stands : (tells : Type 0) (given : Given) (tape tape' : List Operation) (scope : Scope) (first : ℕ) (entries : List Entry) (old new : Members) (work : Work) (left left' : ℕ)
    (who : Who) (end roles spares : ℕ) (before after : ℕ → ℕ) (event : Event)
    → IsStill tells given tape scope first entries old work left → HasLiveSlot old → IsCallGoing entries who → IsFalse (who.caller == 254) → (tells → end ≡ length tape')
    → IsNamedStill tells given tape tape' old new roles spares before after → IsQuiet event → (losses_of roles spares ≡ [] → left' ≡ left) → TellLeft left' who end (event ∷ [])
    → (tells → IsReliable (world_in given tape' scope first) (entries ++ entries_of who end (losses_of roles spares ++ event ∷ [])) → IsReliable (world_in given tape scope first) entries
    → AreToldGone (world_in given tape' scope first) (entries ++ entries_of who end (losses_of roles spares)) new
    → level_at (world_in given tape' scope first) (entries ++ entries_of who end (losses_of roles spares)) ≡ level_at (world_in given tape scope first) entries
    → IsLegalEvent (world_in given tape' scope first) (entries ++ entries_of who end (losses_of roles spares)) (entry_of who end event) [] event)
    → IsStill tells given tape' scope first (entries ++ entries_of who end (losses_of roles spares ++ event ∷ [])) new work left'
stays-stands tells given tape tape' scope first entries old new work left left' who end roles spares before after event was live goes caller at_end named quiet alike tell legal =
    early-stands tells given tape tape' scope first entries old new work work left left' who end (losses_of roles spares) (IsAmong roles) event was live goes caller at_end named.grows quiet named.moved
    (early-losses roles spares) (missing-since named.moved named.since) named.clean refl refl (progress-same named.moved work.resync was.progress)
    (left-lost left left' entries who end (losses_of roles spares) (event ∷ []) (losses-are roles spares) alike was.left_told tell)
    (λ t does fills. stood-moved (OpensFit (world_in given tape scope first)) work given old new (present given tape) (present given tape') (now (opening_list (world_in given tape scope first)) entries)
    named.moved was.members_are.placed (named.others t) (was.listed t (without-before given old new named.moved does) fills))
    (λ t. record {
      rise = named.rise t;
      keeps = λ told fills more room gone unclean safe. named.safe t (world_in given tape scope first) told room gone unclean safe;
      legal = λ all fills gone level. legal-losses (world_in given tape' scope first) entries who end (losses_of roles spares) (event ∷ []) (losses-are roles spares) (legal t all fills gone level, tt, tt);
    })

-- ---- one that is refused

-- what stands behind its refusal, by the members that it leaves
pub refused-stands : (tells : Type 0) (given : Given) (tape tape' : List Operation) (scope : Scope) (first : ℕ) (entries : List Entry) (old new : Members) (work : Work) (left left' : ℕ)
    (who : Who) (end roles spares : ℕ) (before after : ℕ → ℕ) (refusal : Refusal)
    → IsStill tells given tape scope first entries old work left → HasLiveSlot old → IsCallGoing entries who → IsFalse (who.caller == 254) → (tells → end ≡ length tape')
    → IsNamedStill tells given tape tape' old new roles spares before after → (losses_of roles spares ≡ [] → left' ≡ left) → IsRefusedStill work.resync new refusal
    → IsStill tells given tape' scope first (entries ++ entries_of who end (losses_of roles spares ++ Refused refusal ∷ [])) new work left'
refused-stands tells given tape tape' scope first entries old new work left left' who end roles spares before after refusal was live goes caller at_end named alike why =
    stays-stands tells given tape tape' scope first entries old new work left left' who end roles spares before after (Refused refusal) was live goes caller at_end named (quiet-refusal refusal) alike (λ told is. is)
    (λ t all fills gone level. refused-right (world_in given tape' scope first) (entries ++ entries_of who end (losses_of roles spares)) given new named.moved.placed work.resync gone
    (ap tolerance_of level ∙ was.levelled t fills ∙ ap tolerance (sym named.moved.shape))
    (unsynced-behind tells given tape tape' scope first entries who end roles spares named.grows (λ u. (was.recorded u).begun) t ∙ was.pending t) refusal why)
