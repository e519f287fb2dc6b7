-- A role that is failed by command.
use Rattle.std.proofs.Common.{◌≡◌, ◌⊎◌, inl, inr, ℕ, ◌<◌, ◌==◌, List, [], ◌∷◌, ◌++◌, length, Option, None, true, refl, sym, subst}
use Rattle.std.specs.Prelude.{IsFalse, IfSome, ⊤}
use Rattle.array_reshaping_invariant.specs.raid_types_the_Who.{Who}
use Rattle.array_reshaping_invariant.specs.bank_the_Operation.{Operation}
use Rattle.array_reshaping_invariant.specs.bank_Given.{Given}
use Rattle.array_reshaping_invariant.specs.sb_specs_the_Members.{Members}
use Rattle.array_reshaping_invariant.specs.sb_specs_Reading.{Scope, is_clean, role_count}
use Rattle.array_reshaping_invariant.specs.stripe_row_Rows.{reading_of, present, is_missing}
use Rattle.array_reshaping_invariant.specs.history_the_Entry.{Entry}
use Rattle.array_reshaping_invariant.specs.history_the_Event_TheVariants.{Lost, Failed}
use Rattle.array_reshaping_invariant.specs.history_the_LostCause_TheVariants.{Command}
use Rattle.array_reshaping_invariant.specs.history_Flat.{now}
use Rattle.array_reshaping_invariant.specs.history_Plain.{entries_of}
use Rattle.array_reshaping_invariant.specs.history_Sound.{OpensFit}
use Rattle.array_reshaping_invariant.specs.history_World.{World, opening_list}
use Rattle.array_reshaping_invariant.specs.crash_views_Views.{Ledger}
use Rattle.array_reshaping_invariant.specs.crash_safety_laws_Marking.{AreOthersPresent}
use Rattle.array_reshaping_invariant.specs.crash_safety_laws_Safety.{HasLiveSlot, HasRoomLeft, IsRisen}
use Rattle.array_reshaping_invariant.specs.crash_safety_laws_Steady.{IsSafeOver, KeepsSafe, AreGoneTold, IsUncleanTold}
use Rattle.array_reshaping_invariant.specs.array_members_the_Work.{Work}
use Rattle.array_reshaping_invariant.specs.array_members_Moving.{Grows, IsMoved}
use Rattle.array_reshaping_invariant.proofs.array_members_Fit.{count-alike}
use Rattle.array_reshaping_invariant.proofs.array_members_HeldRows.{without-before}
use Rattle.array_reshaping_invariant.specs.history_append_Losing.{losses_of}
use Rattle.array_reshaping_invariant.proofs.history_append_CallLaws.{losses-are}
use Rattle.array_reshaping_invariant.proofs.history_append_LeftLaws.{left-behind, fold-left}
use Rattle.array_reshaping_invariant.specs.history_invariant_Recorded.{IsCallGoing}
use Rattle.array_reshaping_invariant.specs.history_invariant_Safe.{world_in}
use Rattle.array_reshaping_invariant.proofs.history_invariant_laws_Behind.{AreLostOrMissing}
use Rattle.array_reshaping_invariant.proofs.history_invariant_laws_Failed.{IsFailedOrAmong, early-failed, legal-failed}
use Rattle.array_fixed_invariant.specs.Still.{IsStill}
use Rattle.array_fixed_invariant.proofs.Quiet.{early-stands}
use Rattle.array_fixed_invariant.proofs.Staying.{progress-same}
use Rattle.array_fixed_invariant.proofs.Stood.{stood-moved}

-- What the call leaves: the role's slot is taken out, and what is missing is named.
pub record IsTakenOut (tells : Type 0) (given : Given) (tape tape' : List Operation) (old new : Members) (role roles : ℕ) : Type 0 where
  pub moved : IsMoved given old new
  pub since : (other : ℕ) → other < role_count new.newest → is_missing (reading_of new) other ≡ true → (is_missing (reading_of old) other ≡ true) ⊎ IsFailedOrAmong role roles other
  pub grows : Grows tells tape tape'
  pub clean : is_clean new.newest ≡ is_clean old.newest
  pub rise : tells → IsRisen ⊤ old new tape tape'
  pub others : tells → AreOthersPresent (present given tape) (present given tape')
  pub safe : tells → (world : World) → (told : Ledger) → HasRoomLeft old tape tape' → AreGoneTold told new → IsUncleanTold told old → IsSafeOver world given told old tape → KeepsSafe world given told new tape tape'

-- Any number of steps may be left then.
pub failed-stands : (tells : Type 0) (given : Given) (tape tape' : List Operation) (scope : Scope) (first : ℕ) (entries : List Entry) (old new : Members) (work : Work) (left left' : ℕ)
    (who : Who) (end role roles spares : ℕ)
    → IsStill tells given tape scope first entries old work left → HasLiveSlot old → IsCallGoing entries who → IsFalse (who.caller == 254) → (tells → end ≡ length tape')
    → IsTakenOut tells given tape tape' old new role roles
    → IsStill tells given tape' scope first (entries ++ entries_of who end ((Lost role Command ∷ losses_of roles spares) ++ Failed role ∷ [])) new work left'
failed-stands tells given tape tape' scope first entries old new work left left' who end role roles spares was live goes caller at_end did =
    early-stands tells given tape tape' scope first entries old new work work left left' who end (Lost role Command ∷ losses_of roles spares) (IsFailedOrAmong role roles) (Failed role)
    was live goes caller at_end did.grows (record { adds = refl; gives = refl; ends = refl; still = λ x values. refl; level = λ n. refl; other = refl }) did.moved (early-failed role roles spares) missing did.clean refl refl
    (progress-same did.moved work.resync was.progress)
    (subst (λ (o : Option ℕ). IfSome o (λ n. n ≡ left')) (sym (fold-left None entries (entries_of who end ((Lost role Command ∷ losses_of roles spares) ++ Failed role ∷ []))))
    (left-behind left' who end (losses_of roles spares) (Failed role ∷ []) (losses-are roles spares) (λ told is. is) None tt))
    (λ t does fills. stood-moved (OpensFit (world_in given tape scope first)) work given old new (present given tape) (present given tape') (now (opening_list (world_in given tape scope first)) entries)
    did.moved was.members_are.placed (did.others t) (was.listed t (without-before given old new did.moved does) fills))
    (λ t. record {
      rise = did.rise t;
      keeps = λ told fills more room gone unclean before. did.safe t (world_in given tape scope first) told room gone unclean before;
      legal = λ all fills gone level. legal-failed (world_in given tape' scope first) entries who end role roles spares;
    })
  where
    missing : AreLostOrMissing old new (IsFailedOrAmong role roles)
    missing other lt gone = elim (did.since other lt gone) [
      | inl was_gone ↦ inl (subst (λ (n : ℕ). other < n) (count-alike old.newest new.newest did.moved.reshape did.moved.shape did.moved.size) lt, was_gone)
      | inr told ↦ inr told
    ]
