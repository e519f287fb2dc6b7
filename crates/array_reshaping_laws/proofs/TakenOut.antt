-- A slot that is taken out of an array in a reshape, and the naming of what is missing then.
use Rattle.std.proofs.Common.{◌≡◌, ◌⊎◌, inl, inr, ℕ, ◌<◌, ◌==◌, true, Some, List, sym, ◌∙◌}
use Rattle.array_fixed_laws.specs.raid_types_Shapes.{has_slot}
use Rattle.reshape_window_backup.specs.bank_the_Operation.{Operation}
use Rattle.reshape_window_backup.specs.bank_Given.{Given}
use Rattle.reshape_window_backup.specs.bank_Tape.{disk}
use Rattle.array_reshaping_resync_laws.specs.sb_specs_the_Members.{Members}
use Rattle.array_reshaping_resync_laws.specs.sb_specs_Reading.{is_clean, role_count, role_state, holder}
use Rattle.array_reshaping_resync_laws.proofs.sb_specs_ValidFields.{few-roles}
use Rattle.array_reshaping_resync_laws.specs.stripe_row_Rows.{reading_of, present, is_missing, members_without}
use Rattle.array_reshaping_resync_laws.specs.crash_safety_laws_Marking.{AreOthersPresent}
use Rattle.array_reshaping_resync_laws.specs.crash_safety_laws_Safety.{IsRisen}
use Rattle.array_reshaping_resync_laws.specs.crash_safety_laws_Steady.{AreUnlost}
use Rattle.array_reshaping_resync_laws.specs.array_members_Lacking.{HaveFailedSince, AreLostSince}
use Rattle.array_reshaping_resync_laws.specs.array_members_Moving.{IsMoved}
use Rattle.array_reshaping_resync_laws.specs.array_members_Placed.{IsPlaced}
use Rattle.array_reshaping_resync_laws.specs.array_members_Under.{IsRestKept}
use Rattle.array_reshaping_resync_laws.proofs.array_members_Fit.{count-alike}
use Rattle.array_reshaping_resync_laws.proofs.array_members_HeldRows.{missing-before, vacant-missing}
use Rattle.array_reshaping_resync_laws.proofs.array_members_LackingLaws.{AreVacant, AreNewlyVacant, lost-since}
use Rattle.array_reshaping_resync_laws.proofs.array_members_MovedLaws.{moved-then}
use Rattle.array_fixed_laws.proofs.sb_safe_updates_Unused.{unused-moved, rest-unused}
use Rattle.array_fixed_laws.proofs.array_call_specs_KeptLaws.{NamesSafe}
use Rattle.array_fixed_laws.proofs.array_call_laws_FailedLaws.{placed-out, moved-out, out-only, clean-out, rise-out, named-out}
use Rattle.array_fixed_laws.proofs.history_invariant_laws_Failed.{IsFailedOrAmong}
use Rattle.array_reshaping_resync_laws.proofs.array_reshaping_invariant_Failing.{IsTakenOut}

module _ (given : Given) (old mid new : Members) (lost slot role : ℕ) (was : IsPlaced given old) (unlost : AreUnlost old) (is : mid ≡ members_without lost old) (alone : (s : ℕ) → has_slot lost s ≡ (slot == s))
    (held : holder (role_state (reading_of old) role) ≡ Some slot) (moved : IsMoved given mid new) where
  out : IsMoved given old mid
  out = moved-out given old mid lost slot role was unlost is alone held

  pub moved-all : IsMoved given old new
  moved-all = moved-then given old mid new out moved

  module _ (count before_set roles spares : ℕ) (before after : ℕ → ℕ) (failed : HaveFailedSince mid new spares before after) (count_is : count ≡ role_count old.newest)
      (vacant : AreVacant mid count before_set) (newly : AreNewlyVacant new count before_set roles) where
    -- what was lost while it was named
    pub since-out : AreLostSince mid new roles spares before after
    since-out = lost-since given mid new count before_set roles spares before after (placed-out given old mid lost slot role was unlost is alone held) moved failed
        (count_is ∙ sym (count-alike old.newest mid.newest out.reshape out.shape out.size)) vacant newly

    -- what is missing was so before, or it is the role that was taken out, or it was lost besides
    missing-out : (other : ℕ) → other < role_count new.newest → is_missing (reading_of new) other ≡ true → (is_missing (reading_of old) other ≡ true) ⊎ IsFailedOrAmong role roles other
    missing-out other lt gone = elim (missing-before moved-all other gone) [
      | inl was_gone ↦ inl was_gone
      | inr none ↦ elim (since-out.vacant other lt none) [
        | inl former ↦ elim (out-only given old mid lost slot role was unlost is alone held other former) [
          | inl first ↦ inl (vacant-missing (reading_of old) other first)
          | inr same ↦ inr (inl same)
        ]
        | inr has ↦ inr (inr has)
      ]
    ]

    pub taken-out : (tells : Type 0) (tape tape' : List Operation) → is_clean new.newest ≡ is_clean mid.newest → IsRisen tells mid new tape tape'
        → (tells → AreOthersPresent (present given tape) (present given tape')) → (tells → IsRestKept mid (disk given.start tape) (disk given.start tape'))
        → NamesSafe tells given mid new tape tape' → IsTakenOut tells given tape tape' old new role roles
    taken-out tells tape tape' clean rise others rest safe = record {
      moved = moved-all;
      few = few-roles new.newest moved.placed.fit.valid;
      since = missing-out;
      clean = clean ∙ clean-out old mid lost is;
      rise = λ t. let risen = rise-out old mid lost is new tape tape' rise in record { left = risen.left; events = λ always live. risen.events t live };
      others = others;
      unused = λ t s k v unused may. rest-unused mid (disk given.start tape) (disk given.start tape') (rest t) s k v (unused-moved given old mid out s unused) may;
      safe = named-out old mid lost is given new tape tape' safe;
    }
