-- The steps of a pending resync, from what `resync_rows` of `stripe_io` and `flush_and_mark` of `sb_safe_updates` leave: what is kept, done or refused.
use Rattle.std.proofs.Common.{◌≡◌, ◌≢◌, inr, ℕ, ◌+◌, ◌-◌, ◌*◌, ◌<◌, min, false, Some, None, List, [], ◌∷◌, ◌++◌, length, refl, subst, arith}
use Rattle.array_fixed_invariant.specs.raid_types_Sectors.{Sector}
use Rattle.array_specs.specs.raid_types_the_Refusal.{Refusal}
use Rattle.array_fixed_invariant.specs.raid_types_the_Who.{Who}
use Rattle.array_fixed_invariant.specs.raid_types_the_Shape.{Shape}
use Rattle.array_fixed_invariant.specs.bank_the_Operation.{Operation}
use Rattle.array_fixed_invariant.specs.bank_Given.{Given}
use Rattle.array_fixed_invariant.specs.reshape_plan_Plans.{phases_steps}
use Rattle.array_fixed_invariant.specs.sb_specs_the_Members.{Members}
use Rattle.array_fixed_invariant.specs.sb_specs_Reading.{Scope, shape_of}
use Rattle.array_fixed_invariant.specs.stripe_row_Rows.{reading_of, present}
use Rattle.array_fixed_invariant.specs.stripe_list_Full.{AreWholeIn, RowStands}
use Rattle.array_fixed_invariant.specs.history_the_Entry.{Entry}
use Rattle.array_fixed_invariant.specs.history_the_Event_TheVariants.{Step, Refused}
use Rattle.array_fixed_invariant.specs.history_the_StepKind_TheVariants.{ResyncStripe, ResyncEnded}
use Rattle.array_fixed_invariant.specs.history_Plain.{entries_of}
use Rattle.array_fixed_invariant.specs.crash_views_Regions.{DoWithout}
use Rattle.array_fixed_invariant.specs.array_members_the_Work.{Work}
use Rattle.array_fixed_invariant.specs.array_members_Lacking.{AreTooMany, IsUnwritten, IsOfStripe, DataStandsAmong}
use Rattle.array_fixed_invariant.specs.array_members_Status.{stripes_of, vacant_count, spare_count, recovery_left, left_of}
use Rattle.array_fixed_invariant.proofs.array_members_LiveLeft.{without-left}
use Rattle.array_fixed_invariant.specs.history_append_Losing.{losses_of}
use Rattle.array_fixed_invariant.proofs.array_call_specs_StepsLeft.{left-mended, left-ended}
use Rattle.array_fixed_invariant.proofs.array_call_laws_EndLaws.{enough-mended}
use Rattle.array_fixed_invariant.specs.reshape_request_the_PhasesLeft.{PhasesLeft}
use Rattle.array_fixed_invariant.specs.reshape_request_Left.{phases_of}
use Rattle.array_fixed_invariant.specs.history_invariant_Recorded.{IsCallGoing}
use Rattle.array_fixed_invariant.specs.history_invariant_Safe.{world_in}
use Rattle.array_fixed_invariant.specs.Still.{IsStill}
use Rattle.array_fixed_invariant.proofs.Flushing.{IsFlushedStill, IsSettledStill, unflushed-stands}
use Rattle.array_fixed_invariant.proofs.Resync.{IsResyncingStill, mended-stands, unmended-stands, resynced-stands}
use Rattle.array_specs.specs.Parts.{still_left}
use Rattle.array_specs.proofs.Called.{not_254}
use Rattle.array_fixed_laws.proofs.Closing.{LeadTo, leaves-or-closes}
use Rattle.array_fixed_laws.proofs.Left.{left-alike}
use Rattle.array_fixed_laws.proofs.StepLaws.{left-falls}

-- a pending resync has a step left
some-left : (n recovery waiting more left : ℕ) → left ≡ (n + 1 + recovery + waiting) + more → left ≢ 0
some-left n recovery waiting more left told none = omega (arith, told, none)

-- ---- a stripe

module _ {tells : Type 0} {given : Given} {tape tape' : List Operation} {scope : Scope} {first : ℕ} {entries : List Entry} {old new : Members} {work : Work} (ahead : PhasesLeft)
    (who : Who) (end roles spares : ℕ) {before after : ℕ → ℕ} (shape : Shape) (stripe : ℕ) (was : IsStill tells given tape scope first entries old work (still_left work old ahead)) (does : DoWithout old)
    (goes : IsCallGoing entries who) (caller : who.caller ≢ 254) (at_end : tells → end ≡ length tape') (same_shape : shape ≡ shape_of old.newest) (pending : work.resync ≡ Some stripe)
    (did : IsResyncingStill tells given tape tape' old new roles spares before after shape stripe) where
  abbrev next : Work
  next = record work { resync = Some (stripe + 1) }

  -- it is mended
  pub mend-done : (left : ℕ) → stripe < stripes_of old → left ≡ still_left (record work { resync = Some (stripe + 1) }) new ahead
      → (tells → (list : ℕ → Sector) → DataStandsAmong shape (IsOfStripe shape stripe) old (present given tape) list → (row : ℕ) → IsOfStripe shape stripe row → AreWholeIn shape list row
      → RowStands (reading_of new) (present given tape') shape list row)
      → IsStill tells given tape' scope first (entries ++ entries_of who end (losses_of roles spares ++ Step ResyncStripe left ∷ [])) new (record work { resync = Some (stripe + 1) }) (still_left (record work { resync = Some (stripe + 1) }) new ahead)
  mend-done left below told mends =
      subst (λ (n : ℕ). IsStill tells given tape' scope first (entries ++ entries_of who end (losses_of roles spares ++ Step ResyncStripe left ∷ [])) new (record work { resync = Some (stripe + 1) }) n) told
      (mended-stands tells given tape tape' scope first entries old new work (still_left work old ahead) left who end roles spares before after shape stripe was does goes (not_254 who.caller caller) at_end
      same_shape pending did below (left-falls next ahead (left_of work old) left did.moved did.since (left-mended work old stripe pending below) told) some mends)
    where
      some : left ≢ 0
      some = some-left (stripes_of new - (stripe + 1)) (recovery_left next new (shape_of new.newest).disks) (min (vacant_count new) (spare_count new) * (stripes_of new + 2))
          (phases_steps (shape_of new.newest) new.newest.size (phases_of ahead)) left told

  -- it isn't
  pub mend-refused : (refusal : Refusal) → IsUnwritten shape false new refusal
      → IsStill tells given tape' scope first (entries ++ entries_of who end (losses_of roles spares ++ Refused refusal ∷ [])) new work (still_left work new ahead)
  mend-refused refusal why =
      unmended-stands tells given tape tape' scope first entries old new work (still_left work old ahead) (still_left work new ahead) who end roles spares before after shape stripe was does goes
      (not_254 who.caller caller) at_end same_shape pending did refusal (left-alike work ahead roles spares before after did.moved did.since) why

-- ---- the end

module _ {tells : Type 0} {given : Given} {tape tape' : List Operation} {scope : Scope} {first : ℕ} {entries : List Entry} {old new : Members} {work : Work} (ahead : PhasesLeft)
    (who : Who) (end roles spares : ℕ) {before after : ℕ → ℕ} (was : IsStill tells given tape scope first entries old work (still_left work old ahead)) (does : DoWithout old)
    (goes : IsCallGoing entries who) (caller : who.caller ≢ 254) (at_end : tells → end ≡ length tape') (all : work.resync ≡ Some (stripes_of old))
    (did : IsFlushedStill tells given tape tape' old new roles spares before after false) where
  -- it has ended
  pub resync-done : (left : ℕ) → left ≡ still_left (record work { resync = None }) new ahead
      → LeadTo tells (world_in given tape scope first) entries old ahead → IsSettledStill tells given tape tape' old new false
      → IsStill tells given tape' scope first (entries ++ entries_of who end (losses_of roles spares ++ Step ResyncEnded left ∷ [])) new (record work { resync = None }) (still_left (record work { resync = None }) new ahead)
  resync-done left told plans done =
      subst (λ (n : ℕ). IsStill tells given tape' scope first (entries ++ entries_of who end (losses_of roles spares ++ Step ResyncEnded left ∷ [])) new (record work { resync = None }) n) told
      (resynced-stands tells given tape tape' scope first entries old new work (still_left work old ahead) left who end roles spares before after was does goes (not_254 who.caller caller) at_end all
      (left-falls (record work { resync = None }) ahead (left_of work old) left did.moved did.since (left-ended work old all) told)
      (leaves-or-closes old new ahead (Step ResyncEnded left) left plans was.members_are.still did.moved.shape told refl refl (λ zero can. inr (done.clean refl))) did done)

  -- it is refused
  pub resync-refused : (refusal : Refusal) → AreTooMany new refusal
      → IsStill tells given tape' scope first (entries ++ entries_of who end (losses_of roles spares ++ Refused refusal ∷ [])) new work (still_left work new ahead)
  resync-refused refusal many =
      unflushed-stands tells given tape tape' scope first entries old new work (still_left work old ahead) who end roles spares before after false was
      (without-left given old was.members_are.placed was.members_are.unlost does) goes (not_254 who.caller caller) at_end (λ synced. enough-mended was.members_are.placed all) did (still_left work new ahead) refusal
      many (left-alike work ahead roles spares before after did.moved did.since)
