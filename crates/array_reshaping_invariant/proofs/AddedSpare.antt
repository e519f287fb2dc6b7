-- A slot that is made a spare in an array in a reshape: it gets no role until that is over.
use Rattle.std.proofs.Common.{◌≡◌, ◌≢◌, inl, inr, ℕ, ◌<◌, ◌≤◌, ◌==◌, ◌&&◌, ◌||◌, nat_lt, Bool, true, false, Option, Some, List, [], ◌∷◌, ◌++◌, length, refl, sym, ◌∙◌, ap, subst, arith}
use Rattle.std.specs.Prelude.{IsFalse, ⊤}
use Rattle.std.specs.List.{list_any}
use Rattle.std.proofs.lemmas.Bool.Decides.{nat_tests}
use Rattle.history_invariant_laws.specs.raid_types_Sectors.{Sector}
use Rattle.history_invariant_laws.specs.raid_types_Shapes.{tolerance, tolerance_of}
use Rattle.history_invariant_laws.specs.raid_types_the_Refusal.{Refusal}
use Rattle.history_invariant_laws.specs.raid_types_the_Refusal_TheVariants.{PastEnd, TooManyMissing, NotResynced, SlotFault}
use Rattle.history_invariant_laws.specs.raid_types_the_Who.{Who}
use Rattle.history_invariant_laws.specs.raid_types_the_Shape.{Shape}
use Rattle.reshape_progress_resync_laws.specs.bank_the_Operation.{Operation}
use Rattle.reshape_progress_resync_laws.specs.bank_Given.{Given}
use Rattle.reshape_progress_resync_laws.specs.bank_Tape.{Contents, IsIn, disk}
use Rattle.reshape_progress_resync_laws.specs.sb_codec_the_Sb.{Sb}
use Rattle.reshape_progress_resync_laws.specs.sb_specs_the_Members.{Members}
use Rattle.reshape_progress_resync_laws.specs.sb_specs_Reading.{Scope, is_clean, shape_of, list_length, role_state, holder}
use Rattle.reshape_progress_resync_laws.specs.sb_specs_Reads.{has_spare}
use Rattle.reshape_progress_resync_laws.specs.sb_specs_Held.{IsSecondHalf}
use Rattle.reshape_progress_resync_laws.specs.sb_specs_Update.{is_held_by}
use Rattle.reshape_progress_resync_laws.proofs.sb_specs_ValidFields.{few-roles}
use Rattle.reshape_progress_resync_laws.specs.stripe_row_Rows.{reading_of, present}
use Rattle.reshape_progress_resync_laws.specs.history_the_Entry.{Entry}
use Rattle.reshape_progress_resync_laws.specs.history_the_Event.{Event}
use Rattle.reshape_progress_resync_laws.specs.history_the_Event_TheVariants.{Added, Refused}
use Rattle.reshape_progress_resync_laws.specs.history_Flat.{now}
use Rattle.reshape_progress_resync_laws.specs.history_Legal.{level_at, IsLegalEvent, IsRefusedRight}
use Rattle.reshape_progress_resync_laws.specs.history_Plain.{entries_of}
use Rattle.reshape_progress_resync_laws.specs.history_Sound.{OpensFit}
use Rattle.reshape_progress_resync_laws.specs.history_World.{World, opening_list}
use Rattle.reshape_progress_resync_laws.specs.crash_views_Regions.{backup_of, ArePlaced, DoWithout}
use Rattle.reshape_progress_resync_laws.specs.crash_views_Views.{Disk, Ledger}
use Rattle.reshape_progress_resync_laws.specs.crash_views_Windows.{AreFewer}
use Rattle.reshape_progress_resync_laws.specs.crash_safety_laws_Carried.{AreToldAnew}
use Rattle.reshape_progress_resync_laws.specs.crash_safety_laws_Marking.{AreOthersPresent}
use Rattle.reshape_progress_resync_laws.specs.crash_safety_laws_Safety.{HasLiveSlot, HasRoomLeft, IsRisen}
use Rattle.reshape_progress_resync_laws.specs.crash_safety_laws_Steady.{IsMoreTold, IsSafeOver, KeepsSafe, AreGoneTold, IsUncleanTold, with_number}
use Rattle.reshape_progress_resync_laws.proofs.crash_safety_laws_Without.{live-is}
use Rattle.reshape_progress_resync_laws.specs.array_members_Flushing.{OnlyFlushesAdded}
use Rattle.reshape_progress_resync_laws.specs.array_members_Lacking.{DoesWithout}
use Rattle.reshape_progress_resync_laws.specs.array_members_Moving.{Grows, IsMoved}
use Rattle.reshape_progress_resync_laws.specs.array_members_Numbers.{IsSpareSb, IsOfScope}
use Rattle.reshape_progress_resync_laws.specs.array_members_Placed.{IsPlaced}
use Rattle.reshape_progress_resync_laws.specs.array_members_Rebuilding.{MayHold, with_spare}
use Rattle.reshape_progress_resync_laws.specs.array_members_Under.{IsRestKept}
use Rattle.reshape_progress_resync_laws.proofs.array_members_AddedMembers.{placed-with, unlost-roles, free-with, spares-with}
use Rattle.reshape_progress_resync_laws.proofs.array_members_Fit.{list-alike}
use Rattle.reshape_progress_resync_laws.proofs.array_members_Flushed.{contents-added}
use Rattle.reshape_progress_resync_laws.proofs.array_members_HeldRows.{shape-without-before}
use Rattle.reshape_progress_resync_laws.proofs.array_members_LiveLeft.{without-left}
use Rattle.reshape_progress_resync_laws.proofs.array_members_MarkedSafe.{added-longer, flushed-safe}
use Rattle.reshape_progress_resync_laws.proofs.array_members_MarkLaws.{few-below}
use Rattle.reshape_progress_resync_laws.proofs.array_members_MovedLaws.{grows-then, moved-same}
use Rattle.reshape_progress_resync_laws.proofs.array_members_SafeStretch.{safe-then}
use Rattle.reshape_progress_resync_laws.specs.sb_safe_updates_Unused.{IsUnused}
use Rattle.reshape_progress_resync_laws.proofs.sb_safe_updates_Under.{flushed-fewer}
use Rattle.history_invariant_laws.specs.history_append_Losing.{losses_of}
use Rattle.history_invariant_laws.proofs.history_append_CallLaws.{losses-are}
use Rattle.history_invariant_laws.proofs.history_append_LeftLaws.{TellLeft, left-behind, left-more}
use Rattle.history_invariant_laws.specs.array_call_specs_Calls.{IsUnaddable}
use Rattle.history_invariant_laws.proofs.history_invariant_Anew.{history-anew}
use Rattle.history_invariant_laws.specs.history_invariant_Recorded.{IsCallGoing, entry_of}
use Rattle.history_invariant_laws.specs.history_invariant_Safe.{world_in, OpensOnCourse}
use Rattle.reshape_progress_resync_laws.specs.reshape_progress_the_Course.{Course}
use Rattle.reshape_progress_resync_laws.specs.reshape_request_the_Window.{Window}
use Rattle.reshape_progress_resync_laws.specs.reshape_request_the_Window_TheVariants.{Closed, Entered, Unsure}
use Rattle.reshape_progress_resync_laws.specs.reshape_progress_Course.{IsStored, IsSectionKept, IsBackupKept}
use Rattle.reshape_progress_resync_laws.proofs.reshape_progress_Courses.{stored-moves}
use Rattle.reshape_progress_resync_laws.proofs.reshape_progress_Spares.{spares-without, spares-stored, differ-with}
use Rattle.reshape_progress_resync_laws.specs.Mended.{StandsSynced}
use Rattle.reshape_progress_resync_laws.proofs.Mended.{mended-courses-move}
use Rattle.reshape_progress_resync_laws.proofs.Spares.{spares-leave-mended}
use Rattle.history_invariant_laws.specs.Reliable.{AreToldGone}
use Rattle.array_reshaping_invariant.specs.Moving.{AreReshaping, HasListInCourse, IsMoving}
use Rattle.history_invariant_laws.proofs.Behind.{early-losses, early-none, IsAmong, legal-losses}
use Rattle.array_reshaping_invariant.proofs.MembersMove.{reshaping-moved}
use Rattle.history_invariant_laws.proofs.Quiet.{IsQuiet, stretch-more}
use Rattle.array_reshaping_invariant.proofs.Pending.{HasResync, resync-of, resync-moved, mended-less}
use Rattle.array_reshaping_invariant.proofs.Quiet.{carrying-moves, early-moves}
use Rattle.array_reshaping_invariant.proofs.Refusals.{quiet-refusal, refused-right}
use Rattle.array_reshaping_invariant.proofs.Resting.{resting-moves}
use Rattle.array_reshaping_invariant.proofs.Staying.{course-moved}
use Rattle.array_reshaping_invariant.proofs.Steps.{AreMissingSince, missing-moved}

-- a slot that holds no role and is no spare stays so where another is made one
pub unused-with : (m : Members) (slot : ℕ) (sb : Sb) (s : ℕ) → s ≢ slot → IsUnused m s → IsUnused (with_spare slot sb m) s
unused-with m slot sb s other was =
    live-is (with_spare slot sb m) false s
    ∙ ap (λ (b : Bool). nat_lt s 32 && ((list_any (is_held_by s) m.roles || b) || false)) (spares-with m slot sb s)
    ∙ of (nat_lt s 32) (list_any (is_held_by s) m.roles) (has_spare m.spares s) (slot == s) (unequal slot s other) (sym (live-is m false s) ∙ was)
  where
    unequal : (a b : ℕ) → b ≢ a → (a == b) ≡ false
    unequal a b apart = grind (arith, nat_tests, apart)

    of : (below role spare same : Bool) → same ≡ false → (below && ((role || spare) || false)) ≡ false → (below && ((role || (below && (spare || same))) || false)) ≡ false
    of false role spare same none e = refl
    of true true spare same none e = absurd (cc)
    of true false true same none e = absurd (cc)
    of true false false true none e = absurd (cc)
    of true false false false none e = refl

-- ---- the members with the spare

module _ (scope : Scope) (given : Given) (m : Members) (slot : ℕ) (sb : Sb) (made : IsSpareSb given m.newest slot sb) (few : given.slots ≤ 32) (there : slot < given.slots) (long : length m.own ≡ 32)
    (untaken : (role : ℕ) → MayHold m role slot → ⊥) (apart : backup_of scope ≢ slot) (was : AreReshaping scope given m) where
  unheld : (role : ℕ) → holder (role_state (reading_of m) role) ≡ Some slot → ⊥
  unheld role held = untaken role (inl held)

  pub with-placed : IsPlaced given (with_spare slot sb m)
  with-placed = placed-with given m slot sb made was.placed was.unlost was.free few there long unheld

  with-backed : ArePlaced scope given (with_spare slot sb m)
  with-backed = record {
    fit = was.backed.fit;
    roles = was.backed.roles;
    holders = with-placed.holders;
    behind = with-placed.behind;
    members_own = was.backed.members_own;
    apart = was.backed.apart;
    backup = was.backed.backup;
  }

  pub with-reshaping : AreReshaping scope given (with_spare slot sb m)
  with-reshaping = record {
    placed = with-placed;
    backed = with-backed;
    aside = unused-with m slot sb (backup_of scope) apart was.aside;
    active = was.active;
    whole = was.whole;
    unlost = unlost-roles given m slot sb made was.placed was.unlost was.free few there long unheld;
    free = free-with given m slot sb made was.placed was.unlost was.free few there long unheld;
    spares = few-below 32 (λ s. has_spare m.spares s || (slot == s));
  }

-- ---- the backup

section-kept : (scope : Scope) (window : Window) (d e : Disk) → ((k : ℕ) (v : Sector) → IsIn (e (backup_of scope) k) v → IsIn (d (backup_of scope) k) v) → IsSectionKept scope window d e
section-kept scope Closed d e fewer = tt
section-kept scope (Entered span copied true) d e fewer = fewer
section-kept scope (Entered span copied false) d e fewer = tt
section-kept scope (Unsure span) d e fewer = fewer

-- the backup is such a slot, and kept where nothing but superblocks of live slots is written
rest-backup : (scope : Scope) (m : Members) (window : Window) (d e : Disk) → IsUnused m (backup_of scope) → IsRestKept m d e → IsBackupKept scope window d e
rest-backup scope m window d e aside rest = record {
  headers = λ v may. rest (backup_of scope) 0 v (inl (omega arith)) may;
  section = section-kept scope window d e (λ k v may. rest (backup_of scope) k v (inr (inl aside)) may);
}

-- and where slots are flushed
fewer-backup : (scope : Scope) (window : Window) (d e : Disk) → AreFewer d e → IsBackupKept scope window d e
fewer-backup scope window d e fewer = record {
  headers = λ v may. fewer (backup_of scope) 0 v may;
  section = section-kept scope window d e (λ k v may. fewer (backup_of scope) k v may);
}

-- ---- what is told with the new number

-- these numbers are told instead, which are no fewer
more-carried : (told : Ledger) (carried : ℕ → ℕ → Bool) → ((slot number : ℕ) → told.carried slot number ≡ true → carried slot number ≡ true) → IsMoreTold told (record told { carried = carried })
more-carried told carried more = record { size = refl; values = λ x lt v may. may; gone = λ role is. is; unclean = λ is. is; reshaping = λ is. is; carried = more }

-- ---- the call

-- A slot without a part in the array was flushed and looked at, up to the tape `mid`, and then made a spare with this superblock, or lost in this. Others may
-- have been lost; these roles are told of them. The superblock's number is one more that is known then.
pub record IsSpareMade (tells : Type 0) (given : Given) (tape mid tape' : List Operation) (scope : Scope) (old new : Members) (carried carried' : ℕ → ℕ → Bool) (slot : ℕ) (sb : Sb) (roles : ℕ) : Type 0 where
  pub there : slot < given.slots
  pub apart : backup_of scope ≢ slot
  pub untaken : (role : ℕ) → MayHold old role slot → ⊥
  pub does : DoWithout old
  pub made : IsSpareSb given old.newest slot sb
  pub own : length old.own ≡ 32
  pub of_scope : IsOfScope scope given slot sb
  pub unknown : (s : ℕ) → carried s sb.dev_number ≡ false
  pub carries : (slot number : ℕ) → carried slot number ≡ true → carried' slot number ≡ true
  pub known : carried' slot sb.dev_number ≡ true
  pub looked : tells → OnlyFlushesAdded tape mid
  pub second : tells → (sector : Sector) → IsIn (disk given.start mid slot 9) sector → IsSecondHalf sb sector
  pub moved : IsMoved given (with_spare slot sb old) new
  pub since : AreMissingSince (with_spare slot sb old) new roles
  pub clean : is_clean new.newest ≡ is_clean old.newest
  pub grows : Grows tells mid tape'
  pub others : tells → AreOthersPresent (present given mid) (present given tape')
  pub rest : tells → IsRestKept (with_spare slot sb old) (disk given.start mid) (disk given.start tape')
  pub rise : IsRisen tells (with_spare slot sb old) new mid tape'
  pub safe : tells → (world : World) → (told : Ledger) → HasRoomLeft old mid tape' → AreGoneTold told new → IsUncleanTold told old → IsOfScope world.scope given slot sb → ((s : ℕ) → told.carried s sb.dev_number ≡ false)
      → ((sector : Sector) → IsIn (disk given.start mid slot 9) sector → IsSecondHalf sb sector) → HasLiveSlot old
      → IsSafeOver world given told old mid → KeepsSafe world given (with_number slot sb.dev_number told) new mid tape'

module _ (tells : Type 0) (given : Given) (tape mid tape' : List Operation) (scope : Scope) (first : ℕ) (entries : List Entry) (old new : Members) (carried carried' : ℕ → ℕ → Bool)
    (resync : Option ℕ) (course : Course) (buffer : List ℕ) (left : ℕ) (who : Who) (end slot : ℕ) (sb : Sb) (roles spares : ℕ)
    (was : IsMoving tells given tape scope first entries old carried resync course buffer left) (goes : IsCallGoing entries who) (caller : IsFalse (who.caller == 254)) (at_end : tells → end ≡ length tape')
    (did : IsSpareMade tells given tape mid tape' scope old new carried carried' slot sb roles) where
  abbrev with_it : Members
  with_it = with_spare slot sb old

  reshaping : AreReshaping scope given with_it
  reshaping = with-reshaping scope given old slot sb did.made was.slots did.there did.own did.untaken did.apart was.members_are

  unheld-it : (role : ℕ) → holder (role_state (reading_of old) role) ≡ Some slot → ⊥
  unheld-it role held = did.untaken role (inl held)

  list-same : list_length new.newest ≡ list_length old.newest
  list-same = list-alike old.newest new.newest did.moved.reshape did.moved.shape did.moved.size

  live : HasLiveSlot old
  live = without-left given old was.members_are.placed was.members_are.unlost did.does

  others-all : tells → AreOthersPresent (present given tape) (present given tape')
  others-all t s k other = did.others t s k other ∙ (λ i. contents-added given.start tape mid (did.looked t) i s k)

  rise-all : tells → IsRisen ⊤ old new tape tape'
  rise-all t = record {
    left = λ more. live;
    events = λ u more. let risen = did.rise.events t more in let longer = added-longer tape mid (did.looked t) in omega (arith, risen, longer);
  }

  -- ---- what stands

  backup-all : tells → IsBackupKept scope course.window (disk given.start tape) (disk given.start tape')
  backup-all t = rest-backup scope with_it course.window (disk given.start tape) (disk given.start tape') reshaping.aside
      (λ s k v which may. flushed-fewer given.start tape mid (did.looked t) s k v (did.rest t s k v which may))

  stored-all : tells → OpensOnCourse (world_in given tape scope first) → IsStored scope new course.window buffer (disk given.start tape')
  stored-all t on = stored-moves scope given with_it new course.window buffer (disk given.start tape) (disk given.start tape') did.moved (backup-all t)
      (spares-stored scope old with_it course.window buffer (disk given.start tape) (differ-with old slot sb unheld-it) (was.stored t on))

  -- what new members do without the former ones did
  without-all : (shape : Shape) → DoesWithout shape new → DoesWithout shape old
  without-all shape does = spares-without old with_it (differ-with old slot sb unheld-it) shape (shape-without-before given with_it new did.moved shape does)

  stands-all : tells → (sound : Type 0) (list : ℕ → Sector) → StandsSynced sound (λ shape. DoesWithout shape old) resync old course buffer (present given tape) list
      → StandsSynced sound (λ shape. DoesWithout shape new) resync new course buffer (present given tape') list
  stands-all t sound list stands = mended-courses-move sound (λ shape. DoesWithout shape new) given with_it new resync course buffer (present given tape) (present given tape') list reshaping.placed did.moved (others-all t)
      (spares-leave-mended sound (λ shape. DoesWithout shape new) old with_it resync course buffer (present given tape) list (differ-with old slot sb unheld-it)
      (mended-less sound (λ shape. DoesWithout shape new) (λ shape. DoesWithout shape old) resync old course buffer (present given tape) list without-all stands))

  -- a resync is as far
  has : HasResync new resync course
  has = resync-moved {old = with_it} {course = course} did.moved (λ some dirty. did.clean ∙ dirty) was.beside (record { progress = was.progress; beside = was.beside; dirty = λ does. was.dirty (record { old = does.old; final = does.final }) })

  -- ---- each mark

  both-carried : (told : Ledger) → told.carried ≡ carried → IsMoreTold (with_number slot sb.dev_number told) (record told { carried = carried' })
  both-carried told same = more-carried (with_number slot sb.dev_number told) carried' (λ s number is. by s number (told.carried s number) (s == slot) (number == sb.dev_number) refl refl refl is)
    where
      same-as : (a b : ℕ) → (a == b) ≡ true → a ≡ b
      same-as a b e = grind (arith, nat_tests, e)

      by : (s number : ℕ) (a b c : Bool) → told.carried s number ≡ a → (s == slot) ≡ b → (number == sb.dev_number) ≡ c → (a || (b && c)) ≡ true → carried' s number ≡ true
      by s number true b c before here there is = did.carries s number (sym (ap (λ (told : ℕ → ℕ → Bool). told s number) same) ∙ before)
      by s number false true true before here there is = (λ i. carried' (same-as s slot here i) (same-as number sb.dev_number there i)) ∙ did.known
      by s number false true false before here there is = absurd (cc)
      by s number false false c before here there is = absurd (cc)

  keeps-all : tells → (told : Ledger) → told.carried ≡ carried → HasRoomLeft old tape tape' → AreGoneTold told new → IsUncleanTold told old
      → IsSafeOver (world_in given tape scope first) given told old tape → KeepsSafe (world_in given tape scope first) given (record told { carried = carried' }) new tape tape'
  keeps-all t told same room gone unclean before =
      let world = world_in given tape scope first in
      let more = record told { carried = carried' } in
      let longer = added-longer tape mid (did.looked t) in
      let flushed = flushed-safe (OpensFit world) scope given told old tape mid (did.looked t) before in
      let done = did.safe t world told (λ some. let r = room some in omega (arith, r, longer)) gone unclean did.of_scope (λ s. ap (λ (c : ℕ → ℕ → Bool). c s sb.dev_number) same ∙ did.unknown s) (did.second t) live flushed.next in
      safe-then (OpensFit world) scope given more old new tape mid tape'
      (stretch-more (OpensFit world) scope given told more old tape mid (more-carried told carried' (λ s number is. did.carries s number (sym (ap (λ (c : ℕ → ℕ → Bool). c s number) same) ∙ is))) flushed)
      (stretch-more (OpensFit world) scope given (with_number slot sb.dev_number told) more new mid tape' (both-carried told same) done)

  -- ---- what is kept

  module _ (event : Event) (quiet : IsQuiet event) (tell : TellLeft left who end (event ∷ [])) (legal : (world : World) (before : List Entry) (e : Entry) → IsLegalEvent world before e [] event) where
    spare-moves : IsMoving tells given tape' scope first (entries ++ entries_of who end (losses_of roles spares ++ event ∷ [])) new carried' resync course buffer left
    spare-moves =
        carrying-moves tells given tape tape' scope first entries old new carried carried' resync course course buffer buffer left left who end (losses_of roles spares) (IsAmong roles) event did.carries was live goes caller at_end
        (grows-then (record { more = λ t. ((did.looked t).0, (did.looked t).2) }) did.grows) quiet (reshaping-moved scope given with_it new did.moved reshaping) has (few-roles new.newest did.moved.placed.fit.valid)
        (early-losses roles spares) (missing-moved {old = with_it} roles did.moved did.since) list-same (ap (λ (s : Shape). s.level) did.moved.shape) did.clean
        (course-moved given with_it new course did.moved was.course_is) stored-all
        (left-more left entries who end (losses_of roles spares ++ event ∷ []) was.left_told (left-behind left who end (losses_of roles spares) (event ∷ []) (losses-are roles spares) tell))
        (λ t. record {
          rise = rise-all t;
          keeps = λ told same fills more room gone unclean before. keeps-all t told same room gone unclean before;
          listed = λ fills. on t (was.listed t fills);
          legal = λ fills gone level. legal-losses (world_in given tape' scope first) entries who end (losses_of roles spares) (event ∷ []) (losses-are roles spares)
              (legal (world_in given tape' scope first) (entries ++ entries_of who end (losses_of roles spares)) (entry_of who end event), tt, tt);
        })
      where
        on : tells → HasListInCourse (OpensFit (world_in given tape scope first)) old resync course buffer (present given tape) (now (opening_list (world_in given tape scope first)) entries)
            → HasListInCourse (OpensFit (world_in given tape scope first)) new resync course buffer (present given tape') (now (opening_list (world_in given tape scope first)) entries)
        on t l = record {
          list = l.list;
          is = λ x lt. l.is x (subst (λ (n : ℕ). x < n) list-same lt);
          stands = stands-all t (OpensFit (world_in given tape scope first)) l.list l.stands;
        }

  -- It is a spare: how many steps are left isn't told then.
  pub added-moves : IsMoving tells given tape' scope first (entries ++ entries_of who end (losses_of roles spares ++ Added slot ∷ [])) new carried' resync course buffer left
  added-moves = spare-moves (Added slot) (record { adds = refl; gives = refl; ends = refl; still = λ x values. refl; level = λ n. refl; other = refl }) (λ told is. tt) (λ world before e. tt)

  -- It was lost in this.
  pub added-lost-moves : IsMoving tells given tape' scope first (entries ++ entries_of who end (losses_of roles spares ++ Refused (SlotFault slot) ∷ [])) new carried' resync course buffer left
  added-lost-moves = spare-moves (Refused (SlotFault slot)) (quiet-refusal (SlotFault slot)) (λ told is. is) (λ world before e. tt)

-- ---- the number of a new spare

-- the device numbers that slots may bear may be told anew
pub moves-anew : (tells : Type 0) (given : Given) (tape : List Operation) (scope : Scope) (first : ℕ) (entries : List Entry) (m : Members) (carried carried' : ℕ → ℕ → Bool)
    (resync : Option ℕ) (course : Course) (buffer : List ℕ) (left : ℕ) → AreToldAnew m carried carried'
    → IsMoving tells given tape scope first entries m carried resync course buffer left → IsMoving tells given tape scope first entries m carried' resync course buffer left
moves-anew tells given tape scope first entries m carried carried' resync course buffer left anew was = record {
  slots = was.slots;
  members_are = was.members_are;
  course_is = was.course_is;
  sizes_are = was.sizes_are;
  left_told = was.left_told;
  progress = was.progress;
  beside = was.beside;
  pending = was.pending;
  dirty = was.dirty;
  levelled = was.levelled;
  gone = was.gone;
  unclean = was.unclean;
  recorded = was.recorded;
  last_step = was.last_step;
  stored = was.stored;
  listed = was.listed;
  safe = λ t fills room. history-anew ⊤ (world_in given tape scope first) given m carried carried' true entries anew (was.safe t fills room);
}

-- ---- a slot that isn't made a spare

-- It failed at the first look, behind flushes alone.
pub looked-moves : (tells : Type 0) (given : Given) (tape tape' : List Operation) (scope : Scope) (first : ℕ) (entries : List Entry) (m : Members) (carried : ℕ → ℕ → Bool)
    (resync : Option ℕ) (course : Course) (buffer : List ℕ) (left : ℕ) (who : Who) (end slot : ℕ)
    → IsMoving tells given tape scope first entries m carried resync course buffer left → HasLiveSlot m → IsCallGoing entries who → IsFalse (who.caller == 254) → (tells → end ≡ length tape') → (tells → OnlyFlushesAdded tape tape')
    → IsMoving tells given tape' scope first (entries ++ entries_of who end (Refused (SlotFault slot) ∷ [])) m carried resync course buffer left
looked-moves tells given tape tape' scope first entries m carried resync course buffer left who end slot was live goes caller at_end looked =
    early-moves tells given tape tape' scope first entries m m carried resync resync course course buffer buffer left left who end [] (λ role. ⊥) (Refused (SlotFault slot)) was live goes caller at_end
    (record { more = λ t. ((looked t).0, (looked t).2) }) (quiet-refusal (SlotFault slot)) was.members_are (resync-of was) refl (few-roles m.newest was.members_are.placed.fit.valid) early-none (λ role lt gone. inl (lt, gone)) refl refl refl was.course_is
    (λ t on. stored-moves scope given m m course.window buffer (disk given.start tape) (disk given.start tape') (moved-same given given m m refl refl was.members_are.placed was.members_are.unlost)
    (fewer-backup scope course.window (disk given.start tape) (disk given.start tape') (flushed-fewer given.start tape tape' (looked t))) (was.stored t on))
    (left-more left entries who end (Refused (SlotFault slot) ∷ []) was.left_told (λ told is. is))
    (λ t. record {
      rise = record { left = λ live. live; events = λ u live. let longer = added-longer tape tape' (looked t) in omega (arith, longer) };
      keeps = λ told fills more room gone unclean before. flushed-safe (OpensFit (world_in given tape scope first)) scope given told m tape tape' (looked t) before;
      listed = λ fills. subst (λ (c : Contents). HasListInCourse (OpensFit (world_in given tape scope first)) m resync course buffer c (now (opening_list (world_in given tape scope first)) entries))
          (sym (contents-added given.start tape tape' (looked t))) (was.listed t fills);
      legal = λ fills gone level. (tt, tt, tt);
    })

-- What it is refused for before it is touched is right by the history.
pub unadded-right : (world : World) (before : List Entry) (given : Given) (backup : Option ℕ) (slot : ℕ) (m : Members) → IsPlaced given m → AreToldGone world before m
    → tolerance_of (level_at world before) ≡ tolerance (shape_of m.newest) → (refusal : Refusal) → IsUnaddable given backup slot m refusal → IsRefusedRight world before refusal
unadded-right world before given backup slot m placed gone level (TooManyMissing count most) why = refused-right world before given m placed gone level (TooManyMissing count most) why.2
unadded-right world before given backup slot m placed gone level (PastEnd visible) why = absurd why
unadded-right world before given backup slot m placed gone level (NotResynced role) why = absurd why
unadded-right world before given backup slot m placed gone level refusal why = tt

pub unadded-moves : (tells : Type 0) (given : Given) (tape : List Operation) (scope : Scope) (first : ℕ) (entries : List Entry) (m : Members) (carried : ℕ → ℕ → Bool)
    (resync : Option ℕ) (course : Course) (buffer : List ℕ) (left : ℕ) (who : Who) (end : ℕ) (backup : Option ℕ) (slot : ℕ) (refusal : Refusal)
    → IsMoving tells given tape scope first entries m carried resync course buffer left → IsCallGoing entries who → IsFalse (who.caller == 254) → (tells → end ≡ length tape) → IsUnaddable given backup slot m refusal
    → IsMoving tells given tape scope first (entries ++ entries_of who end (Refused refusal ∷ [])) m carried resync course buffer left
unadded-moves tells given tape scope first entries m carried resync course buffer left who end backup slot refusal was goes caller at_end why =
    resting-moves tells given tape scope first entries m carried resync course buffer left who end (Refused refusal) was goes caller at_end (quiet-refusal refusal) (λ told is. is)
    (λ t right. unadded-right (world_in given tape scope first) entries given backup slot m was.members_are.placed (was.gone t right) (was.levelled t right) refusal why)
