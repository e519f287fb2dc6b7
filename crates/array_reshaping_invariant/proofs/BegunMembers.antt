-- The members behind the begin of a reshape, and that the array keeps its record then, from what `begin` leaves where it isn't refused.
use Rattle.std.proofs.Common.{◌≡◌, ◌≢◌, ◌⊎◌, inl, inr, ℕ, ◌+◌, ◌≤◌, ◌==◌, ◌^◌, ◌-◌, Bool, true, false, Option, Some, None, List, ◌∷◌, ◌++◌, length, sym, ◌∙◌, ap, subst, arith}
use Rattle.std.specs.Prelude.{IsFalse, IfSome}
use Rattle.std.specs.Option.{option_map_or}
use Rattle.std.proofs.lemmas.Bool.{cases_lt}
use Rattle.std.proofs.lemmas.List.{get_or_past}
use Rattle.history_invariant_laws.specs.raid_types_Search.{least_below, tabulate}
use Rattle.history_invariant_laws.specs.raid_types_the_Who.{Who}
use Rattle.history_invariant_laws.specs.raid_types_the_Shape.{Shape}
use Rattle.history_invariant_laws.specs.raid_types_the_Role.{Role}
use Rattle.history_invariant_laws.specs.raid_types_the_Role_TheVariants.{Recovering, Missing}
use Rattle.history_invariant_laws.proofs.raid_types_Tabulated.{length-tabulate, get_or-tabulate}
use Rattle.reshape_progress_resync_laws.specs.bank_the_Operation.{Operation}
use Rattle.reshape_progress_resync_laws.specs.bank_Given.{Given}
use Rattle.reshape_progress_resync_laws.specs.bank_Tape.{disk}
use Rattle.reshape_progress_resync_laws.specs.sb_specs_the_Give.{Give}
use Rattle.reshape_progress_resync_laws.specs.sb_specs_the_Members.{Members}
use Rattle.reshape_progress_resync_laws.specs.sb_specs_Outcome.{is_planned_holder, held_state, planned_state}
use Rattle.reshape_progress_resync_laws.specs.sb_specs_Reading.{Scope, shape_of, role_count, role_state, holder, data_offset_of}
use Rattle.reshape_progress_resync_laws.specs.sb_specs_Update.{give_of}
use Rattle.reshape_progress_resync_laws.specs.stripe_row_Rows.{reading_of, present}
use Rattle.reshape_progress_resync_laws.specs.history_the_Entry.{Entry}
use Rattle.reshape_progress_resync_laws.specs.history_the_Event_TheVariants.{Step}
use Rattle.reshape_progress_resync_laws.specs.history_the_StepKind_TheVariants.{Begun}
use Rattle.reshape_progress_resync_laws.specs.history_Legal.{told_left}
use Rattle.reshape_progress_resync_laws.specs.history_Losses.{is_unsynced}
use Rattle.reshape_progress_resync_laws.specs.history_Plain.{entries_of}
use Rattle.reshape_progress_resync_laws.specs.crash_views_Regions.{backup_of, ArePlaced}
use Rattle.reshape_progress_resync_laws.specs.crash_reshape_laws_Ends.{IsCleared}
use Rattle.reshape_progress_resync_laws.specs.crash_reshape_laws_Plans.{HasNoneRecovering}
use Rattle.reshape_progress_resync_laws.specs.array_members_Lacking.{AreOtherRowsKept}
use Rattle.reshape_progress_resync_laws.specs.array_members_Moving.{Grows}
use Rattle.reshape_progress_resync_laws.specs.array_members_Rebuilding.{AreSparesFree}
use Rattle.reshape_progress_resync_laws.proofs.array_members_Fit.{roles-still}
use Rattle.reshape_progress_resync_laws.proofs.sb_safe_updates_Unused.{unused-moved}
use Rattle.history_invariant_laws.specs.history_append_Losing.{losses_of}
use Rattle.reshape_progress_resync_laws.specs.reshape_sb_updates_Beginning.{beginning, goes_back}
use Rattle.reshape_progress_resync_laws.proofs.reshape_sb_updates_BegunPlan.{is-begun}
use Rattle.reshape_progress_resync_laws.proofs.reshape_sb_updates_NewRoles.{new-or}
use Rattle.reshape_progress_resync_laws.specs.reshape_begin_end_Begun.{begun_plan}
use Rattle.reshape_progress_resync_laws.proofs.reshape_begin_end_BeginLaws.{gives-live, begun-placed}
use Rattle.history_invariant_laws.specs.history_invariant_Recorded.{IsCallGoing, IsOpenBehind}
use Rattle.history_invariant_laws.specs.history_invariant_Safe.{world_in}
use Rattle.reshape_progress_resync_laws.specs.reshape_progress_Laws.{closed}
use Rattle.array_reshaping_invariant.specs.Moving.{IsStillKept, IsMoving}
use Rattle.array_reshaping_invariant.proofs.BackupKept.{begun-aside}
use Rattle.array_reshaping_invariant.proofs.Beginning.{IsBeginningCall}
use Rattle.array_reshaping_invariant.proofs.Begun.{AreBegun, begun-moves}
use Rattle.array_reshaping_invariant.proofs.BegunCall.{IsBegunBy, begun-call}
use Rattle.array_reshaping_invariant.proofs.MembersMove.{backed-moved}

-- ---- no slot recovers a role

module _ (old : Members) (to : Shape) (whole : HasNoneRecovering old) where
  abbrev gives : List Give
  gives = (beginning old to).gives

  -- the plan gives roles whole
  begun-whole : HasNoneRecovering (begun_plan old to)
  begun-whole role slot is = elim (cases_lt role (role_count (beginning old to).shared)) [
    | inl below ↦ of (least_below 32 (is_planned_holder old.roles gives old.lost role))
        (sym (get_or-tabulate (role_count (beginning old to).shared) (planned_state old.roles gives old.lost) role Missing below) ∙ is)
    | inr past ↦ absurd (
        let none = get_or_past (role_list (role_count (beginning old to).shared)) role Missing
        (let long = length-tabulate (role_count (beginning old to).shared) (planned_state old.roles gives old.lost) in omega (arith, past, long)) in
        let both = sym none ∙ is in cc)
  ]
    where
      role_list : ℕ → List Role
      role_list n = tabulate n (planned_state old.roles gives old.lost)

      of : (o : Option ℕ) → option_map_or (λ t. held_state (role_state (reading_of old) role) (give_of gives t) t) o Missing ≡ Recovering slot → ⊥
      of None e = absurd (cc)
      of (Some t) e = elim (new-or old.spares (shape_of old.newest).disks to.disks t) [
        | inl same ↦ whole role slot (ap (λ (g : Give). held_state (role_state (reading_of old) role) g t) (sym same) ∙ e)
        | inr new ↦ absurd (let both = ap (λ (g : Give). held_state (role_state (reading_of old) role) g t) (sym new.1.gets) ∙ e in cc)
      ]

-- ---- the members

module _ (tells : Type 0) (given : Given) (tape tape' : List Operation) (scope : Scope) (first : ℕ) (entries : List Entry) (backup : ℕ) (uuid : List ℕ) (to : Shape) (old new : Members) (carried carried' : ℕ → ℕ → Bool) (roles : ℕ)
    (was : IsStillKept tells given tape scope first entries old carried) (did : IsBegunBy tells given tape tape' scope backup uuid to old new roles) (whole : HasNoneRecovering old) (free : AreSparesFree given old)
    (long : length old.own ≡ 32) (still_free : AreSparesFree given new) (spares : length new.spares ≤ 32) where
  pub begun-members : AreBegun scope given old (begun_plan old to) new
  begun-members = record {
    members_are = record {
      placed = did.moved.placed;
      backed = backed-moved scope given (begun_plan old to) new did.moved plan-placed;
      aside = unused-moved given (begun_plan old to) new did.moved (backup_of scope)
          (begun-aside scope given backup uuid to old (gives-live given old to was.still same_roles did.in_force did.level was.placed free) did.backed did.placed);
      active = did.newest.active;
      whole = λ role slot is. begun-whole old to whole role slot (sym (did.moved.states role slot (ap holder is)) ∙ is);
      unlost = did.moved.unlost;
      free = still_free;
      spares = spares;
    };
    begun = is-begun old to was.still same_roles did.in_force did.level old.lost;
    backed = plan-placed;
    moved = did.moved;
    clean = ap (λ (n : ℕ). n == 2 ^ 64 - 1) did.newest.clean;
  }
    where
      same_roles : length old.roles ≡ (shape_of old.newest).disks
      same_roles = roles-still given old was.placed was.still

      plan-placed : ArePlaced scope given (begun_plan old to)
      plan-placed = begun-placed given old to was.still same_roles did.in_force did.level was.placed free scope backup uuid did.backed did.placed long

  -- ---- the array keeps its record

  -- no row is written: neither the superblocks nor the backup's header are rows
  pub begun-rows : tells → ((s k : ℕ) → k ≢ 8 → (s ≢ backup) ⊎ (k ≢ 0) → present given tape' s k ≡ present given tape s k) → AreOtherRowsKept (λ row. ⊥) (reading_of new) (present given tape) (present given tape')
  begun-rows t others row out role slot held =
      let far = did.moved.placed.behind role slot held in
      others slot (data_offset_of (reading_of new) slot + row) (λ is. absurd (omega (arith, far, is))) (inr (λ is. absurd (omega (arith, far, is))))

  -- So a reshape that begins in an array that keeps its record leaves one that keeps it in the reshape: from what `begin` says of its call.
  pub array-begins : (buffer : List ℕ) (left : ℕ) (who : Who) (end lost_spares : ℕ) → goes_back (shape_of old.newest) to ≡ false → (tells → is_unsynced (world_in given tape scope first) entries ≡ false) → (goes : IsCallGoing entries who) → IsFalse (who.caller == 254) → (tells → end ≡ length tape') → Grows tells tape tape'
      → IfSome (told_left entries) (λ n. n ≡ left + 1) → left ≢ 0 → ((slot number : ℕ) → carried slot number ≡ true → carried' slot number ≡ true) → (tells → IsCleared scope (disk given.start tape'))
      → (tells → (s k : ℕ) → k ≢ 8 → (s ≢ backup) ⊎ (k ≢ 0) → present given tape' s k ≡ present given tape s k) → (tells → IsOpenBehind (world_in given tape' scope first) goes.call)
      → IsMoving tells given tape' scope first (entries ++ entries_of who end (Step Begun left ∷ losses_of roles lost_spares)) new carried' None (closed 0) buffer left
  array-begins buffer left who end lost_spares forward synced goes caller at_end grows told some numbers cleared others behind =
      begun-moves tells given tape tape' scope first entries old (begun_plan old to) new carried carried' buffer left who end roles lost_spares was synced goes caller at_end grows told some begun-members cleared
      (λ t. begun-rows t (others t)) behind (λ t. call t)
    where
      Then : List Operation → Type 0
      Then l = IsBegunBy tells given tape l scope backup uuid to old new roles → IsBeginningCall given tape scope first entries old (begun_plan old to) new carried carried' roles l

      call : tells → IsBeginningCall given tape scope first entries old (begun_plan old to) new carried carried' roles tape'
      call t =
          let g = grows.more t in
          subst Then (sym g.1) (λ by. begun-call tells given tape g.0 scope first entries backup uuid to old new carried carried' roles was t forward by numbers) did
