-- The backup has no part in an array in a reshape: it holds no role and is no spare. So what a call leaves of such slots it leaves of the backup.
use Rattle.std.proofs.Common.{◌≡◌, ℕ, ◌&&◌, ◌||◌, nat_lt, Bool, true, false, List, refl, sym, ◌∙◌, ap, subst}
use Rattle.std.specs.List.{list_any}
use Rattle.history_invariant_laws.specs.raid_types_the_Shape.{Shape}
use Rattle.history_invariant_laws.specs.raid_types_Sectors.{Sector}
use Rattle.reshape_progress_resync_laws.specs.bank_Given.{Given}
use Rattle.reshape_progress_resync_laws.specs.bank_Tape.{IsIn}
use Rattle.reshape_progress_resync_laws.specs.sb_specs_the_Members.{Members}
use Rattle.reshape_progress_resync_laws.specs.sb_specs_Outcome.{is_in_update, AreGivesOfLive}
use Rattle.reshape_progress_resync_laws.specs.sb_specs_Reading.{Scope}
use Rattle.reshape_progress_resync_laws.specs.sb_specs_Reads.{has_spare}
use Rattle.reshape_progress_resync_laws.specs.sb_specs_Update.{is_held_by, is_live, is_added}
use Rattle.reshape_progress_resync_laws.specs.crash_views_Regions.{backup_of, ArePlaced}
use Rattle.reshape_progress_resync_laws.specs.crash_views_Views.{Disk}
use Rattle.reshape_progress_resync_laws.proofs.crash_views_Headers.{backup-is}
use Rattle.reshape_progress_resync_laws.specs.crash_safety_laws_Marking.{marking}
use Rattle.reshape_progress_resync_laws.proofs.crash_safety_laws_PlannedRoles.{live-was}
use Rattle.reshape_progress_resync_laws.proofs.crash_safety_laws_Without.{any-holds, live-of}
use Rattle.reshape_progress_resync_laws.specs.array_members_Moving.{IsMoved}
use Rattle.reshape_progress_resync_laws.specs.sb_safe_updates_Unused.{IsUnused, IsUnusedKept}
use Rattle.reshape_progress_resync_laws.specs.reshape_sb_updates_Beginning.{beginning}
use Rattle.reshape_progress_resync_laws.specs.reshape_begin_end_Begun.{begun_plan, IsBackupOf}
use Rattle.reshape_progress_resync_laws.specs.reshape_request_the_Window.{Window}
use Rattle.reshape_progress_resync_laws.specs.reshape_request_the_Window_TheVariants.{Closed, Entered, Unsure}
use Rattle.reshape_progress_resync_laws.specs.reshape_progress_Course.{IsSectionKept, IsBackupKept, IsStored}
use Rattle.reshape_progress_resync_laws.proofs.reshape_progress_Courses.{stored-moves}
use Rattle.array_reshaping_invariant.specs.Moving.{AreReshaping}

-- ---- a call

-- A stop leaves nothing new of the backup then, whatever the window is.
pub backup-kept : (scope : Scope) (given : Given) (m : Members) (window : Window) (d e : Disk) → AreReshaping scope given m → IsUnusedKept m d e → IsBackupKept scope window d e
backup-kept scope given m window d e are kept = record { headers = λ v may. nothing-new 0 v may; section = of window }
  where
    nothing-new : (k : ℕ) (v : Sector) → IsIn (e (backup_of scope) k) v → IsIn (d (backup_of scope) k) v
    nothing-new k v may = kept (backup_of scope) k v are.aside may

    of : (window : Window) → IsSectionKept scope window d e
    of Closed = tt
    of (Entered span copied true) = nothing-new
    of (Entered span copied false) = tt
    of (Unsure span) = nothing-new

-- So members that lost slots have the same stored.
pub stored-kept : (scope : Scope) (given : Given) (old new : Members) (window : Window) (buffer : List ℕ) (d e : Disk) → AreReshaping scope given old → IsMoved given old new → IsUnusedKept old d e
    → IsStored scope old window buffer d → IsStored scope new window buffer e
stored-kept scope given old new window buffer d e are moved kept was = stored-moves scope given old new window buffer d e moved (backup-kept scope given old window d e are kept) was

-- ---- the begin

-- a slot that isn't live has no part
unused-of : (m : Members) (s : ℕ) → is_live m.roles m.spares s ≡ false → IsUnused m s
unused-of m s idle = live-of m (marking m false) refl s ∙ ap (λ (b : Bool). nat_lt s 32 && b) idle ∙ never (nat_lt s 32)
  where
    never : (t : Bool) → (t && false) ≡ false
    never true = refl
    never false = refl

-- The update that begins a reshape gives roles to spares alone, and makes no slot a spare: the backup has no part in the array that it plans.
module _ (scope : Scope) (given : Given) (slot : ℕ) (uuid : List ℕ) (to : Shape) (old : Members) (gives : AreGivesOfLive old (beginning old to)) (is : IsBackupOf scope old to slot uuid) (placed : ArePlaced scope given old) where
  idle-before : is_live old.roles old.spares slot ≡ false
  idle-before = of (list_any (is_held_by slot) old.roles) refl
    where
      of : (b : Bool) → list_any (is_held_by slot) old.roles ≡ b → is_live old.roles old.spares slot ≡ false
      of true holds = absurd (let found = any-holds slot old.roles holds in placed.members_own found.0 slot found.1 is.backup)
      of false none = ap (λ (b : Bool). b || has_spare old.spares slot) none ∙ is.apart

  idle-planned : (b : Bool) → is_live (begun_plan old to).roles (begun_plan old to).spares slot ≡ b → b ≡ false
  idle-planned true live = absurd (
      let was = live-was old (begun_plan old to) (beginning old to) gives refl refl slot live in
      let none : is_in_update old (beginning old to) slot ≡ false = ap (λ (b : Bool). b || is_added (beginning old to).added slot) idle-before in
      let both = sym was.1 ∙ none in
      cc
      )
  idle-planned false idle = refl

  pub begun-aside : IsUnused (begun_plan old to) (backup_of scope)
  begun-aside = subst (λ (s : ℕ). IsUnused (begun_plan old to) s) (sym (backup-is scope slot is.backup))
      (unused-of (begun_plan old to) slot (idle-planned (is_live (begun_plan old to).roles (begun_plan old to).spares slot) refl))
