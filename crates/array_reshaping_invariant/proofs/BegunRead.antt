-- What is read behind the begin of a reshape says the old shape, also where all live slots were lost in its update.
use Rattle.std.proofs.Common.{◌≡◌, List, length, Some, sym, subst}
use Rattle.std.specs.Prelude.{⊤, false, ℕ}
use Rattle.history_invariant_laws.specs.raid_types_the_Shape.{Shape}
use Rattle.reshape_progress_resync_laws.specs.bank_the_Operation.{Operation}
use Rattle.reshape_progress_resync_laws.specs.bank_Given.{Given}
use Rattle.reshape_progress_resync_laws.specs.bank_Tape.{Contents, EachMark, disk}
use Rattle.reshape_progress_resync_laws.proofs.bank_Marks.{each_mark-along}
use Rattle.reshape_progress_resync_laws.specs.bank_backup_Written.{cleared_header}
use Rattle.reshape_progress_resync_laws.specs.bank_backup_Storing.{IsHeading}
use Rattle.reshape_progress_resync_laws.proofs.bank_backup_StoringLaws.{heading-along}
use Rattle.reshape_progress_resync_laws.specs.reshape_geometry_Geometry.{AreInForce}
use Rattle.reshape_progress_resync_laws.specs.sb_specs_the_Members.{Members}
use Rattle.reshape_progress_resync_laws.specs.sb_specs_Held.{AreDrawn}
use Rattle.reshape_progress_resync_laws.specs.sb_specs_Reading.{Scope, is_reshaping, shape_of}
use Rattle.reshape_progress_resync_laws.specs.crash_views_Views.{Ledger}
use Rattle.reshape_progress_resync_laws.specs.crash_safety_laws_Safety.{HasLiveSlot, HasRoomLeft}
use Rattle.reshape_progress_resync_laws.specs.crash_safety_laws_Steady.{IsSteady, IsSafeNow}
use Rattle.reshape_progress_resync_laws.proofs.crash_safety_laws_ChangeSafe.{told-changed}
use Rattle.reshape_progress_resync_laws.proofs.crash_safety_laws_FitKinds.{taking-is-fit}
use Rattle.reshape_progress_resync_laws.specs.reshape_sb_updates_Beginning.{beginning}
use Rattle.reshape_progress_resync_laws.proofs.reshape_sb_updates_BegunPlan.{is-beginning, planned-begun-is, planned-fits-is}
use Rattle.reshape_progress_resync_laws.specs.reshape_begin_end_Begun.{IsBegunBehind}
use Rattle.reshape_progress_resync_laws.proofs.reshape_begin_end_Cleared.{marks-of, steady-then, room-longer}
use Rattle.reshape_progress_resync_laws.specs.sb_specs_Updating.{planned_newest}
use Rattle.array_reshaping_invariant.proofs.ReadShapes.{IsShapeRead, IsEitherRead, same-shape, either-read_since}

module _ (tells : Type 0) (sound : Type 0) (scope : Scope) (given : Given) (told : Ledger) (backup : ℕ) (uuid : List ℕ) (to : Shape) (old new : Members) (before after : List Operation)
    (there : scope.backup ≡ Some backup) (array : scope.uuid ≡ uuid) (sixteen : length scope.uuid ≡ 16) (still : is_reshaping old.newest ≡ false) (roles : length old.roles ≡ (shape_of old.newest).disks)
    (forced : AreInForce (shape_of old.newest) to old.newest.size) (level : to.level ≡ old.newest.level) (live : HasLiveSlot old) (room : HasRoomLeft old before after)
    (did : IsBegunBehind tells given backup uuid to old new before after) (t : tells) (safe : IsSafeNow sound scope given told old (disk given.start before)) where
  marks : EachMark ⊤ given.start before did.mid (IsHeading backup (cleared_header scope.uuid) (disk given.start before))
  marks = marks-of scope given.start before did.mid backup uuid (disk given.start before) t array
      (subst (λ (l : List Operation). EachMark tells given.start before l (IsHeading backup (cleared_header uuid) (disk given.start before))) (sym (did.cleared t))
      (each_mark-along tells given.start before _ (IsHeading backup (cleared_header uuid) (disk given.start before)) (heading-along backup (cleared_header uuid) (disk given.start before))))

  steady : IsSteady sound scope given told old (disk given.start did.mid)
  steady = steady-then sound scope given told old backup before did.mid there sixteen still live marks safe

  -- what is read at its end says the shapes that the superblocks said before it, or as planned
  pub begun-either : (c : Contents) → AreDrawn (disk given.start after) c → IsEitherRead scope c old.newest (planned_newest (beginning old to).shared old.newest)
  begun-either =
      either-read_since scope given (beginning old to) old new did.mid after steady.former steady.since (told-changed t did.update)
      (room-longer old before did.mid after (marks.longer tt) room live)
      (taking-is-fit scope steady.former old (beginning old to) (disk given.start did.mid) steady.since (is-beginning old to still roles forced level).taking)
      (planned-fits-is old to still roles forced level)

  pub begun-read : (c : Contents) → AreDrawn (disk given.start after) c → IsShapeRead scope c (shape_of old.newest)
  begun-read c drawn =
      same-shape scope c old.newest (planned_newest (beginning old to).shared old.newest) (planned-begun-is old to still roles forced level).old (begun-either c drawn)
