-- What `begin` leaves where it isn't refused is what is asked of a call by which a reshape begins, if that leaves the list's length.
use Rattle.std.proofs.Common.{◌≡◌, ◌⊎◌, ℕ, ◌*◌, ◌<◌, nat_lt, min, Bool, true, false, List, ◌++◌, length, sym, ◌∙◌, ap, subst, arith}
use Rattle.std.proofs.lemmas.Bool.Decides.{nat_tests}
use Rattle.history_invariant_laws.specs.raid_types_the_Shape.{Shape}
use Rattle.history_invariant_laws.specs.raid_types_Shapes.{data_disks}
use Rattle.reshape_progress_resync_laws.specs.bank_the_Operation.{Operation}
use Rattle.reshape_progress_resync_laws.specs.bank_Given.{Given}
use Rattle.reshape_progress_resync_laws.specs.bank_Tape.{contents, disk}
use Rattle.reshape_progress_resync_laws.specs.sb_codec_the_Sb.{Sb}
use Rattle.reshape_progress_resync_laws.specs.reshape_geometry_Geometry.{AreInForce}
use Rattle.reshape_progress_resync_laws.specs.sb_specs_the_Members.{Members}
use Rattle.reshape_progress_resync_laws.specs.sb_specs_Held.{AreDrawn}
use Rattle.reshape_progress_resync_laws.specs.sb_specs_Reading.{Scope, is_reshaping, shape_of, list_length, role_count}
use Rattle.reshape_progress_resync_laws.proofs.sb_specs_ValidFields.{few-roles}
use Rattle.reshape_progress_resync_laws.specs.stripe_row_Rows.{reading_of, is_missing}
use Rattle.reshape_progress_resync_laws.specs.history_the_Entry.{Entry}
use Rattle.reshape_progress_resync_laws.specs.history_Epochs.{HasRoomForEvents}
use Rattle.reshape_progress_resync_laws.specs.history_Sound.{OpensFit}
use Rattle.reshape_progress_resync_laws.specs.history_World.{World, contents_at}
use Rattle.reshape_progress_resync_laws.specs.crash_views_Regions.{ArePlaced}
use Rattle.reshape_progress_resync_laws.specs.crash_views_Views.{Ledger}
use Rattle.reshape_progress_resync_laws.proofs.crash_views_Stands.{final-still}
use Rattle.reshape_progress_resync_laws.specs.crash_safety_laws_Changing.{IsSafeChange}
use Rattle.reshape_progress_resync_laws.specs.crash_safety_laws_Safety.{HasLiveSlot, HasRoomLeft, IsRisen}
use Rattle.reshape_progress_resync_laws.specs.crash_safety_laws_Steady.{IsSafeOver, AreGoneTold}
use Rattle.reshape_progress_resync_laws.specs.crash_reshape_laws_Ends.{IsToldWith}
use Rattle.reshape_progress_resync_laws.specs.array_members_Moving.{IsMoved}
use Rattle.reshape_progress_resync_laws.proofs.array_members_Fit.{count-alike, roles-still}
use Rattle.reshape_progress_resync_laws.proofs.array_members_HeldRows.{missing-moved}
use Rattle.reshape_progress_resync_laws.proofs.array_members_Still.{count-still}
use Rattle.reshape_progress_resync_laws.specs.reshape_sb_updates_Beginning.{HasBegun, goes_back}
use Rattle.reshape_progress_resync_laws.proofs.reshape_sb_updates_BegunPlan.{planned-begun-is}
use Rattle.reshape_progress_resync_laws.specs.reshape_begin_end_Begun.{IsBackupOf, IsBegunBehind, begun_plan}
use Rattle.history_invariant_laws.specs.history_invariant_Safe.{world_in}
use Rattle.history_invariant_laws.specs.history_invariant_Told.{told_now}
use Rattle.history_invariant_laws.proofs.history_invariant_Calls.{now-live}
use Rattle.history_invariant_laws.proofs.history_invariant_Growing.{room-now}
use Rattle.history_invariant_laws.proofs.history_invariant_Lengths.{now-drawn}
use Rattle.history_invariant_laws.specs.Reliable.{IsReliable}
use Rattle.array_reshaping_invariant.specs.Moving.{IsStillKept}
use Rattle.array_reshaping_invariant.proofs.Beginning.{IsBeginningCall, safe-over}
use Rattle.history_invariant_laws.proofs.Behind.{IsAmong}
use Rattle.array_reshaping_invariant.proofs.BegunRead.{begun-read}
use Rattle.array_reshaping_invariant.proofs.ReadShapes.{IsShapeRead}

-- ---- the length

-- of two shapes of which the new one has no fewer data disks the list is as long as the old one's
least : (a b : ℕ) → nat_lt b a ≡ false → min a b ≡ min a a
least a b is = grind (arith, nat_tests, is)

pub begun-length : (former newest : Sb) (to : Shape) → HasBegun former to newest → is_reshaping former ≡ false → goes_back (shape_of former) to ≡ false → list_length newest ≡ list_length former
begun-length former newest to has still forward =
    (λ i. min (data_disks (has.old i)) (data_disks (has.new i)) * has.size i)
    ∙ ap (λ (n : ℕ). n * former.size) (least (data_disks (shape_of former)) (data_disks to) forward)
    ∙ ap (λ (s : Shape). min (data_disks (shape_of former)) (data_disks s) * former.size) (sym (final-still former still))

-- ---- the call

-- What is asked before it, and what it leaves where it isn't refused; the slots that its update lost were of these roles, or of such as were missing.
pub record IsBegunBy (tells : Type 0) (given : Given) (tape tape' : List Operation) (scope : Scope) (backup : ℕ) (uuid : List ℕ) (to : Shape) (old new : Members) (roles : ℕ) : Type 0 where
  pub in_force : AreInForce (shape_of old.newest) to old.newest.size
  pub level : to.level ≡ old.newest.level
  pub live : HasLiveSlot old
  pub sixteen : length scope.uuid ≡ 16
  pub backed : IsBackupOf scope old to backup uuid
  pub placed : ArePlaced scope given old
  pub begun : IsBegunBehind tells given backup uuid to old new tape tape'
  pub newest : HasBegun old.newest to new.newest
  pub moved : IsMoved given (begun_plan old to) new
  pub rise : IsRisen tells old new tape tape'
  pub since : (role : ℕ) → role < role_count new.newest → is_missing (reading_of new) role ≡ true → ((role < (shape_of old.newest).disks) × (is_missing (reading_of old) role ≡ true)) ⊎ IsAmong roles role
  pub safe : tells → (world : World) → (told more : Ledger) → HasRoomLeft old tape tape' → HasLiveSlot old → IsBackupOf world.scope old to backup uuid → ArePlaced world.scope given old
      → IsToldWith told more (begun_plan old to) → AreGoneTold told old → AreGoneTold more new → ((slot number : ℕ) → told.carried slot number ≡ true → more.carried slot number ≡ true)
      → IsSafeOver world given told old tape → IsSafeChange (OpensFit world) world.scope given told more new tape tape'

pub begun-call : (tells : Type 0) (given : Given) (tape ops : List Operation) (scope : Scope) (first : ℕ) (entries : List Entry) (backup : ℕ) (uuid : List ℕ) (to : Shape) (old new : Members) (carried carried' : ℕ → ℕ → Bool) (roles : ℕ)
    → IsStillKept tells given tape scope first entries old carried → tells → goes_back (shape_of old.newest) to ≡ false → IsBegunBy tells given tape (tape ++ ops) scope backup uuid to old new roles
    → ((slot number : ℕ) → carried slot number ≡ true → carried' slot number ≡ true) → IsBeginningCall given tape scope first entries old (begun_plan old to) new carried carried' roles (tape ++ ops)
begun-call tells given tape ops scope first entries backup uuid to old new carried carried' roles was t forward did numbers = record {
  live = did.live;
  count = count-still old.newest was.still;
  planned = begun-length old.newest (begun_plan old to).newest to (planned-begun-is old to was.still same_roles did.in_force did.level) was.still forward;
  sized = begun-length old.newest new.newest to did.newest was.still forward;
  few = few-roles new.newest did.moved.placed.fit.valid;
  numbers = numbers;
  since = did.since;
  fewer = λ role lt miss. (
    subst (λ (n : ℕ). role < n) (sym (count-alike (begun_plan old to).newest new.newest did.moved.reshape did.moved.shape did.moved.size)) lt,
    missing-moved did.moved role miss,
  );
  rise = record { left = did.rise.left; events = λ one live. did.rise.events t live };
  read = read;
  safe = λ told more room with_plan gone_old gone_new carries before. did.safe t (world_in given tape scope first) told more room did.live did.backed did.placed with_plan gone_old gone_new carries before;
}
  where
    same_roles : length old.roles ≡ (shape_of old.newest).disks
    same_roles = roles-still given old was.placed was.still

    drawn : AreDrawn (disk given.start (tape ++ ops)) (contents given.start (tape ++ ops) (length (tape ++ ops)))
    drawn slot = (now-drawn given (tape ++ ops) slot 8, now-drawn given (tape ++ ops) slot 9)

    read : IsReliable (world_in given tape scope first) entries → HasRoomForEvents (world_in given (tape ++ ops) scope first)
        → IsShapeRead scope (contents_at (world_in given (tape ++ ops) scope first) (length (tape ++ ops))) (shape_of old.newest)
    read right room =
        let safe = safe-over was t did.live right.fills right.room in
        begun-read tells (OpensFit (world_in given tape scope first)) scope given (told_now (world_in given tape scope first) carried false entries) backup uuid to old new tape (tape ++ ops)
        did.backed.backup did.backed.array did.sixteen was.still same_roles did.in_force did.level did.live (room-now (world_in given tape scope first) ops (was.recorded t).begun old safe.counted room) did.begun t
        (now-live (world_in given tape scope first) did.live safe.now) (contents given.start (tape ++ ops) (length (tape ++ ops))) drawn
