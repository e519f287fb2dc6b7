-- Members of an array in a reshape stay so, where slots are lost or the position moves.
use Rattle.std.proofs.Common.{◌≡◌, ◌||◌, false, not, cond, Some, None, sym, ◌∙◌, ap}
use Rattle.std.specs.Prelude.{min}
use Rattle.history_invariant_laws.specs.raid_types_the_Span.{Span}
use Rattle.reshape_progress_resync_laws.specs.bank_Given.{Given}
use Rattle.reshape_progress_resync_laws.specs.sb_specs_the_Members.{Members}
use Rattle.reshape_progress_resync_laws.specs.sb_specs_Reading.{Scope, shape_of, next_window, holder}
use Rattle.history_invariant_laws.specs.raid_types_the_Refusal_TheVariants.{BackupAbsent}
use Rattle.reshape_progress_resync_laws.specs.reshape_geometry_Geometry.{unit}
use Rattle.reshape_progress_resync_laws.specs.history_Stands.{backup_absent, has_room}
use Rattle.reshape_progress_resync_laws.specs.crash_views_Regions.{backup_of, ArePlaced}
use Rattle.reshape_progress_resync_laws.specs.crash_views_Windows.{moved_past}
use Rattle.reshape_progress_resync_laws.proofs.crash_views_Stands.{moved-is-placed}
use Rattle.reshape_progress_resync_laws.proofs.crash_safety_laws_Without.{live-is}
use Rattle.reshape_progress_resync_laws.specs.array_members_Placed.{HaveSameReshape}
use Rattle.reshape_progress_resync_laws.specs.array_members_Moving.{IsMoved}
use Rattle.reshape_progress_resync_laws.proofs.array_members_Fit.{list-alike}
use Rattle.reshape_progress_resync_laws.proofs.sb_safe_updates_Unused.{unused-moved}
use Rattle.reshape_progress_resync_laws.proofs.reshape_window_steps_PastLaws.{free-moved}
use Rattle.array_reshaping_invariant.specs.Moving.{AreReshaping}

-- the backup's room is the same
backup-alike : (scope : Scope) (old new : Members) → HaveSameReshape old.newest new.newest → shape_of new.newest ≡ shape_of old.newest → new.newest.size ≡ old.newest.size
    → backup_absent scope new.newest ≡ backup_absent scope old.newest
backup-alike scope old new reshape shape size =
    λ i. cond (not (reshape.reshaping i) || has_room scope (min (unit (shape i) (reshape.final i)) (list-alike old.newest new.newest reshape shape size i))) None (Some BackupAbsent)

module _ (scope : Scope) (given : Given) (old new : Members) (moved : IsMoved given old new) where
  pub backed-moved : ArePlaced scope given old → ArePlaced scope given new
  backed-moved was = record {
    fit = moved.placed.fit;
    roles = moved.placed.roles;
    holders = moved.placed.holders;
    behind = moved.placed.behind;
    members_own = λ role slot held. was.members_own role slot (moved.held role slot held);
    apart = moved.placed.apart;
    backup = backup-alike scope old new moved.reshape moved.shape moved.size ∙ was.backup;
  }

  pub reshaping-moved : AreReshaping scope given old → AreReshaping scope given new
  reshaping-moved was = record {
    placed = moved.placed;
    backed = backed-moved was.backed;
    aside = unused-moved given old new moved (backup_of scope) was.aside;
    active = moved.reshape.reshaping ∙ was.active;
    whole = λ role slot is. was.whole role slot (sym (moved.states role slot (ap holder is)) ∙ is);
    unlost = moved.unlost;
    free = moved.free was.free;
    spares = moved.spares was.spares;
  }

pub reshaping-past : (scope : Scope) (given : Given) (old new : Members) (span : Span) → next_window old.newest ≡ Some span → IsMoved given (moved_past span old) new → AreReshaping scope given old → AreReshaping scope given new
reshaping-past scope given old new span next moved was = record {
  placed = moved.placed;
  backed = backed-moved scope given (moved_past span old) new moved (moved-is-placed scope given old span was.backed next);
  aside = unused-moved given (moved_past span old) new moved (backup_of scope) (live-is (moved_past span old) false (backup_of scope) ∙ sym (live-is old false (backup_of scope)) ∙ was.aside);
  active = moved.reshape.reshaping ∙ was.active;
  whole = λ role slot is. was.whole role slot (sym (moved.states role slot (ap holder is)) ∙ is);
  unlost = moved.unlost;
  free = free-moved given old new span moved was.free;
  spares = moved.spares was.spares;
}
