-- Where parity isn't relied on in each row, a resync is pending, and a refusal that tells so is right by the history.
use Rattle.std.proofs.Common.{◌≡◌, ℕ, ◌<◌, ◌≤◌, Bool, true, false, Option, List, [], ◌++◌, sym, ◌∙◌, subst, arith, append-nil}
use Rattle.std.specs.List.{list_any}
use Rattle.array_fixed_laws.specs.raid_types_the_Refusal.{Refusal}
use Rattle.array_fixed_laws.specs.raid_types_the_Refusal_TheVariants.{NotResynced}
use Rattle.array_fixed_laws.specs.raid_types_the_Who.{Who}
use Rattle.reshape_window_backup.specs.bank_the_Operation.{Operation}
use Rattle.reshape_window_backup.specs.bank_Given.{Given}
use Rattle.reshape_window_backup.specs.sb_codec_the_Sb.{Sb}
use Rattle.array_reshaping_resync_laws.specs.sb_specs_the_Members.{Members}
use Rattle.array_reshaping_resync_laws.specs.sb_specs_Reading.{Scope, list_length, role_count}
use Rattle.array_reshaping_resync_laws.specs.stripe_row_Rows.{reading_of, is_missing}
use Rattle.array_reshaping_resync_laws.specs.history_the_Entry.{Entry}
use Rattle.array_reshaping_resync_laws.specs.history_Legal.{IsRefusedRight}
use Rattle.array_reshaping_resync_laws.specs.history_the_Event.{Event}
use Rattle.array_reshaping_resync_laws.specs.history_Losses.{is_resync_end, is_unsynced}
use Rattle.array_reshaping_resync_laws.specs.history_Plain.{entries_of}
use Rattle.array_reshaping_resync_laws.specs.history_Stands.{shape_for}
use Rattle.array_reshaping_resync_laws.specs.history_World.{World}
use Rattle.array_reshaping_resync_laws.specs.crash_views_Regions.{AreShapesFit, place_by}
use Rattle.array_reshaping_resync_laws.specs.array_members_Moving.{Grows}
use Rattle.array_reshaping_resync_laws.proofs.array_members_Fit.{force-valid, force-disks}
use Rattle.reshape_window_backup.proofs.raid_layout_Places.{place-role_below}
use Rattle.array_reshaping_resync_laws.specs.history_append_Losing.{losses_of}
use Rattle.array_reshaping_resync_laws.proofs.history_append_CallLaws.{losses-are, ends-losses}
use Rattle.array_reshaping_resync_laws.specs.history_invariant_Safe.{world_in}
use Rattle.array_reshaping_resync_laws.proofs.history_invariant_Growing.{unsynced-grown}
use Rattle.array_fixed_laws.specs.history_invariant_laws_Reliable.{AreToldGone}
use Rattle.array_reshaping_resync_laws.specs.stripe_region_read_Stretches.{relied_rows}
use Rattle.array_reshaping_resync_laws.proofs.stripe_region_write_Together.{shape-force}
use Rattle.array_reshaping_resync_laws.specs.stripe_region_resync_Resyncs.{relied_sector}
use Rattle.array_reshaping_resync_laws.specs.reshape_progress_the_Course.{Course}
use Rattle.array_reshaping_resync_laws.specs.array_reshaping_invariant_Moving.{IsMoving}
use Rattle.array_reshaping_resync_laws.proofs.array_reshaping_invariant_Writing.{unrelied-short, short-pending}
use Rattle.array_reshaping_resync_laws.proofs.array_call_specs_LedgerLaws.{unsynced-more}

none-ended : (who : Who) (end roles spares : ℕ) → list_any (λ e. is_resync_end e.event) (entries_of who end (losses_of roles spares)) ≡ false
none-ended who end roles spares =
    subst (λ (l : List Event). list_any (λ e. is_resync_end e.event) (entries_of who end l) ≡ false) (append-nil (losses_of roles spares)) (ends-losses who end (losses_of roles spares) [] (losses-are roles spares))

module _ {tells : Type 0} {given : Given} {tape : List Operation} {scope : Scope} {first : ℕ} {entries : List Entry} {old : Members} {carried : ℕ → ℕ → Bool} {resync : Option ℕ} {course : Course} {buffer : List ℕ} {left : ℕ}
    (was : IsMoving tells given tape scope first entries old carried resync course buffer left) (relied : ℕ) (relies : relied ≡ relied_sector old.newest resync) where
  -- on members with as long a list too
  pub pending-at : (new : Members) → AreShapesFit new.newest → list_length new.newest ≡ list_length old.newest → (x : ℕ) → x < list_length new.newest
      → relied_rows new.newest relied (shape_for new.newest x) ≤ (place_by new.newest x).row → tells → is_unsynced (world_in given tape scope first) entries ≡ true
  pending-at new fit long x lt far t = was.pending t ∙ short-pending old.newest resync relied relies (let short = unrelied-short new.newest fit relied x lt far in omega (arith, short, long))

  -- and behind losses
  pub pending-behind : {tape' : List Operation} (who : Who) (end roles spares : ℕ) → Grows tells tape tape' → (t : tells) → is_unsynced (world_in given tape scope first) entries ≡ true
      → is_unsynced (world_in given tape' scope first) (entries ++ entries_of who end (losses_of roles spares)) ≡ true
  pending-behind {tape' = tape'} who end roles spares grows t pends =
      let g = grows.more t in
      let lost = entries_of who end (losses_of roles spares) in
      subst (λ (l : List Operation). is_unsynced (world_in given l scope first) (entries ++ lost) ≡ true) (sym g.1)
      (unsynced-grown (world_in given tape scope first) g.0 (was.recorded t).begun (entries ++ lost)
      ∙ unsynced-more (world_in given tape scope first) entries lost (none-ended who end roles spares)
      ∙ pends)

-- a role is missing while a resync is pending
pub unsynced-right : (world : World) (before : List Entry) (m : Members) → AreToldGone world before m → (refusal : Refusal) (role : ℕ) → refusal ≡ NotResynced role → role < role_count m.newest
    → is_missing (reading_of m) role ≡ true → is_unsynced world before ≡ true → IsRefusedRight world before refusal
unsynced-right world before m gone refusal role is lt missing pends = subst (λ (r : Refusal). IsRefusedRight world before r) (sym is) (gone role lt missing, pends)

-- that of a sector is one of the array's
pub sector-role : (newest : Sb) → AreShapesFit newest → (x : ℕ) → (place_by newest x).role < role_count newest
sector-role newest fit x =
    let force = shape-force newest x in
    let below = place-role_below (shape_for newest x) (force-valid newest fit (shape_for newest x) force) x in
    let disks = force-disks newest fit (shape_for newest x) force in
    omega (arith, below, disks)
