-- What slots hold of the list of an array of one shape is allowed, by the definitions for one shape or two.
use Rattle.std.proofs.Common.{◌≡◌, ℕ, ◌+◌, ◌<◌, false, List, Some, refl, sym, subst}
use Rattle.raid_layout.specs.raid_types_the_Shape.{Shape}
use Rattle.raid_layout.specs.raid_types_Sectors.{Sector}
use Rattle.sb_update.specs.bank_Tape.{IsIn}
use Rattle.raid_layout.specs.Layout.{place}
use Rattle.sb_update.specs.sb_specs_the_Members.{Members}
use Rattle.sb_update.specs.sb_specs_Reading.{Scope, Reading, is_reshaping, shape_of, data_offset_of}
use Rattle.array_members.specs.stripe_row_Rows.{reading_of, held_slot}
use Rattle.array_members.specs.crash_views_Regions.{backup_of}
use Rattle.array_members.specs.crash_views_Views.{Disk, AreHeldAllowed}
use Rattle.array_members.proofs.crash_views_Stands.{for-still}
use Rattle.array_members.specs.Whole.{list_size}
use Rattle.array_members.specs.Placed.{places_by}
use Rattle.array_members.proofs.Still.{length-still, outside-still}

-- each sector of the list that a slot holds may have only allowed values there
abbrev pub AreRowsAllowed : Reading → (ℕ → List Sector) → Disk → Type 0
AreRowsAllowed r values d = (x slot : ℕ) → x < list_size (places_by r) → held_slot r (place (shape_of r.newest) x).role (place (shape_of r.newest) x).row ≡ Some slot
    → (v : Sector) → IsIn (d slot (data_offset_of r slot + (place (shape_of r.newest) x).row)) v → IsIn (values x) v

module _ (scope : Scope) (m : Members) (values : ℕ → List Sector) (d : Disk) (still : is_reshaping m.newest ≡ false) where
  abbrev Allows : ℕ → ℕ → Shape → Type 0
  Allows x slot s = held_slot (reading_of m) (place s x).role (place s x).row ≡ Some slot
      → (v : Sector) → IsIn (d slot (data_offset_of (reading_of m) slot + (place s x).row)) v → IsIn (values x) v

  pub held-still : AreRowsAllowed (reading_of m) values d → AreHeldAllowed scope m values d
  held-still allowed header may x slot outside =
      subst (Allows x slot) (sym (for-still m.newest still x)) (allowed x slot (subst (λ (n : ℕ). x < n) (length-still m still) outside.within))

  -- and the other way, since some header may stand in the backup
  pub still-held : (header : Sector) → IsIn (d (backup_of scope) 0) header → AreHeldAllowed scope m values d → AreRowsAllowed (reading_of m) values d
  still-held header may allowed x slot lt = subst (Allows x slot) (for-still m.newest still x)
      (allowed header may x slot (outside-still m.newest still scope m header x refl (subst (λ (n : ℕ). x < n) (sym (length-still m still)) lt)))
