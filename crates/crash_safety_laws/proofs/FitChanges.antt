-- A fit update makes a change that fits the superblocks that are held.
use Rattle.std.proofs.Common.{◌≡◌, ◌&&◌, Bool, true, false, not, refl, sym, ◌∙◌}
use Rattle.crash_views.specs.raid_types_Shapes.{has_slot}
use Rattle.crash_views.specs.sb_specs_Outcome.{live_set}
use Rattle.crash_views.specs.stripe_row_Rows.{members_without}
use Rattle.crash_safety_laws.specs.Kinds.{FitUpdateIsFitChange}
use Rattle.crash_safety_laws.proofs.Started.{Lost, fits-of}

not-lost : (a b : Bool) → (a && not b) ≡ true → b ≡ false
not-lost true true e = absurd (cc)
not-lost true false e = refl
not-lost false b e = absurd (cc)

pub fit-update-fits : FitUpdateIsFitChange
fit-update-fits scope former gone left change d held fit shapes room are = (
  fits-of scope former gone change d held fit shapes (Lost scope former gone change d held fit shapes) left (λ s is. is) are (members_without gone former).roles (members_without gone former).lost (λ s none. refl) room,
  λ s sb is own none so. fit.spares s sb (not-lost (has_slot (live_set (members_without gone former) change) s) (has_slot (members_without gone former).lost s) (sym (are s) ∙ is)) own none so,
)
