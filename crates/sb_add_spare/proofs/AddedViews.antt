-- Views with a new spare, and with roles that are lost, have no more than others.
use Rattle.std.proofs.Common.{◌≡◌, ℕ, not, List, length, get_or, Some, refl, sym, ◌∙◌, ap}
use Rattle.std.proofs.lemmas.List.{length-map}
use Rattle.sb_safe_updates.specs.raid_types_the_Role.{Role}
use Rattle.sb_safe_updates.specs.raid_types_the_Role_TheVariants.{Missing}
use Rattle.sb_safe_updates.specs.sb_codec_the_Sb.{Sb}
use Rattle.sb_safe_updates.specs.sb_specs_the_Members.{Members}
use Rattle.sb_safe_updates.specs.sb_specs_Reading.{is_whole, role_state, holder}
use Rattle.sb_safe_updates.specs.sb_specs_Reads.{SaysSame}
use Rattle.sb_safe_updates.specs.stripe_row_Rows.{reading_of, role_without}
use Rattle.sb_safe_updates.specs.crash_safety_laws_Updates.{IsLessView}
use Rattle.sb_safe_updates.proofs.crash_safety_laws_ChangeViews.{says-itself}
use Rattle.sb_safe_updates.proofs.crash_safety_laws_Kept.{still-missing}
use Rattle.sb_safe_updates.proofs.crash_safety_laws_Without.{without-holder, state-without}
use Rattle.sb_safe_updates.specs.array_members_Placed.{AreLess}
use Rattle.sb_safe_updates.specs.array_members_Rebuilding.{with_spare}
use Rattle.sb_safe_updates.proofs.array_members_AddedRows.{offset-with, rows-as}

-- a slot that holds no role has no part in the view
pub with-less : (m : Members) (slot : ℕ) (sb : Sb) → ((role : ℕ) → holder (role_state (reading_of m) role) ≡ Some slot → ⊥) → IsLessView m (with_spare slot sb m)
with-less m slot sb untaken = record {
  array = says-itself m.newest;
  roles = refl;
  states = λ role s held. refl;
  rows = λ role. rows-as m slot sb untaken role (role_state (reading_of m) role) refl;
  offsets = λ role s held. offset-with m slot sb untaken role s held;
  missing = λ role is. is;
}

-- members that lost slots have fewer roles
pub less-view : (lost : ℕ) (old new : Members) → AreLess lost old new → SaysSame old.newest new.newest → IsLessView old new
less-view lost old new less says = record {
  array = says;
  roles = ap length less.roles ∙ length-map old.roles (role_without lost);
  states = λ role slot held. state-is role ∙ without-holder lost (role_state (reading_of old) role) slot (ap holder (sym (state-is role)) ∙ held);
  rows = λ role. less.rows (role_state (reading_of new) role);
  offsets = λ role slot held. less.offsets slot;
  missing = λ role is. ap (λ (s : Role). not (is_whole s)) (state-is role) ∙ still-missing old lost (role_state (reading_of old) role) is;
}
  where
    state-is : (role : ℕ) → role_state (reading_of new) role ≡ role_without lost (role_state (reading_of old) role)
    state-is role = ap (λ (l : List Role). get_or l role Missing) less.roles ∙ state-without lost old.roles role
