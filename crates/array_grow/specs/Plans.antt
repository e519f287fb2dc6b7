-- Where the plans of an array go behind a request to grow, and which slot can be the backup.
use Rattle.std.specs.Prelude.{◌≡◌, true, false, ℕ, []}
use Rattle.array_reply_specs.specs.raid_types_Shapes.{has_slot}
use Rattle.array_transition.specs.sb_specs_the_Members.{Members}
use Rattle.array_transition.specs.sb_specs_Reads.{has_spare}
use Rattle.array_transition.specs.history_Reshaped.{open_plans}
use Rattle.array_transition.specs.history_World.{World}
use Rattle.array_transition.specs.array_members_Rebuilding.{Held}
use Rattle.array_transition.specs.array_specs_Parts.{RunningParts}
use Rattle.array_transition.specs.array_specs_Plans.{ArePlansKept}

-- where no plan was open before it, each that is open then goes where the phases lead that are ahead
abbrev pub GoesTo : {B : Type 0} → Type 0 → World → RunningParts B → RunningParts B → Type 0
GoesTo tells world old new = open_plans old.parts.entries ≡ [] → ArePlansKept tells world new

-- the slot was found sound, holds no role and is no spare: it can be the backup
pub record IsAside (slots : ℕ) (members : Members) (slot : ℕ) : Type 0 where
  pub sound : has_slot slots slot ≡ true
  pub apart : has_spare members.spares slot ≡ false
  pub own : (role : ℕ) → Held members role slot → ⊥
