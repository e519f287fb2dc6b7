-- What an update did, where its change gives a role to a slot.
use Rattle.std.proofs.Common.{◌≡◌, ℕ, List, Option, subst}
use Rattle.sb_update.specs.bank_the_Operation.{Operation}
use Rattle.sb_update.specs.bank_Given.{Given}
use Rattle.sb_update.specs.sb_specs_the_Change.{Change}
use Rattle.sb_update.specs.sb_specs_the_Members.{Members}
use Rattle.sb_update.specs.sb_specs_Updating.{AreLosses}
use Rattle.sb_update.specs.sb_specs_Outcome.{with_added, live_set}
use Rattle.array_members.specs.crash_safety_laws_Marking.{giving}
use Rattle.array_members.specs.crash_safety_laws_Changing.{IsChanged}
use Rattle.sb_safe_updates.proofs.GivenMoved.{IsGiven}

-- what it leaves of the members
pub given-left : {tells : Type 0} {given : Given} {recovery : Option ℕ} {role slot : ℕ} {old new : Members} {before after : List Operation} → IsChanged tells given (giving old slot role recovery) old new before after
    → IsGiven given recovery role slot old new
given-left m = record { later = m.newest; own = m.own; roles = m.roles; spares = m.spares; live = m.alive }

-- the slots that were lost in it
pub losses-done : (recovery : Option ℕ) (role slot : ℕ) (m n : Members) (f g : ℕ → ℕ) (ch : Change) → ch ≡ giving m slot role recovery → AreLosses (live_set m ch) (with_added m ch.added).lost n.lost f g
    → AreLosses (live_set m (giving m slot role recovery)) m.lost n.lost f g
losses-done recovery role slot m n f g ch is losses = subst (λ (ch : Change). AreLosses (live_set m ch) (with_added m ch.added).lost n.lost f g) is losses
