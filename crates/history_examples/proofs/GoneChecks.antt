-- A role that a shrink drops while it is lost, and that a later grow gives to a spare, is not gone any more.
use Rattle.std.proofs.Common.{◌≡◌, ℕ, ◌+◌, List, [], ◌∷◌, true, false, not, ◌&&◌, ◌||◌, leb, refl, ap, ◌∙◌, Some, None, Option}
use Rattle.history.specs.raid_types_Search.{count_below, tabulate}
use Rattle.history.proofs.bank_Listed.{listed}
use Rattle.history.specs.sb_specs_Reading.{Reading, shape_of, reading}
use Rattle.history.specs.declared.events.Event.{Event}
use Rattle.history.specs.declared.events.Event.TheVariants.{Lost, Step}
use Rattle.history.specs.declared.events.LostCause.TheVariants.{Fault}
use Rattle.history.specs.declared.events.StepKind.TheVariants.{Begun, Copied, Finished}
use Rattle.history.specs.declared.events.Entry.{Entry}
use Rattle.history.specs.World.{World, reading_at}
use Rattle.history.specs.Losses.{is_gone, is_gone_after, gone_count, takes_anew}
use Rattle.history_examples.proofs.ReshapeChecks.{scope, members}

-- entries of one caller, each a call of its own, and each at a mark of its own
abbrev numbered : ℕ → List Event → List Entry
numbered n [] = []
numbered n (event ∷ events) = record { caller = 0; number = n; end = n; event = event } ∷ numbered (n + 1) events

-- In a reshape from 6 to 5 disks role 5 is lost, and the reshape ends. Another one begins, to 6 disks, with a spare for
-- role 5; and role 1 is lost.
abbrev entries : List Entry
entries = numbered 0 (Step Copied 3 ∷ Lost 5 Fault ∷ Step Finished 1 ∷ Step Begun 9 ∷ Lost 1 Fault ∷ [])

module _ (world : World) (r : Reading) (begun : reading_at world 3 ≡ Some r) (five : (shape_of r.newest).disks ≡ 5) where
  anew : (role : ℕ) → takes_anew (reading_at world 3) role ≡ leb 5 role
  anew role = ap (λ found. takes_anew found role) begun ∙ ap (λ disks. leb disks role) five

  before : is_gone world entries 3 3 5 ≡ true
  unfolding is_gone
  before = refl

  -- the Begun counts only where it is surely done
  perhaps : is_gone world entries 3 4 5 ≡ true
  unfolding is_gone
  perhaps = refl

  fifth : is_gone_after world entries 5 ≡ false
  unfolding is_gone_after
  fifth = ap (λ b. (not b || false) && true || false) (anew 5)

  first : is_gone_after world entries 1 ≡ true
  unfolding is_gone_after
  first = refl

  -- only one role is gone in the end
  one_gone : gone_count world entries 5 5 ≡ 1
  unfolding gone_count is_gone count_below
  one_gone = rw (anew 5) refl

-- An array of four disks of which a reshape to five has begun: role 4 is taken anew, and no other one.
abbrev begun : Option Reading
begun = reading (scope None (members 0 5 4 [])) (listed (members 0 5 4 []))

fourth_anew : takes_anew begun 4 ≡ true
unfolding tabulate reading
fourth_anew = refl

third_kept : takes_anew begun 3 ≡ false
unfolding tabulate reading
third_kept = refl
