-- Rows whose parity holds, and reshapes that end with all rows so.
use Rattle.std.specs.Prelude.{◌≡◌, ℕ, ◌<◌, ◌≤◌, Bool, true, false, ◌&&◌, ◌||◌, ◌==◌, if◌then◌else◌, ◌⊎◌, List, [], ◌∷◌, ◌++◌, length, fold, Option, None, option_map, MatchOption, ⊤}
use Rattle.std.specs.Bool.{OnTrue}
use Rattle.raid_types.specs.declared.places.Shape.{Shape}
use Rattle.raid_types.specs.Shapes.{tolerance}
use Rattle.raid_types.specs.Search.{count_below}
use Rattle.history.specs.declared.events.Event.{Event}
use Rattle.history.specs.declared.events.Event.TheVariants.{Planned, Rebuilt, Step, Stepped}
use Rattle.history.specs.declared.events.StepKind.TheVariants.{Finished}
use Rattle.history.specs.declared.events.Entry.{Entry}
use Rattle.bank.specs.Tape.{Contents}
use Rattle.history.specs.World.{contents_at, World, until, reading_at}
use Rattle.sb_read_laws.specs.raid_layout_Layout.{row_roles}
use Rattle.raid_parity.specs.Parity.{AreEquationsMet, lacking_in}
use Rattle.sb_read_laws.specs.sb_specs_Reading.{Scope, Reading, reading, shape_of, target_of}
use Rattle.history.specs.Stands.{held_row}
use Rattle.reshape_plan.specs.Plans.{target}
use Rattle.history.specs.Flat.{is_same_call}
use Rattle.history.specs.Losses.{is_gone_after}
use Rattle.history.specs.Legal.{is_loss, end_before, target_at}
use Rattle.history.specs.CrashSafe.{is_resized}

-- a row is good: what is lacking is tolerated, and with it filled in both equations hold
pub record IsGoodRow (c : Contents) (r : Reading) (shape : Shape) (row : ℕ) : Type 0 where
  pub tolerated : length (lacking_in (held_row c r shape row)) ≤ tolerance shape
  pub parity : AreEquationsMet (row_roles shape row) (held_row c r shape row)

-- the superblocks give this shape alone, and every row is good under it
pub record IsConsistentBy (c : Contents) (shape : Shape) (r : Reading) : Type 0 where
  pub shaped : shape_of r.newest ≡ shape
  pub alone : target_of r.newest ≡ None
  pub rows : (row : ℕ) → row < r.newest.size → IsGoodRow c r shape row

abbrev pub IsConsistent : Scope → Contents → Shape → Type 0
IsConsistent scope c shape = MatchOption (reading scope c) ⊥ (IsConsistentBy c shape)

-- more of the shape's roles are gone after these entries than it tolerates
abbrev pub AreTooManyGone : World → List Entry → Shape → Type 0
AreTooManyGone world entries shape = tolerance shape < count_below shape.disks (is_gone_after world entries)

-- the entries of this sort of an entry's call that stand directly behind it
abbrev pub behind : (Event → Bool) → Entry → List Entry → List Entry
behind sort e [] = []
behind sort e (next ∷ entries) = if sort next.event && is_same_call e next then next ∷ behind sort e entries else []

-- what the update of a Finished may bring with it, and what that of any step may
abbrev pub comes_with_finish : Event → Bool
comes_with_finish event = is_loss event || is_resized event

abbrev pub is_rebuilt : Event → Bool
is_rebuilt (Rebuilt role) = true
is_rebuilt event = false

abbrev pub comes_with_step : Event → Bool
comes_with_step event = comes_with_finish event || is_rebuilt event

-- consistent at this mark, unless too many roles are gone after these entries
abbrev pub IsConsistentAt : World → List Entry → ℕ → Shape → Type 0
IsConsistentAt world entries mark shape =
    IsConsistent world.scope (contents_at world mark) shape ⊎ AreTooManyGone world entries shape

-- a Finished leaves its array consistent under the shape that the reshape went to
abbrev pub IsFinishedRight : World → List Entry → Entry → List Entry → Event → Type 0
IsFinishedRight world before e rest (Step Finished left) =
    MatchOption (target_at world (end_before world before)) ⊥ (IsConsistentAt world (before ++ e ∷ rest) e.end)
IsFinishedRight world before e rest event = ⊤

-- ---- plans

-- no step is left
abbrev pub is_done : Event → Bool
is_done (Step kind left) = left == 0
is_done (Stepped done left ended) = left == 0
is_done event = false

abbrev pub is_planned : Event → Bool
is_planned (Planned left wish) = true
is_planned event = false

-- the plans since no step was left the last time
abbrev pub plans_after : List Entry → Entry → List Entry
plans_after plans e = if is_done e.event then [] else if is_planned e.event then e ∷ plans else plans

abbrev pub open_plans : List Entry → List Entry
open_plans before = fold plans_after [] before

-- the shape that a plan goes to, from the one at its end
abbrev pub planned_shape : World → ℕ → Event → Option Shape
planned_shape world end (Planned left wish) = option_map (λ r. target (shape_of r.newest) wish) (reading_at world end)
planned_shape world end event = None

-- When no step is left, the array is consistent under the shape of each open plan, unless too many roles are gone; the
-- losses of the last step's own update stand behind its entry.
abbrev pub ArePlansDone : World → List Entry → Entry → List Entry → List Entry → Type 0
ArePlansDone world before e rest [] = ⊤
ArePlansDone world before e rest (plan ∷ plans) =
    MatchOption (planned_shape world plan.end plan.event) ⊥ (IsConsistentAt world (before ++ e ∷ rest) e.end)
    × ArePlansDone world before e rest plans

-- what one entry ends, it ends right; `entries` stand behind it
pub record IsReshapedBy (world : World) (before : List Entry) (e : Entry) (entries : List Entry) : Type 0 where
  pub finished : IsFinishedRight world before e (behind comes_with_finish e entries) e.event
  pub plans : OnTrue (is_done e.event) (ArePlansDone world before e (behind comes_with_step e entries) (open_plans before))

-- each of these entries ends right what it ends, where `before` stands before them
abbrev pub AreReshaped : World → List Entry → List Entry → Type 0
AreReshaped world before [] = ⊤
AreReshaped world before (e ∷ entries) =
    IsReshapedBy (until e.end world) before e entries × AreReshaped world (before ++ e ∷ []) entries

abbrev pub IsReshaped : World → List Entry → Type 0
IsReshaped world entries = AreReshaped world [] entries
