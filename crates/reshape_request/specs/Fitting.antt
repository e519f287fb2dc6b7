-- Why the answer to a request to grow fits it, over a bank that tells its contents.
use Rattle.std.specs.Prelude.{◌≡◌, ℕ, ◌<◌, true, false, List, Some, None, option_map, is_some, IsTrue, ◌+◌, IfSome}
use Rattle.history.specs.raid_types_the_Wish.{Wish}
use Rattle.history.specs.raid_types_the_Refusal.{Refusal}
use Rattle.history.specs.sb_codec_the_Sb.{Sb}
use Rattle.stripe_row.specs.sb_specs_the_Members.{Members}
use Rattle.stripe_row.specs.sb_specs_Reading.{Reading, is_reshaping, role_count, shape_of}
use Rattle.stripe_row.specs.Rows.{reading_of, is_missing}
use Rattle.history.specs.reshape_plan_Plans.{phases, phases_steps}
use Rattle.history.specs.declared.events.Entry.{Entry}
use Rattle.history.specs.declared.events.Event.TheVariants.{Planned}
use Rattle.history.specs.declared.events.Request.TheVariants.{Grow as AsksGrow}
use Rattle.history.specs.declared.events.StepKind.{StepKind}
use Rattle.history.specs.World.{World, reading_at}
use Rattle.history.specs.Losses.{is_gone_after, is_unsynced}
use Rattle.history.specs.Legal.{visible_at, known_left, IsStep}
use Rattle.history.specs.Fits.{is_asked, phases_left, slot_length, IsGrowRefused, Answers}
use Rattle.reshape_request.specs.Asked.{Asked, IsFirst, grow_refusal}

-- the superblocks say the same of the array's shape
pub record SaysSameShape (a b : Sb) : Type 0 where
  pub shape : shape_of a ≡ shape_of b
  pub size : a.size ≡ b.size
  pub reshaping : is_reshaping a ≡ is_reshaping b

-- the reading says what the members do
pub record IsReadLike (r : Reading) (m : Members) : Type 0 where
  pub array : SaysSameShape r.newest m.newest
  pub roles : r.roles ≡ m.roles
  pub spares : r.spares ≡ m.spares

-- every role is whole
abbrev pub AreAllWhole : Members → Type 0
AreAllWhole m = (role : ℕ) → role < role_count m.newest → is_missing (reading_of m) role ≡ false

-- What an array keeps of its history: its superblocks say at this end what its members do, where that is asked, and as long as every role is whole they say
-- its shape; each missing role is gone; and the entries before tell the resync that is pending, the phases that are left, and the visible size.
pub record IsToldBy (world : World) (before : List Entry) (end : ℕ) (a : Asked) : Type 0 where
  pub asked : (r : Reading) → reading_at world end ≡ Some r → is_asked world before r ≡ true → IsReadLike r a.members
  pub whole : (r : Reading) → reading_at world end ≡ Some r → AreAllWhole a.members → SaysSameShape r.newest a.members.newest
  pub gone : (role : ℕ) → role < role_count a.members.newest → is_missing (reading_of a.members) role ≡ true → IsTrue (is_gone_after world before role)
  pub unsynced : is_unsynced world before ≡ is_some a.resync
  pub phases_are : 0 < a.phases → 0 < phases_left world before
  pub visible_is : visible_at world before ≡ a.visible
  pub backup_is : a.backup ≡ option_map (slot_length world) world.scope.backup

-- A request to grow that is refused with the first refusal that is true is refused as it fits it.
abbrev pub GrowRefusalsFit : Type 0
GrowRefusalsFit = (world : World) (before : List Entry) (end : ℕ) (a : Asked) (wish : Wish) (refusal : Refusal) → IsToldBy world before end a → IsFirst a wish refusal
    → IsGrowRefused world before end wish refusal

-- And one that nothing refuses is answered by the steps of its plan.
abbrev pub GrowPlansFit : Type 0
GrowPlansFit = (world : World) (before : List Entry) (e : Entry) (a : Asked) (wish : Wish) (left : ℕ) → IsToldBy world before e.end a → grow_refusal a wish ≡ None
    → left ≡ phases_steps (shape_of a.members.newest) a.members.newest.size (phases (shape_of a.members.newest) wish)
    → Answers world before e (AsksGrow wish) (Planned left wish)

-- A step whose entry tells one fewer than were left before it is legal, where as many were told.
abbrev pub FallenStepsAreLegal : Type 0
FallenStepsAreLegal = (world : World) (before : List Entry) (e : Entry) (rest : List Entry) (kind : StepKind) (old left : ℕ)
    → IfSome (known_left before e rest) (λ n. n ≡ old) → left + 1 ≡ old → IsStep world before e rest kind left
