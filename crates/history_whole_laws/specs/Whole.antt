-- Arrays that stay whole: nothing is lost in them, and nothing is refused for what is missing.
use Rattle.std.specs.Prelude.{◌≡◌, ℕ, ◌<◌, ◌≤◌, Bool, true, false, count_by, List, IfSome, IsTrue, ⊤}
use Rattle.std.specs.List.{All}
use Rattle.history.specs.raid_types_the_Refusal.{Refusal}
use Rattle.history.specs.raid_types_the_Refusal_TheVariants.{TooManyMissing, NotResynced}
use Rattle.history.specs.sb_specs_Reading.{is_whole, role_state, role_count}
use Rattle.history.specs.declared.events.Event.{Event}
use Rattle.history.specs.declared.events.Event.TheVariants.{Torn, Lost, Failed, Step, Stepped, Refused}
use Rattle.history.specs.declared.events.StepKind.TheVariants.{TakenOver}
use Rattle.history.specs.declared.events.Entry.{Entry}
use Rattle.history.specs.Legal.{IsLegal}
use Rattle.history.specs.Losses.{was_dirty, is_gone_after}
use Rattle.history.specs.World.{World, reading_at}
use Rattle.history_whole_laws.specs.Unfailed.{TellsNoFailure}

-- each role was whole at the opening, by the superblocks there
abbrev pub OpensWhole : World → Type 0
OpensWhole world = IfSome (reading_at world world.first) (λ r. (role : ℕ) → role < role_count r.newest → IsTrue (is_whole (role_state r role)))

-- the event doesn't tell that a role was failed on request
abbrev pub IsNoFail : Event → Type 0
IsNoFail (Failed role) = ⊥
IsNoFail event = ⊤

-- nor that a role was lost
abbrev pub LosesNone : Event → Type 0
LosesNone (Lost role cause) = ⊥
LosesNone event = ⊤

-- how often a level is taken over
abbrev pub is_takeover : Event → Bool
is_takeover (Step TakenOver left) = true
is_takeover event = false

abbrev pub takeovers : List Entry → ℕ
takeovers entries = count_by (λ e. is_takeover e.event) entries

-- An array stays whole: each of its roles was whole when it was opened, and nobody failed one. A takeover to level 6 leaves the last role without a holder until that is rebuilt: there is one at most,
-- and none in an array that was opened dirty.
pub record StaysWhole (world : World) (entries : List Entry) : Type 0 where
  pub opened : OpensWhole world
  pub unfailed : All (λ e. IsNoFail e.event) entries
  pub once : takeovers entries ≤ 1
  pub synced : was_dirty world ≡ true → takeovers entries ≡ 0

-- the refusal isn't for roles that are missing, now or in a row that isn't resynced
abbrev pub IsForNoLack : Refusal → Type 0
IsForNoLack (TooManyMissing count tolerance) = ⊥
IsForNoLack (NotResynced role) = ⊥
IsForNoLack refusal = ⊤

-- the event tells no role lost, no write torn and no refusal for a missing role
abbrev pub LacksNothing : Event → Type 0
LacksNothing (Lost role cause) = ⊥
LacksNothing (Torn at body) = ⊥
LacksNothing (Stepped done left ended) = IfSome ended IsForNoLack
LacksNothing (Refused refusal) = IsForNoLack refusal
LacksNothing event = ⊤

-- Where an array stays whole, and its history is legal and tells no failure of a device, no entry tells a lack.
abbrev pub WholeArraysLackNothing : Type 0
WholeArraysLackNothing = (world : World) (entries : List Entry) → IsLegal world entries → StaysWhole world entries → All (λ e. TellsNoFailure e.event) entries → All (λ e. LacksNothing e.event) entries

-- Where no entry tells a role lost or a level taken over, no role is gone.
abbrev pub NoRoleIsGone : Type 0
NoRoleIsGone = (world : World) (entries : List Entry) (role : ℕ) → All (λ e. LosesNone e.event) entries → takeovers entries ≡ 0 → is_gone_after world entries role ≡ false
