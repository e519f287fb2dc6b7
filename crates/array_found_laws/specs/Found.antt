-- Members that an election found in the slots of a bank, where nothing was refused.
use Rattle.std.specs.Prelude.{◌≡◌, ℕ, ◌^◌, ◌<◌, ◌≤◌, nat_lt, not, ◌&&◌, true, [], ◌∷◌, take, Some, None}
use Rattle.array_call_specs.specs.raid_types_Shapes.{has_slot}
use Rattle.array_call_specs.specs.sb_codec_the_Sb.{Sb}
use Rattle.array_call_specs.specs.bank_Given.{Given, sizes}
use Rattle.array_call_specs.specs.bank_Tape.{Contents}
use Rattle.array_call_specs.specs.sb_specs_the_Members.{Members}
use Rattle.array_call_specs.specs.sb_specs_Reading.{Scope, reading}
use Rattle.array_call_specs.specs.sb_specs_Election.{reading_in, IsElected}
use Rattle.array_call_specs.specs.sb_specs_Found.{AreInSectors}
use Rattle.array_call_specs.specs.sb_specs_Update.{own_in}
use Rattle.array_call_specs.specs.sb_specs_Writing.{AreWritable}
use Rattle.array_call_specs.specs.history_Stands.{verdict}
use Rattle.array_call_specs.specs.crash_views_Views.{Disk}

-- They are what the superblocks of these slots say, each of which can be written again; the bank's other slots are the lost ones.
pub record AreElected (bank : Given) (given : ℕ) (members : Members) : Type 0 where
  pub few : bank.slots ≤ 32
  pub elected : IsElected (sizes bank).sectors (take bank.slots members.own) members.lost members
  pub lost : (s : ℕ) → has_slot members.lost s ≡ (nat_lt s bank.slots && not (has_slot given s))
  pub own : (s : ℕ) (sb : Sb) → own_in members.own s ≡ Some sb → has_slot given s ≡ true
  pub writable : AreWritable bank members.own
  pub counted : (s : ℕ) → s < bank.slots → bank.sectors s < 2 ^ 64

-- They are read from what these slots hold, which assembles; a stop leaves just that.
pub record AreStored (bank : Given) (scope : Scope) (members : Members) (c : Contents) (d : Disk) : Type 0 where
  pub says : reading scope c ≡ Some (reading_in bank.slots members)
  pub accepted : verdict scope c ≡ None
  pub inside : (s : ℕ) → has_slot scope.given s ≡ true → s < bank.slots
  pub sectors : AreInSectors c members.own
  pub flushed : (s k : ℕ) → has_slot scope.given s ≡ true → d s k ≡ c s k ∷ []
