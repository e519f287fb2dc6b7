-- What the code keeps of a sector's kind: the sector's bytes stay where they are.
use Rattle.history.specs.raid_types_Sectors.{Sector}
use Rattle.script.specs.declared.reply.Look.{Look}
use Rattle.script.specs.declared.reply.Look.TheVariants.{Zero as LookZero, Seed as LookSeed, Hex as LookHex}
use Rattle.script.specs.Texts.{Kind, Zero, Seed, Hex}

abbrev pub kind_seen : Look → Sector → Kind
kind_seen LookZero sector = Zero
kind_seen (LookSeed seed) sector = Seed seed
kind_seen LookHex sector = Hex sector
