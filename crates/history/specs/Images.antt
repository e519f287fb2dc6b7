-- What one more operation does to the images of a tape, a bound on what its sectors hold over a stretch, and the images of a
-- history without losses.
use Rattle.std.specs.Prelude.{◌≡◌, ◌⊎◌, ℕ, ◌≤◌, Bool, true, false, List, [], ◌∷◌, ◌++◌, length, None, IsTrue}
use Rattle.std.specs.List.{list_all}
use Rattle.raid_types.specs.Sectors.{Sector}
use Rattle.bank.specs.declared.bank.Operation.{Operation}
use Rattle.bank.specs.declared.bank.Operation.TheVariants.{Write, Flush}
use Rattle.bank.specs.Tape.{Contents, IsImage, with_one, disk}
use Rattle.bank.specs.Stretches.{IsBoundedBy, AreWritesWithin}
use Rattle.history.specs.declared.events.Event.{Event}
use Rattle.history.specs.declared.events.Event.TheVariants.{Lost, Step}
use Rattle.history.specs.declared.events.StepKind.TheVariants.{TakenOver}
use Rattle.history.specs.declared.events.Entry.{Entry}
use Rattle.history.specs.World.{World}
use Rattle.history.specs.Stands.{verdict}
use Rattle.history.specs.Growing.{grown}
use Rattle.history.specs.CrashSafe.{made_by, IsSafeAt, IsSafeFor}

-- an image of a stop at the tape's end
abbrev pub IsLastImage : Contents → List Operation → Contents → Type 0
IsLastImage start tape c = IsImage start tape (length tape) c

-- A flush makes no new image.
abbrev pub FlushesMakeNoImage : Type 0
FlushesMakeNoImage = (start : Contents) (tape : List Operation) (slot : ℕ) (c : Contents)
    → IsLastImage start (tape ++ Flush slot ∷ []) c → IsLastImage start tape c

-- After a write an image is a former one, or a former one with the write done.
abbrev pub WritesMakeTheirImages : Type 0
WritesMakeTheirImages = (start : Contents) (tape : List Operation) (slot at : ℕ) (bytes : Sector) (c : Contents)
    → IsLastImage start (tape ++ Write slot at bytes ∷ []) c
    → IsLastImage start tape c ⊎ ((old : Contents) × IsLastImage start tape old × (with_one (Write slot at bytes) old ≡ c))

-- Values bound what a stop may leave before a stretch of operations, and have all that these write. Then one proof for these
-- values serves every mark of the stretch at which as many entries are made as at the mark that it is about.
abbrev pub BoundsServeEachMark : Type 0
BoundsServeEachMark = (world : World) (entries : List Entry) (more : List Operation) (bound : ℕ → ℕ → List Sector)
    → IsBoundedBy bound (disk world.start world.tape) → AreWritesWithin bound more
    → (about mark : ℕ) → length world.tape ≤ mark → mark ≤ length (world.tape ++ more)
    → made_by mark entries ≡ made_by about entries
    → IsSafeFor (grown world more) entries about bound → IsSafeAt (grown world more) entries mark

-- the event takes no role from its holder: it is neither a loss nor a takeover
abbrev pub keeps_roles : Event → Bool
keeps_roles (Lost role cause) = false
keeps_roles (Step TakenOver left) = false
keeps_roles event = true

-- Where no role was ever taken, every image of a safe mark assembles.
abbrev pub WithoutLossAllAssemble : Type 0
WithoutLossAllAssemble = (world : World) (entries : List Entry) (mark : ℕ) (c : Contents)
    → IsTrue (list_all (λ e. keeps_roles e.event) entries) → IsSafeAt world entries mark
    → IsImage world.start world.tape mark c → verdict world.scope c ≡ None
