-- What a request asks of a list of bytes, or why it is refused.
use Rattle.std.specs.Prelude.{◌≡◌, ℕ, ◌+◌, ◌*◌, ◌%◌, ◌<◌, ◌≤◌, ◌↔◌, IsTrue}
use Rattle.serve_frames.specs.declared.command.Command.{Command}
use Rattle.serve_frames.specs.declared.command.Command.TheVariants as commands
use Rattle.serve_frames.specs.declared.errors.RequestError.{RequestError}
use Rattle.serve_frames.specs.declared.errors.RequestError.TheVariants.{Io, NoMemory, Invalid, NoSpace}
use Rattle.serve_frames.specs.declared.request.Request.{Request}
use Rattle.serve_frames.specs.declared.task.Task.{Task}
use Rattle.serve_frames.specs.declared.task.Task.TheVariants.{Read, Write, Flush, Disconnect}

-- whole sectors of 512 bytes, one at least and 1 MiB at most, and no flag but FUA, which is bit 0
pub record IsWhole (r : Request) : Type 0 where
  pub begins : r.offset % 512 ≡ 0
  pub ends : r.length % 512 ≡ 0
  pub some : 0 < r.length
  pub most : r.length ≤ 1048576
  pub flags : r.flags ≤ 1

-- a range of whole sectors inside the list
pub record IsRange (r : Request) (size first count : ℕ) : Type 0 where
  pub whole : IsWhole r
  pub inside : r.offset + r.length ≤ size
  pub begins : r.offset ≡ 512 * first
  pub long : r.length ≡ 512 * count

-- what a request is taken for
abbrev pub Asks : Request → ℕ → Task → Type 0
Asks r size (Read first count) = (r.command ≡ commands.Read) × IsRange r size first count
Asks r size (Write first count flushed) = (r.command ≡ commands.Write) × IsRange r size first count × (IsTrue flushed ↔ (r.flags ≡ 1))
Asks r size Flush = (r.command ≡ commands.Flush) × (r.flags ≤ 1)
Asks r size Disconnect = r.command ≡ commands.Disconnect

-- `Invalid` of a READ: it doesn't name whole sectors, or passes the end. Of a WRITE: it doesn't name whole sectors. Of a FLUSH: an unknown
-- flag. An unknown command is always invalid, and a request to disconnect never.
abbrev pub IsInvalid : Command → Request → ℕ → Type 0
IsInvalid commands.Read r size = IsWhole r → size < r.offset + r.length
IsInvalid commands.Write r size = IsWhole r → ⊥
IsInvalid commands.Flush r size = 1 < r.flags
IsInvalid commands.Disconnect r size = ⊥
IsInvalid (commands.Other n) r size = Unit {0}

-- Which error is told: by the request's numbers and the list's size, no other than these two.
abbrev pub IsRefused : Request → ℕ → RequestError → Type 0
IsRefused r size Invalid = IsInvalid r.command r size
IsRefused r size NoSpace = (r.command ≡ commands.Write) × IsWhole r × (size < r.offset + r.length)
IsRefused r size Io = ⊥
IsRefused r size NoMemory = ⊥
