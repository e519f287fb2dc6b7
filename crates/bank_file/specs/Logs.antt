-- What was done under which number.
use Rattle.std.specs.Prelude.{◌≡◌, ◌≢◌, ◌⊎◌, ◌+◌, ◌*◌, ◌<◌, ◌≤◌, ℕ, List, take, drop, Option, Some}
use Rattle.bank_file.specs.declared.device.Done.{Done}
use Rattle.bank_file.specs.declared.device.Done.TheVariants.{Put, Synced}

-- what was done under each number
abbrev pub Log : Type 0
Log = ℕ → Option Done

-- Under the numbers from this one on, so many, the sectors of the buffer were put, one after the other and the first at `at`. All other
-- numbers stand for what they stood for.
pub record IsLogged (before after : Log) (number at count : ℕ) (buffer : List ℕ) : Type 0 where
  pub inside : (i : ℕ) → i < count → after (number + i) ≡ Some (Put (at + i) (take 512 (drop (512 * i) buffer)))
  pub outside : (i : ℕ) → (i < number) ⊎ (number + count ≤ i) → after i ≡ before i

-- under this number all was made safe
pub record IsSynced (before after : Log) (number : ℕ) : Type 0 where
  pub here : after number ≡ Some Synced
  pub others : (i : ℕ) → i ≢ number → after i ≡ before i

-- nothing was done
abbrev pub AreKept : Log → Log → Type 0
AreKept before after = (i : ℕ) → after i ≡ before i
