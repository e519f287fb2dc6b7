-- What a contract sees of a bank over files: the images and the operations so far. The tape is made of what was done to the devices.
use Rattle.std.specs.Prelude.{◌≡◌, ℕ, zero, suc, ◌+◌, ◌*◌, ◌/◌, ◌<◌, ◌≤◌, ◌^◌, ◌++◌, List, [], ◌∷◌, length, slice_index, slice_index_or, map, Option, Some, None, All}
use Rattle.bank.specs.raid_types_Search.{tabulate}
use Rattle.bank.specs.raid_types_Sectors.{Sector}
use Rattle.bank.specs.declared.bank.Operation.{Operation}
use Rattle.bank.specs.declared.bank.Operation.TheVariants.{Write, Flush}
use Rattle.bank.specs.Given.{Given}
use Rattle.bank.specs.Tape.{value_after}
use Rattle.bank.specs.Whole.{WritesSector}
use Rattle.bank_file.specs.Logs.{Log}
use Rattle.bank_file.specs.declared.device.Done.{Done}
use Rattle.bank_file.specs.declared.device.Done.TheVariants.{Put, Synced}
use Rattle.bank_file.specs.declared.image.Image.{Image}

-- the images, one for each slot, and how many operations there were
pub record Files (D : Type 0) : Type 0 where
  pub images : List (Image D)
  pub ops : ℕ

-- the bytes of sector k
abbrev pub sector_in : (ℕ → ℕ) → ℕ → Sector
sector_in bytes k = tabulate 512 (λ i. bytes (512 * k + i))

-- those of slot s, and zeros where there is none
abbrev pub bytes_at : List (ℕ → ℕ) → ℕ → ℕ → ℕ
bytes_at all s = slice_index_or all s (λ i. 0)

-- what was done to slot s, and nothing where there is none
abbrev pub log_at : List Log → ℕ → Log
log_at logs s = slice_index_or logs s (λ i. None)

-- what a device did, as its slot's operation
abbrev pub placed : ℕ → Done → Operation
placed s (Put k bytes) = Write s k bytes
placed s Synced = Flush s

abbrev pub chosen : Option Done → ℕ → Operation → Operation
chosen (Some done) s other = placed s done
chosen None s other = other

-- What was done under a number, to the first of these slots that has it. They begin with slot s.
abbrev pub done_at : ℕ → List Log → ℕ → Operation
done_at s [] number = Flush s
done_at s (log ∷ logs) number = chosen (log number) s (done_at (s + 1) logs number)

-- what was done under the first n numbers
abbrev pub tape_of : List Log → ℕ → List Operation
tape_of logs zero = []
tape_of logs (suc n) = tape_of logs n ++ done_at 0 logs n ∷ []

-- what never changes
abbrev pub given_of : {D : Type 0} → (D → ℕ → ℕ) → Files D → Given
given_of start files = record {
  slots = length files.images;
  sectors = slice_index (map (λ image. image.sectors) files.images);
  start = λ s. sector_in (bytes_at (map (λ image. start image.device) files.images) s);
}

abbrev pub faults_in : {D : Type 0} → Files D → ℕ → ℕ
faults_in files = slice_index (map (λ image. image.faults) files.images)

abbrev pub tape_in : {D : Type 0} → (D → ℕ → Option Done) → Files D → List Operation
tape_in log files = tape_of (map (λ image. log image.device) files.images) files.ops

-- ---- inside

-- What each slot holds is its start with the tape applied, of whole sectors, and no number is taken before its time.
pub record IsConsistent (starts bytes : List (ℕ → ℕ)) (logs : List Log) (ops : ℕ) : Type 0 where
  pub free : (s i : ℕ) → ops ≤ i → log_at logs s i ≡ None
  pub present : (s k : ℕ) → s < length logs → sector_in (bytes_at bytes s) k ≡ value_after s k (sector_in (bytes_at starts s) k) (tape_of logs ops)
  pub written : All WritesSector (tape_of logs ops)
  pub stored : (s i : ℕ) → bytes_at starts s i < 256

pub record IsKept {D : Type 0} (tells : Type 0) (start bytes : D → ℕ → ℕ) (log : D → ℕ → Option Done) (images : List (Image D)) (ops : ℕ) : Type 0 where
  pub few : length images < 2 ^ 32
  pub told : tells → IsConsistent (map (λ image. start image.device) images) (map (λ image. bytes image.device) images) (map (λ image. log image.device) images) ops

-- A device to which nothing was done since it was opened.
pub record IsFresh (start bytes : ℕ → ℕ) (log : Log) : Type 0 where
  pub as_it_was : (i : ℕ) → bytes i ≡ start i
  pub nothing : (i : ℕ) → log i ≡ None
  pub small : (i : ℕ) → start i < 256

abbrev pub IsFreshDevice : {D : Type 0} → (D → ℕ → ℕ) → (D → ℕ → ℕ) → (D → ℕ → Option Done) → D → Type 0
IsFreshDevice start bytes log device = IsFresh (start device) (bytes device) (log device)

abbrev pub IsFreshImage : {D : Type 0} → (D → ℕ → ℕ) → (D → ℕ → ℕ) → (D → ℕ → Option Done) → Image D → Type 0
IsFreshImage start bytes log image = IsFresh (start image.device) (bytes image.device) (log image.device)

-- A bank over these devices before its first call: a slot for each, as long as its whole sectors, which never failed; it starts with what
-- they hold, and nothing is on the tape.
pub record IsOpened {D : Type 0} (tells : Type 0) (size : D → ℕ) (bytes : D → ℕ → ℕ) (devices : List D) (given : Given) (faults : ℕ → ℕ) (tape : List Operation) : Type 0 where
  pub slots : given.slots ≡ length devices
  pub sectors : (s : ℕ) → given.sectors s ≡ slice_index (map (λ device. size device / 512) devices) s
  pub start : tells → (s k : ℕ) → given.start s k ≡ sector_in (bytes_at (map bytes devices) s) k
  pub unfailed : (s : ℕ) → faults s ≡ 0
  pub empty : tape ≡ []
