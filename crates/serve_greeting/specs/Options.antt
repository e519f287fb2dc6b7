-- The client's options: their bytes, and what they ask of a server with one export, whose name is empty.
use Rattle.std.specs.Prelude.{◌≡◌, ◌≢◌, ℕ, ◌*◌, ◌^◌, ◌<◌, ◌++◌, ◌⊎◌, List, [], length}
use Rattle.std.specs.Int.{w16, w32, w64, to_be_bytes}
use Rattle.serve_greeting.specs.declared.asked.OptionError.{OptionError}
use Rattle.serve_greeting.specs.declared.asked.OptionError.TheVariants.{Unsupported, Invalid, Unknown}
use Rattle.serve_greeting.specs.declared.asked.Asked.{Asked}
use Rattle.serve_greeting.specs.declared.asked.Asked.TheVariants as asks
use Rattle.serve_greeting.specs.declared.asked.Next.{Next}
use Rattle.serve_greeting.specs.declared.asked.Next.TheVariants as nexts

-- a magic number, the option's number and the length of its content, all big-endian
unfoldable pub option_head : ℕ → ℕ → List ℕ
option_head option long = to_be_bytes w64 0x49484156454F5054 ++ (to_be_bytes w32 option ++ to_be_bytes w32 long)

abbrev pub option_bytes : ℕ → List ℕ → List ℕ
option_bytes option content = option_head option (length content) ++ content

abbrev pub error_number : OptionError → ℕ
error_number Unsupported = 0x80000001
error_number Invalid = 0x80000003
error_number Unknown = 0x80000006

-- The content of INFO or GO names this export: the name behind its length, then how many items are wished for, and two bytes for each.
pub record Names (content name : List ℕ) : Type 0 where
  pub count : ℕ
  pub wishes : List ℕ
  pub parts : content ≡ to_be_bytes w32 (length name) ++ (name ++ (to_be_bytes w16 count ++ wishes))
  pub short : length name < 2 ^ 32
  pub few : count < 2 ^ 16
  pub two_each : length wishes ≡ 2 * count

-- Refused: an option that isn't offered is unsupported. LIST with a content is invalid, and INFO and GO whose content names no export; another name is
-- unknown.
abbrev pub IsRefused : OptionError → ℕ → List ℕ → Type 0
IsRefused Unsupported option content = (option ≢ 1) × (option ≢ 2) × (option ≢ 3) × (option ≢ 6) × (option ≢ 7)
IsRefused Invalid option content = ((option ≡ 3) × (content ≢ [])) ⊎ (((option ≡ 6) ⊎ (option ≡ 7)) × ((name : List ℕ) → Names content name → ⊥))
IsRefused Unknown option content = ((option ≡ 6) ⊎ (option ≡ 7)) × ((name : List ℕ) × Names content name × (name ≢ []))

-- what an option asks, by its number and content
abbrev pub IsAsked : ℕ → List ℕ → Asked → Type 0
IsAsked option content asks.Export = (option ≡ 1) × (content ≡ [])
IsAsked option content asks.OtherExport = (option ≡ 1) × (content ≢ [])
IsAsked option content asks.Abort = option ≡ 2
IsAsked option content asks.List = (option ≡ 3) × (content ≡ [])
IsAsked option content asks.Info = (option ≡ 6) × Names content []
IsAsked option content asks.Go = (option ≡ 7) × Names content []
IsAsked option content (asks.Refused refused error) = (refused ≡ option) × IsRefused error option content

-- what INFO or GO asks: wish, where the content names the export
abbrev pub IsNamed : ℕ → List ℕ → Asked → Asked → Type 0
IsNamed option content wish asked = ((asked ≡ wish) × Names content [])
    ⊎ ((asked ≡ asks.Refused option Unknown) × ((name : List ℕ) × Names content name × (name ≢ [])))
    ⊎ ((asked ≡ asks.Refused option Invalid) × ((name : List ℕ) → Names content name → ⊥))

-- what comes behind the answer
abbrev pub next_of : Asked → Next
next_of asks.Export = nexts.Requests
next_of asks.OtherExport = nexts.End
next_of asks.Abort = nexts.End
next_of asks.List = nexts.Option
next_of asks.Info = nexts.Option
next_of asks.Go = nexts.Requests
next_of (asks.Refused option error) = nexts.Option
