-- The greeting as a whole: what the client says, what it is answered, and how it ends.
use Rattle.std.specs.Prelude.{◌≡◌, ◌≢◌, ℕ, ◌<◌, ◌≤◌, ◌++◌, ◌⊎◌, List, [], ◌∷◌, Bool, true, false, length, take, Result, IfOk, IfErr, MatchResult}
use Rattle.std.specs.Int.{w16, w32, w64, to_be_bytes}
use Rattle.std.specs.List.{flat_map}
use Rattle.script_io.specs.Causes.{HasRisen}
use Rattle.serve_greeting.specs.declared.asked.Asked.{Asked}
use Rattle.serve_greeting.specs.declared.asked.Next.{Next}
use Rattle.serve_greeting.specs.declared.asked.Next.TheVariants as nexts
use Rattle.serve_greeting.specs.declared.end.GreetingEnd.{GreetingEnd}
use Rattle.serve_greeting.specs.declared.end.GreetingEnd.TheVariants.{Left, Ended, NotUnderstood, TooMany, SourceFailed, SinkFailed}
use Rattle.serve_greeting.specs.declared.taking.Said.{Said}
use Rattle.serve_greeting.specs.Options.{option_head, option_bytes, IsAsked, next_of}
use Rattle.serve_greeting.specs.Answers.{answer_to}

-- ---- faults

-- a fault of the source is told only where its count of faults rose
abbrev pub IsSourceCause : GreetingEnd → ℕ → ℕ → Type 0
IsSourceCause SourceFailed before now = HasRisen before now
IsSourceCause _ before now = Unit {0}

pub record IsSourceBlamed {T : Type 0} (before now : ℕ) (result : Result T GreetingEnd) : Type 0 where
  pub never_falls : before ≤ now
  pub failed : IfErr result (λ e. IsSourceCause e before now)

-- the same of the sink
abbrev pub IsSinkCause : GreetingEnd → ℕ → ℕ → Type 0
IsSinkCause SinkFailed before now = HasRisen before now
IsSinkCause _ before now = Unit {0}

pub record IsSinkBlamed {T : Type 0} (before now : ℕ) (result : Result T GreetingEnd) : Type 0 where
  pub never_falls : before ≤ now
  pub failed : IfErr result (λ e. IsSinkCause e before now)

-- ---- reading

-- 16 bytes that are no option's head, or one of more than 64 KiB
abbrev pub IsNoHead : List ℕ → Type 0
IsNoHead head = (option long : ℕ) → long ≤ 65536 → head ≢ option_head option long

-- bytes with which an option begins, and which are not all of it
abbrev pub IsAmid : List ℕ → Type 0
IsAmid bytes = (length bytes < 16)
    ⊎ ((option long : ℕ) × (more : List ℕ) × (long ≤ 65536) × (bytes ≡ option_head option long ++ more) × (length more < long))

-- Without an option: the source ended amid one, or 16 bytes begin none, or a read failed amid one.
abbrev pub IsLost : GreetingEnd → List ℕ → List ℕ → Type 0
IsLost Ended old new = IsAmid old × (new ≡ [])
IsLost NotUnderstood old new = (head : List ℕ) × (length head ≡ 16) × IsNoHead head × (old ≡ head ++ new)
IsLost SourceFailed old new = (some : List ℕ) × IsAmid some × (old ≡ some ++ new)
IsLost _ old new = ⊥

-- no other end comes of what is read
abbrev pub IsReadEnd : GreetingEnd → Type 0
IsReadEnd Ended = Unit {0}
IsReadEnd SourceFailed = Unit {0}
IsReadEnd NotUnderstood = Unit {0}
IsReadEnd _ = ⊥

-- An option's head and content are taken, and no further byte. The content stands at the buffer's front.
pub record OptionTaken (tells : Type 0) (result : Result Said GreetingEnd) (old new buffer : List ℕ) : Type 0 where
  pub found : tells → IfOk result (λ s. old ≡ option_bytes s.option (take s.length buffer) ++ new)
  pub lost : tells → IfErr result (λ e. IsLost e old new)
  pub ends : IfErr result IsReadEnd

-- ---- one option and its answer

pub record Spoken : Type 0 where
  pub option : ℕ
  pub content : List ℕ
  pub asked : Asked

-- The option was taken and answered, and nothing else.
pub record Answered (source_tells sink_tells : Type 0) (size : ℕ) (zeroes : Bool) (s : Spoken) (old new taken now : List ℕ) : Type 0 where
  pub asked : IsAsked s.option s.content s.asked
  pub said : source_tells → old ≡ option_bytes s.option s.content ++ new
  pub answered : sink_tells → now ≡ taken ++ answer_to size zeroes s.asked

-- The option was taken, and a first part of its answer.
pub record HalfAnswered (source_tells sink_tells : Type 0) (size : ℕ) (zeroes : Bool) (s : Spoken) (old new taken now : List ℕ) : Type 0 where
  pub asked : IsAsked s.option s.content s.asked
  pub said : source_tells → old ≡ option_bytes s.option s.content ++ new
  pub answered : sink_tells → (n : ℕ) × (now ≡ taken ++ take n (answer_to size zeroes s.asked))

-- No option was taken, and nothing was answered.
pub record NotAnswered (source_tells sink_tells : Type 0) (e : GreetingEnd) (old new taken now : List ℕ) : Type 0 where
  pub ends : IsReadEnd e
  pub lost : source_tells → IsLost e old new
  pub kept : sink_tells → now ≡ taken

abbrev pub next_where : Bool → Next
next_where true = nexts.Requests
next_where false = nexts.Option

-- how it ends at an option
abbrev pub EndsAt : Type 0 → Type 0 → ℕ → Bool → GreetingEnd → List ℕ → List ℕ → List ℕ → List ℕ → Type 0
EndsAt source_tells sink_tells size zeroes Left old new taken now = (s : Spoken) × Answered source_tells sink_tells size zeroes s old new taken now × (next_of s.asked ≡ nexts.End)
EndsAt source_tells sink_tells size zeroes SinkFailed old new taken now = (s : Spoken) × HalfAnswered source_tells sink_tells size zeroes s old new taken now
EndsAt source_tells sink_tells size zeroes e old new taken now = NotAnswered source_tells sink_tells e old new taken now

abbrev pub Turned : Type 0 → Type 0 → ℕ → Bool → Result Bool GreetingEnd → List ℕ → List ℕ → List ℕ → List ℕ → Type 0
Turned source_tells sink_tells size zeroes result old new taken now = MatchResult result
    (λ chosen. (s : Spoken) × Answered source_tells sink_tells size zeroes s old new taken now × (next_of s.asked ≡ next_where chosen))
    (λ e. EndsAt source_tells sink_tells size zeroes e old new taken now)

-- ---- the first words

-- NBDMAGIC, IHAVEOPT, and the flags fixed newstyle and no zeroes
abbrev pub hello : List ℕ
hello = to_be_bytes w64 0x4E42444D41474943 ++ (to_be_bytes w64 0x49484156454F5054 ++ to_be_bytes w16 3)

-- a client that wants zeroes says fixed newstyle alone
abbrev pub client_flags : Bool → List ℕ
client_flags true = to_be_bytes w32 1
client_flags false = to_be_bytes w32 3

-- Without the client's flags: fewer than four bytes were left, or a read failed amid them, or they are neither of the two.
abbrev pub IsUnsaid : GreetingEnd → List ℕ → List ℕ → Type 0
IsUnsaid Ended old new = (length old < 4) × (new ≡ [])
IsUnsaid SourceFailed old new = (some : List ℕ) × (length some < 4) × (old ≡ some ++ new)
IsUnsaid NotUnderstood old new = (flags : List ℕ) × (length flags ≡ 4) × ((zeroes : Bool) → flags ≢ client_flags zeroes) × (old ≡ flags ++ new)
IsUnsaid _ old new = ⊥

-- how it ends before the first option
abbrev pub EndsBefore : Type 0 → Type 0 → GreetingEnd → List ℕ → List ℕ → List ℕ → List ℕ → Type 0
EndsBefore source_tells sink_tells SinkFailed old new taken now = (new ≡ old) × (sink_tells → (n : ℕ) × (now ≡ taken ++ take n hello))
EndsBefore source_tells sink_tells e old new taken now = IsReadEnd e × (source_tells → IsUnsaid e old new) × (sink_tells → now ≡ taken ++ hello)

abbrev pub Hello : Type 0 → Type 0 → Result Bool GreetingEnd → List ℕ → List ℕ → List ℕ → List ℕ → Type 0
Hello source_tells sink_tells result old new taken now = MatchResult result
    (λ zeroes. (source_tells → old ≡ client_flags zeroes ++ new) × (sink_tells → now ≡ taken ++ hello))
    (λ e. EndsBefore source_tells sink_tells e old new taken now)

-- ---- the whole

-- each option is what it asks, and another one may follow
abbrev pub AllGoOn : List Spoken → Type 0
AllGoOn [] = Unit {0}
AllGoOn (s ∷ talk) = IsAsked s.option s.content s.asked × (next_of s.asked ≡ nexts.Option) × AllGoOn talk

-- The client's flags and these options were taken, and the greeting and their answers given.
pub record Talked (source_tells sink_tells : Type 0) (size : ℕ) (zeroes : Bool) (talk : List Spoken) (old new taken now : List ℕ) : Type 0 where
  pub each : AllGoOn talk
  pub said : source_tells → old ≡ client_flags zeroes ++ (flat_map (λ s. option_bytes s.option s.content) talk ++ new)
  pub answered : sink_tells → now ≡ taken ++ (hello ++ flat_map (λ s. answer_to size zeroes s.asked) talk)

-- behind options that were answered, this comes
pub record Behind (source_tells sink_tells : Type 0) (size : ℕ) (old taken : List ℕ) (P : Bool → List ℕ → List ℕ → Type 0) : Type 0 where
  pub zeroes : Bool
  pub talk : List Spoken
  pub few : length talk < 1000
  pub left : List ℕ
  pub told : List ℕ
  pub talked : Talked source_tells sink_tells size zeroes talk old left taken told
  pub then : P zeroes left told

-- at an option
abbrev pub EndsLater : Type 0 → Type 0 → ℕ → GreetingEnd → List ℕ → List ℕ → List ℕ → List ℕ → Type 0
EndsLater source_tells sink_tells size e old new taken now = Behind source_tells sink_tells size old taken
    (λ zeroes left told. EndsAt source_tells sink_tells size zeroes e left new told now)

-- before the first option or at one
abbrev pub EndsEarly : Type 0 → Type 0 → ℕ → GreetingEnd → List ℕ → List ℕ → List ℕ → List ℕ → Type 0
EndsEarly source_tells sink_tells size e old new taken now =
    EndsBefore source_tells sink_tells e old new taken now ⊎ EndsLater source_tells sink_tells size e old new taken now

-- how a greeting ends without requests
abbrev pub Ends : Type 0 → Type 0 → ℕ → GreetingEnd → List ℕ → List ℕ → List ℕ → List ℕ → Type 0
Ends source_tells sink_tells size TooMany old new taken now =
    (zeroes : Bool) × (talk : List Spoken) × (length talk ≡ 1000) × Talked source_tells sink_tells size zeroes talk old new taken now
Ends source_tells sink_tells size e old new taken now = EndsEarly source_tells sink_tells size e old new taken now

-- At Ok the last option is EXPORT_NAME or GO of the export, and requests follow.
abbrev pub Greeted : {T : Type 0} → Type 0 → Type 0 → ℕ → Result T GreetingEnd → List ℕ → List ℕ → List ℕ → List ℕ → Type 0
Greeted source_tells sink_tells size result old new taken now = MatchResult result
    (λ x. Behind source_tells sink_tells size old taken
    (λ zeroes left told. (s : Spoken) × Answered source_tells sink_tells size zeroes s left new told now × (next_of s.asked ≡ nexts.Requests)))
    (λ e. Ends source_tells sink_tells size e old new taken now)
