-- The words that a line knows.
use Rattle.std.specs.Prelude.{ℕ, if◌then◌else◌, List, [], ◌∷◌, bytes_eq, codes, Option, Some, None}
use Rattle.std.specs.Option.{is_some}
use Rattle.script_words.specs.Keys.{behind}
use Rattle.script.specs.declared.tables.Verb.{Verb}
use Rattle.script.specs.declared.tables.Verb.TheVariants.{Create, Assemble, Read, Write, Flush, Fail, Add, Step, Wait, ArraySize, Grow, Stop, Halt, Detail, Mdstat, Examine, Alerts}
use Rattle.script.specs.declared.tables.BlockWord.{BlockWord}
use Rattle.script.specs.declared.tables.BlockWord.TheVariants.{Together, A, B, End}
use Rattle.script.specs.declared.tables.Key.{Key}
use Rattle.script.specs.declared.tables.Key.TheVariants.{Level, Disks, Chunk, Layout, LayoutWish, Size, Offset}

abbrev pub all_verbs : List Verb
all_verbs =
    Create ∷ Assemble ∷ Read ∷ Write ∷ Flush ∷ Fail ∷ Add ∷ Step ∷ Wait ∷ ArraySize ∷ Grow ∷ Stop ∷ Halt ∷ Detail ∷ Mdstat ∷ Examine ∷ Alerts ∷ []

abbrev pub verb_name : Verb → List ℕ
verb_name Create = codes "create"
verb_name Assemble = codes "assemble"
verb_name Read = codes "read"
verb_name Write = codes "write"
verb_name Flush = codes "flush"
verb_name Fail = codes "fail"
verb_name Add = codes "add"
verb_name Step = codes "step"
verb_name Wait = codes "wait"
verb_name ArraySize = codes "array-size"
verb_name Grow = codes "grow"
verb_name Stop = codes "stop"
verb_name Halt = codes "halt"
verb_name Detail = codes "detail"
verb_name Mdstat = codes "mdstat"
verb_name Examine = codes "examine"
verb_name Alerts = codes "alerts"

-- the first of these verbs that a word is
abbrev pub verb_in : List Verb → List ℕ → Option Verb
verb_in [] word = None
verb_in (verb ∷ verbs) word = if bytes_eq word (verb_name verb) then Some verb else verb_in verbs word

abbrev pub all_block_words : List BlockWord
all_block_words = Together ∷ A ∷ B ∷ End ∷ []

abbrev pub block_word_name : BlockWord → List ℕ
block_word_name Together = codes "together"
block_word_name A = codes "a:"
block_word_name B = codes "b:"
block_word_name End = codes "end"

abbrev pub block_word_in : List BlockWord → List ℕ → Option BlockWord
block_word_in [] word = None
block_word_in (known ∷ others) word = if bytes_eq word (block_word_name known) then Some known else block_word_in others word

-- the keys that may stand behind a verb
abbrev pub keys_of : Verb → List Key
keys_of Create = Level ∷ Disks ∷ Chunk ∷ Layout ∷ Size ∷ Offset ∷ []
keys_of Grow = Level ∷ Disks ∷ Chunk ∷ LayoutWish ∷ []
keys_of verb = []

abbrev pub key_name : Key → List ℕ
key_name Level = codes "level="
key_name Disks = codes "disks="
key_name Chunk = codes "chunk="
key_name Layout = codes "layout="
key_name LayoutWish = codes "layout="
key_name Size = codes "size="
key_name Offset = codes "offset="

-- the first of these keys with which a word begins
abbrev pub key_in : List Key → List ℕ → Option Key
key_in [] word = None
key_in (key ∷ keys) word = if is_some (behind (key_name key) word) then Some key else key_in keys word
