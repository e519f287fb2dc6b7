-- The bytes that answer an option, all numbers big-endian.
use Rattle.std.specs.Prelude.{ℕ, ◌++◌, List, [], Bool, true, false, length, replicate}
use Rattle.std.specs.Int.{w16, w32, w64, to_be_bytes}
use Rattle.serve_greeting.specs.declared.asked.Asked.{Asked}
use Rattle.serve_greeting.specs.declared.asked.Asked.TheVariants as asks
use Rattle.serve_greeting.specs.Options.{error_number}

-- a magic number, the option, the kind of the reply and the length of what follows
unfoldable pub reply_head : ℕ → ℕ → ℕ → List ℕ
reply_head option kind long = to_be_bytes w64 0x0003E889045565A9 ++ (to_be_bytes w32 option ++ (to_be_bytes w32 kind ++ to_be_bytes w32 long))

abbrev pub reply : ℕ → ℕ → List ℕ → List ℕ
reply option kind content = reply_head option kind (length content) ++ content

-- the size in bytes, and the flags HAS_FLAGS, SEND_FLUSH and SEND_FUA
abbrev pub export : ℕ → List ℕ
export size = to_be_bytes w64 size ++ to_be_bytes w16 13

-- item 0: the export
abbrev pub export_info : ℕ → List ℕ
export_info size = to_be_bytes w16 0 ++ export size

-- item 3: a request has 512 bytes at least, better 4,096, and 1 MiB at most
abbrev pub sizes_info : List ℕ
sizes_info = to_be_bytes w16 3 ++ (to_be_bytes w32 512 ++ (to_be_bytes w32 4096 ++ to_be_bytes w32 1048576))

-- INFO (3) with each item, and ACK (1)
abbrev pub told : ℕ → ℕ → List ℕ
told option size = reply option 3 (export_info size) ++ (reply option 3 sizes_info ++ reply option 1 [])

-- SERVER (2) with the one name, of no bytes, and ACK
abbrev pub listed : List ℕ
listed = reply 3 2 (to_be_bytes w32 0) ++ reply 3 1 []

abbrev pub zeroes_where : Bool → List ℕ
zeroes_where true = replicate 124 0
zeroes_where false = []

-- The answer for an export of so many bytes. That to EXPORT_NAME is no reply: 124 zeroes follow the export, unless the client does without them.
abbrev pub answer_to : ℕ → Bool → Asked → List ℕ
answer_to size zeroes asks.Export = export size ++ zeroes_where zeroes
answer_to size zeroes asks.OtherExport = []
answer_to size zeroes asks.Abort = reply 2 1 []
answer_to size zeroes asks.List = listed
answer_to size zeroes asks.Info = told 6 size
answer_to size zeroes asks.Go = told 7 size
answer_to size zeroes (asks.Refused option error) = reply option (error_number error) []
