-- The text of a reply, without its newline.
use Rattle.std.specs.Prelude.{ℕ, ◌+◌, Bool, true, false, ◌==◌, if◌then◌else◌, List, [], ◌∷◌, ◌++◌, length, take, Option, Some, None, unwrap_or, codes, decimal}
use Rattle.std.specs.List.{flat_map}
use Rattle.std.specs.Str.{bytes_eq}
use Rattle.hex.specs.Hex.{encode_lower}
use Rattle.history.specs.raid_types_Sectors.{Sector, zero_sector}
use Rattle.history.specs.raid_types_Bytes.{little}
use Rattle.history.specs.raid_types_the_Refusal.{Refusal}
use Rattle.history.specs.raid_types_the_Refusal_TheVariants.{PastEnd, TooManyMissing, NotResynced, BackupFault, NoSuchRole, SlotTaken, SlotTooSmall, PastSize, SlotFault, Busy, Degraded, SameShape, BadShape, SizeNotMultiple, NeedSpares, NeedBackup, BackupTooSmall, ArraySizeFirst, Nothing, NoSuperblock, Unsupported, BadField, TwoHolders, MembersMissing, DirtyDegraded, PositionNotOnUnit, BackupAbsent, NotRunning, Running, NoSuchSlot, UuidInUse}
use Rattle.history.specs.raid_types_the_BusyKind.{BusyKind}
use Rattle.history.specs.raid_types_the_BusyKind_TheVariants.{Reshape, Resync, Rebuild, Plan}
use Rattle.history.specs.raid_types_the_ShapeField.{ShapeField}
use Rattle.history.specs.raid_types_the_ShapeField_TheVariants.{Level, Layout, Chunk, Disks, Size, Offset}
use Rattle.history.specs.raid_types_the_Shape.{Shape}
use Rattle.history.specs.raid_types_the_Status.{Status}
use Rattle.history.specs.declared.events.Event.{Event}
use Rattle.history.specs.declared.events.Event.TheVariants.{Read, Wrote, Flushed, Added, Failed, Visible, Planned, Stepped, Stopped, Halted, Refused}
use Rattle.script.specs.declared.reply.Lane.{Lane}
use Rattle.script.specs.declared.reply.Lane.TheVariants.{Script, A, B, Worker}
use Rattle.script_words.specs.Layouts.{layout_name}
use Rattle.script.specs.Seeds.{seed_sector}

-- ---- refusals

abbrev pub busy_word : BusyKind → List ℕ
busy_word Reshape = codes "reshape"
busy_word Resync = codes "resync"
busy_word Rebuild = codes "rebuild"
busy_word Plan = codes "plan"

abbrev pub field_word : ShapeField → List ℕ
field_word Level = codes "level"
field_word Layout = codes "layout"
field_word Chunk = codes "chunk"
field_word Disks = codes "disks"
field_word Size = codes "size"
field_word Offset = codes "offset"

-- each value after a space
abbrev pub spaced : List (List ℕ) → List ℕ
spaced values = flat_map (λ value. codes " " ++ value) values

-- `refused NUMBER NAME VALUES`
abbrev pub refused : ℕ → List ℕ → List (List ℕ) → List ℕ
refused number name values = codes "refused " ++ decimal number ++ codes " " ++ name ++ spaced values

abbrev pub refusal_text : Refusal → List ℕ
refusal_text (PastEnd visible) = refused 1 (codes "PastEnd") (decimal visible ∷ [])
refusal_text (TooManyMissing count tolerance) = refused 2 (codes "TooManyMissing") (decimal count ∷ decimal tolerance ∷ [])
refusal_text (NotResynced role) = refused 3 (codes "NotResynced") (decimal role ∷ [])
refusal_text BackupFault = refused 4 (codes "BackupFault") []
refusal_text (NoSuchRole role) = refused 5 (codes "NoSuchRole") (decimal role ∷ [])
refusal_text (SlotTaken slot) = refused 6 (codes "SlotTaken") (decimal slot ∷ [])
refusal_text (SlotTooSmall have want) = refused 7 (codes "SlotTooSmall") (decimal have ∷ decimal want ∷ [])
refusal_text (PastSize size) = refused 8 (codes "PastSize") (decimal size ∷ [])
refusal_text (SlotFault slot) = refused 9 (codes "SlotFault") (decimal slot ∷ [])
refusal_text (Busy kind) = refused 10 (codes "Busy") (busy_word kind ∷ [])
refusal_text (Degraded role) = refused 11 (codes "Degraded") (decimal role ∷ [])
refusal_text SameShape = refused 12 (codes "SameShape") []
refusal_text (BadShape field) = refused 13 (codes "BadShape") (field_word field ∷ [])
refusal_text (SizeNotMultiple size chunk) = refused 14 (codes "SizeNotMultiple") (decimal size ∷ decimal chunk ∷ [])
refusal_text (NeedSpares have want) = refused 15 (codes "NeedSpares") (decimal have ∷ decimal want ∷ [])
refusal_text NeedBackup = refused 16 (codes "NeedBackup") []
refusal_text (BackupTooSmall have want) = refused 17 (codes "BackupTooSmall") (decimal have ∷ decimal want ∷ [])
refusal_text (ArraySizeFirst visible least) = refused 18 (codes "ArraySizeFirst") (decimal visible ∷ decimal least ∷ [])
refusal_text Nothing = refused 19 (codes "Nothing") []
refusal_text NoSuperblock = refused 20 (codes "NoSuperblock") []
refusal_text (Unsupported bits) = refused 21 (codes "Unsupported") (decimal bits ∷ [])
refusal_text (BadField offset) = refused 22 (codes "BadField") (decimal offset ∷ [])
refusal_text (TwoHolders device) = refused 23 (codes "TwoHolders") (decimal device ∷ [])
refusal_text (MembersMissing count tolerance) = refused 24 (codes "MembersMissing") (decimal count ∷ decimal tolerance ∷ [])
refusal_text (DirtyDegraded role) = refused 25 (codes "DirtyDegraded") (decimal role ∷ [])
refusal_text (PositionNotOnUnit position unit) = refused 26 (codes "PositionNotOnUnit") (decimal position ∷ decimal unit ∷ [])
refusal_text BackupAbsent = refused 27 (codes "BackupAbsent") []
refusal_text NotRunning = refused 28 (codes "NotRunning") []
refusal_text Running = refused 29 (codes "Running") []
refusal_text (NoSuchSlot slot) = refused 30 (codes "NoSuchSlot") (decimal slot ∷ [])
refusal_text (UuidInUse slot) = refused 31 (codes "UuidInUse") (decimal slot ∷ [])

-- ---- what was read

-- what a sector is shown as: all zero, as a seed writes it, or all its bytes
pub data Kind : Type 0 where
  Zero : Kind
  Seed : ℕ → Kind
  Hex : Sector → Kind

-- the kind of the sector at place x: its first 4 bytes, the lowest first, are the only seed that may have written it
abbrev pub kind_of : ℕ → Sector → Kind
kind_of x sector =
    let seed = little (take 4 sector) in
    if bytes_eq sector zero_sector then Zero
    else if bytes_eq sector (seed_sector seed x) then Seed seed
    else Hex sector

-- the kinds of the sectors from this place on
abbrev pub kinds : ℕ → List Sector → List Kind
kinds x [] = []
kinds x (sector ∷ sectors) = kind_of x sector ∷ kinds (x + 1) sectors

abbrev pub is_same : Kind → Kind → Bool
is_same Zero Zero = true
is_same (Seed s) (Seed t) = s == t
is_same (Hex a) (Hex b) = bytes_eq a b
is_same a b = false

-- one more in front joins the first run where it is of its kind, and else is a run of its own
abbrev pub joined : Kind → List (Kind × ℕ) → List (Kind × ℕ)
joined kind [] = (kind, 1) ∷ []
joined kind ((first, count) ∷ others) =
    if is_same kind first then (kind, count + 1) ∷ others
    else (kind, 1) ∷ (first, count) ∷ others

-- the longest rows of equal kinds, each with its length
abbrev pub runs : List Kind → List (Kind × ℕ)
runs [] = []
runs (kind ∷ others) = joined kind (runs others)

abbrev pub kind_text : Kind → List ℕ
kind_text Zero = codes "zero"
kind_text (Seed seed) = codes "seed " ++ decimal seed
kind_text (Hex sector) = codes "hex " ++ encode_lower sector

abbrev pub run_text : Kind × ℕ → List ℕ
run_text (kind, count) = codes " " ++ kind_text kind ++ codes " x" ++ decimal count

-- the runs of the sectors from this place on
abbrev pub runs_text : ℕ → List Sector → List ℕ
runs_text x sectors = flat_map run_text (runs (kinds x sectors))

-- ---- replies

abbrev pub created_text : List ℕ
created_text = codes "created"

-- ` refused NUMBER NAME VALUES` where a refusal ended the steps
abbrev pub ending_text : Option Refusal → List ℕ
ending_text None = []
ending_text (Some refusal) = codes " " ++ refusal_text refusal

-- the reply of a call whose last entry has this event; the events that are no reply of a line's own have no text here
abbrev pub event_text : Event → List ℕ
event_text (Read x body) = codes "read " ++ decimal x ++ codes " " ++ decimal (length body) ++ codes ":" ++ runs_text x body
event_text (Wrote x body) = codes "wrote " ++ decimal x ++ codes " " ++ decimal (length body)
event_text Flushed = codes "flushed"
event_text (Added slot) = codes "added " ++ decimal slot
event_text (Failed role) = codes "failed " ++ decimal role
event_text (Visible limit count) = codes "visible " ++ decimal count
event_text (Planned left wish) = codes "planned " ++ decimal left
event_text (Stepped done left ended) = codes "stepped " ++ decimal done ++ codes " left " ++ decimal left ++ ending_text ended
event_text Stopped = codes "stopped"
event_text Halted = codes "halted"
event_text (Refused refusal) = refusal_text refusal
event_text event = []

-- how many sectors the text shows
abbrev pub sectors_read : Event → ℕ
sectors_read (Read x body) = length body
sectors_read event = 0

-- ---- work that is waited for

-- `left K`, and the refusal that ended the work
abbrev pub left_text : ℕ → Option Refusal → List ℕ
left_text left ended = codes "left " ++ decimal left ++ ending_text ended

-- the reply of `wait` whose last call has this event; where nothing was pending, nothing is left
abbrev pub waited_text : Event → List ℕ
waited_text (Stepped done left ended) = codes "waited " ++ left_text left ended
waited_text (Refused Nothing) = codes "waited " ++ left_text 0 None
waited_text (Refused refusal) = refusal_text refusal
waited_text event = []

-- the reply of a worker that was refused: all but the want of work is shown
abbrev pub worker_refusal_text : Refusal → List ℕ
worker_refusal_text Nothing = left_text 0 None
worker_refusal_text refusal = left_text 0 (Some refusal)

-- the worker's reply whose last call has this event
abbrev pub worker_text : Event → List ℕ
worker_text (Stepped done left ended) = left_text left ended
worker_text (Refused refusal) = worker_refusal_text refusal
worker_text event = []

-- what stands before a reply
abbrev pub lane_text : Lane → List ℕ
lane_text Script = []
lane_text A = codes "a: "
lane_text B = codes "b: "
lane_text Worker = codes "worker: "

-- ---- an array that was assembled

-- a layout by its name; no shape has a layout without one
abbrev pub layout_text : ℕ → List ℕ
layout_text layout = unwrap_or (layout_name layout) (decimal layout)

abbrev pub shape_text : Shape → ℕ → List ℕ
shape_text shape size =
    codes "level " ++ decimal shape.level ++ codes " disks " ++ decimal shape.disks ++ codes " chunk " ++ decimal shape.chunk
    ++ codes " size " ++ decimal size ++ codes " layout " ++ layout_text shape.layout

abbrev pub shown_text : Shape → Status → List ℕ
shown_text shape status =
    codes "assembled " ++ shape_text shape status.size
    ++ codes " visible " ++ decimal status.visible ++ codes " left " ++ decimal status.left

-- with the new shape while a reshape is active
abbrev pub assembled_text : Status → List ℕ
assembled_text status = shown_text (unwrap_or status.target status.shape) status
