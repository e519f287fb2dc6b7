-- The script that a demo performs: what it writes, how it grows beside two lanes, and what is read behind it.
use Rattle.std.specs.Prelude.{ℕ, zero, suc, ◌≤◌, ◌+◌, ◌-◌, ◌*◌, List, [], ◌++◌, codes, decimal}

-- the size of a demo is from 1 to 64
abbrev pub IsDemoSize : ℕ → Type 0
IsDemoSize size = (1 ≤ size) × (size ≤ 64)

-- a line that writes 96 sectors of a seed from this one on, and one that reads so many
abbrev pub write_line : ℕ → ℕ → List ℕ
write_line at seed = codes "write " ++ decimal at ++ codes " 96 " ++ decimal seed ++ codes "\n"

abbrev pub read_line : ℕ → List ℕ
read_line at = codes "read " ++ decimal at ++ codes " 96\n"

-- so many writes, one behind the other, each with a seed of its own: the first is that of this number
unfoldable pub writes_from : ℕ → ℕ → List ℕ
writes_from j zero = []
writes_from j (suc more) = write_line (96 * j) (j + 1) ++ writes_from (j + 1) more

-- so many reads
unfoldable pub reads_from : ℕ → ℕ → List ℕ
reads_from j zero = []
reads_from j (suc more) = read_line (96 * j) ++ reads_from (j + 1) more

-- an array of four disks with members of this size, and a spare
abbrev pub making : ℕ → List ℕ
making size =
    codes "create 6ba7b810-9dad-11d1-80b4-00c04fd430c8" ++ codes " level=5 disks=4 chunk=8 size=" ++ decimal size ++ codes " offset=16\nadd 4\n"

-- the first lane writes and reads the front of the list
abbrev pub lane_a : List ℕ
lane_a = codes "a: write 0 96 1001\na: read 0 96\n" ++ codes "a: write 0 48 1002\na: flush\n"

-- the second one writes and reads from this sector on
abbrev pub lane_b : ℕ → List ℕ
lane_b at = codes "b: write " ++ decimal at ++ codes " 96 2001\nb: read " ++ decimal at ++ codes " 96\n"

-- the array grows beside them, and is stopped and found again
unfoldable pub growing : ℕ → List ℕ
growing at = codes "flush\ngrow disks=5\ntogether\n" ++ lane_a ++ lane_b at ++ codes "end\nwait\nstop\nassemble\n"

-- Members of 64 * n sectors are filled; the array grows from four disks to five while two lanes read and write; then it is stopped, found again and
-- read whole.
unfoldable pub demo_text : ℕ → List ℕ
demo_text n = making (64 * n) ++ writes_from 0 (2 * n) ++ growing (192 * n - 96) ++ reads_from 0 (2 * n) ++ codes "stop\n"
