-- What a file may hold, by the magics that its makers put in their places: the Linux kernel's headers have those of ext, XFS, Btrfs and swap
-- (on pages of 4,096 bytes), cryptsetup's that of LUKS, the UEFI specification those of the two partition tables.
use Rattle.std.specs.Prelude.{ℕ, ◌+◌, Bool, ◌&&◌, nat_le, if◌then◌else◌, List, [], ◌∷◌, ◌++◌, length, slice_range, bytes_eq, codes, Option, Some, None}
use Rattle.tool_warnings.specs.declared.systems.System.{System}
use Rattle.tool_warnings.specs.declared.systems.System.TheVariants.{Luks, Xfs, Ext, Btrfs, Swap, Gpt, Mbr}

-- In this order: the other ones may stand behind a boot sector, and GPT has one that says MBR.
abbrev pub all_systems : List System
all_systems = Luks ∷ Xfs ∷ Ext ∷ Btrfs ∷ Swap ∷ Gpt ∷ Mbr ∷ []

-- the byte at which the magic begins
abbrev pub place_of : System → ℕ
place_of Luks = 0
place_of Xfs = 0
place_of Ext = 1080
place_of Btrfs = 65600
place_of Swap = 4086
place_of Gpt = 512
place_of Mbr = 510

abbrev pub magic_of : System → List ℕ
magic_of Luks = codes "LUKS" ++ 0xba ∷ 0xbe ∷ []
magic_of Xfs = codes "XFSB"
magic_of Ext = 0x53 ∷ 0xef ∷ []
magic_of Btrfs = codes "_BHRfS_M"
magic_of Swap = codes "SWAPSPACE2"
magic_of Gpt = codes "EFI PART"
magic_of Mbr = 0x55 ∷ 0xaa ∷ []

abbrev pub words_of : System → List ℕ
words_of Luks = codes "a LUKS volume"
words_of Xfs = codes "an XFS file system"
words_of Ext = codes "an ext2, ext3 or ext4 file system"
words_of Btrfs = codes "a Btrfs file system"
words_of Swap = codes "a swap area"
words_of Gpt = codes "a GPT partition table"
words_of Mbr = codes "an MBR partition table"

-- its magic stands in its place
abbrev pub has_magic : List ℕ → System → Bool
has_magic front system =
    nat_le (place_of system + length (magic_of system)) (length front)
    && bytes_eq (slice_range front (place_of system) (place_of system + length (magic_of system))) (magic_of system)

-- the first of these that the file holds
abbrev pub system_in : List System → List ℕ → Option System
system_in [] front = None
system_in (system ∷ systems) front = if has_magic front system then Some system else system_in systems front
