-- Which roles were lost in an epoch, and whether it was clean.
use Rattle.std.specs.Prelude.{ℕ, ◌-◌, Bool, true, false, not, ◌&&◌, ◌||◌, ◌==◌, nat_le, if◌then◌else◌, List, take, slice_range, fold, Option, Some, None}
use Rattle.std.specs.Option.{option_map_or}
use Rattle.std.specs.List.{list_any}
use Rattle.raid_types.specs.declared.answers.Refusal.{Refusal}
use Rattle.raid_types.specs.declared.answers.Refusal.TheVariants.{TooManyMissing, BackupFault}
use Rattle.raid_types.specs.Search.{count_below}
use Rattle.history.specs.declared.events.Event.{Event}
use Rattle.history.specs.declared.events.Event.TheVariants.{Wrote, Torn, Flushed, Lost, Rebuilt, Step, Stopped, Refused}
use Rattle.history.specs.declared.events.StepKind.TheVariants.{Begun, TakenOver, ResyncEnded}
use Rattle.history.specs.declared.events.Entry.{Entry}
use Rattle.history.specs.World.{World, reading_at}
use Rattle.sb_read_laws.specs.sb_specs_Reading.{Reading, reading, is_clean, shape_of, final_shape}

-- the superblocks at the opening say dirty
abbrev pub was_dirty : World → Bool
was_dirty world = option_map_or (λ r. not (is_clean r.newest)) (reading_at world world.first) false

-- a takeover to level 6 leaves the last role, its Q, without a whole holder
abbrev pub last_of_six : Reading → Option ℕ
last_of_six r = if (final_shape r.newest).level == 6 then Some ((final_shape r.newest).disks - 1) else None

abbrev pub left_without : Option Reading → Option ℕ
left_without None = None
left_without (Some r) = last_of_six r

abbrev pub is_this : Option ℕ → ℕ → Bool
is_this None role = false
is_this (Some lost) role = lost == role

-- the event takes the role's holder away; `reading` is that of the contents at its end
abbrev pub takes : Option Reading → ℕ → Event → Bool
takes reading role (Lost lost cause) = lost == role
takes reading role (Step TakenOver left) = is_this (left_without reading) role
takes reading role event = false

-- a reshape takes the roles anew that the old shape hasn't: each gets a spare when it begins
abbrev pub takes_anew : Option Reading → ℕ → Bool
takes_anew None role = false
takes_anew (Some r) role = nat_le (shape_of r.newest).disks role

-- the event gives the role a whole holder; `reading` is that of the contents at its end
abbrev pub gives_back : Option Reading → ℕ → Event → Bool
gives_back reading role (Rebuilt rebuilt) = rebuilt == role
gives_back reading role (Step Begun left) = takes_anew reading role
gives_back reading role event = false

abbrev pub loses : World → ℕ → Entry → Bool
loses world role e = takes (reading_at world e.end) role e.event

abbrev pub regains : World → ℕ → Entry → Bool
regains world role e = gives_back (reading_at world e.end) role e.event

-- Whether a role is gone after the first k entries, where those up to j may have happened besides: each loss up to
-- j counts, and what gives the role back only among the first k. The losses of a Begun's own update stand behind it.
abbrev pub gone_surely : World → ℕ → Bool → Entry → Bool
gone_surely world role gone e = gone && not (regains world role e) || loses world role e

abbrev pub gone_perhaps : World → ℕ → Bool → Entry → Bool
gone_perhaps world role gone e = gone || loses world role e

unfoldable pub is_gone : World → List Entry → ℕ → ℕ → ℕ → Bool
is_gone world entries k j role =
    fold (gone_perhaps world role) (fold (gone_surely world role) false (take k entries)) (slice_range entries k j)

-- the role is gone after all of these entries
unfoldable pub is_gone_after : World → List Entry → ℕ → Bool
is_gone_after world entries role = fold (gone_surely world role) false entries

-- roles are below the greatest number of slots
unfoldable pub gone_count : World → List Entry → ℕ → ℕ → ℕ
gone_count world entries k j = count_below 32 (is_gone world entries k j)

-- a write that a stop may leave by halves: one that was answered, or one that gave up
abbrev pub gives_up : Refusal → Bool
gives_up (TooManyMissing count tolerance) = true
gives_up BackupFault = true
gives_up refusal = false

abbrev pub unsettles : Event → Bool
unsettles (Wrote at body) = true
unsettles (Torn at body) = true
unsettles (Refused refusal) = gives_up refusal
unsettles event = false

abbrev pub is_resync_end : Event → Bool
is_resync_end (Step ResyncEnded left) = true
is_resync_end event = false

abbrev pub settles : Event → Bool
settles Flushed = true
settles Stopped = true
settles event = is_resync_end event

-- opened dirty, and not resynced in these entries
abbrev pub is_unsynced : World → List Entry → Bool
is_unsynced world entries = was_dirty world && not (list_any (λ e. is_resync_end e.event) entries)

-- written since the first k entries were last settled, in the first j
abbrev pub unsettled_surely : Bool → Entry → Bool
unsettled_surely unsettled e = unsettled && not (settles e.event) || unsettles e.event

abbrev pub unsettled_perhaps : Bool → Entry → Bool
unsettled_perhaps unsettled e = unsettled || unsettles e.event

unfoldable pub is_unclean : World → List Entry → ℕ → ℕ → Bool
is_unclean world entries k j =
    is_unsynced world (take k entries)
    || fold unsettled_perhaps (fold unsettled_surely false (take k entries)) (slice_range entries k j)
