-- What a stop at any mark of an epoch leaves.
use Rattle.raid_types.specs.Sectors.{Sector}
use Rattle.std.specs.Prelude.{◌≡◌, ℕ, suc, ◌+◌, ◌<◌, ◌≤◌, Bool, true, false, ◌&&◌, ◌==◌, nat_le, if◌then◌else◌, ◌⊎◌, List, [], ◌∷◌, ◌++◌, length, take, drop, remove, slice_index_or, Option, Some, None, IsTrue}
use Rattle.std.specs.Option.{option_map_or}
use Rattle.raid_types.specs.declared.answers.Refusal.TheVariants.{DirtyDegraded, MembersMissing}
use Rattle.history.specs.declared.events.Event.{Event}
use Rattle.history.specs.declared.events.Event.TheVariants.{Resized}
use Rattle.history.specs.declared.events.Entry.{Entry}
use Rattle.bank.specs.Tape.{IsDrawn, Contents, IsImage, OnlyFlushesBetween}
use Rattle.history.specs.Stands.{stands, verdict}
use Rattle.history.specs.Flat.{rest_of_call, length_of, IsAllowed}
use Rattle.history.specs.World.{World, opening_list}
use Rattle.history.specs.Losses.{is_gone, gone_count, is_unclean}
use Rattle.history.specs.Legal.{is_loss, is_all_gone, last_end}

-- how many entries were made by this mark
abbrev pub made_by : ℕ → List Entry → ℕ
made_by mark [] = 0
made_by mark (e ∷ entries) = if nat_le e.end mark then 1 + made_by mark entries else made_by mark entries

-- how many entries from the front on are of the first one's call
abbrev pub first_call_len : List Entry → ℕ
first_call_len [] = 0
first_call_len (e ∷ entries) = 1 + length (rest_of_call e entries)

-- the place after the call that may have been running when the first k entries were made
abbrev pub may_be_made : List Entry → ℕ → ℕ
may_be_made entries k = k + first_call_len (drop k entries)

-- ---- a change of length that perhaps no slot kept

abbrev pub is_resized : Event → Bool
is_resized (Resized n) = true
is_resized event = false

-- the losses of this entry's call directly behind it
abbrev pub losses_behind : Entry → List Entry → List Entry
losses_behind e [] = []
losses_behind e (next ∷ entries) =
    if is_loss next.event && (next.caller == e.caller) && (next.number == e.number) then next ∷ losses_behind e entries else []

-- the place of the last Resized, if there is one
abbrev pub last_resized : List Entry → Option ℕ
last_resized [] = None
last_resized (e ∷ entries) =
    option_map_or (λ place. Some (suc place)) (last_resized entries) (if is_resized e.event then Some 0 else None)

-- the first of these entries, and the losses of its call directly behind it
abbrev pub first_with_losses : List Entry → List Entry
first_with_losses [] = []
first_with_losses (e ∷ entries) = e ∷ losses_behind e entries

-- the entries up to a place, with the losses directly behind it
abbrev pub up_to : List Entry → ℕ → List Entry
up_to entries place = take place entries ++ first_with_losses (drop place entries)

-- where the first of these entries ends
abbrev pub first_end : List Entry → ℕ
first_end [] = 0
first_end (e ∷ entries) = e.end

-- The Resized at this place is the last among the first k, and left no role of the array with a holder.
pub record MayBeLeftOut (world : World) (entries : List Entry) (k place : ℕ) : Type 0 where
  pub last : last_resized (take k entries) ≡ Some place
  pub gone : IsTrue (is_all_gone world (first_end (drop place entries)) (up_to entries place))

-- by these entries an image may be judged: the first j, perhaps without a Resized that no slot kept
abbrev pub MayBeJudgedBy : World → List Entry → ℕ → ℕ → List Entry → Type 0
MayBeJudgedBy world entries k j judged =
    (judged ≡ take j entries)
    ⊎ ((place : ℕ) × MayBeLeftOut world entries k place × (judged ≡ remove (take j entries) place))

-- ---- one mark

-- the image assembles, to a list of the length and the allowed values that these entries give
pub record StandsFor (world : World) (judged : List Entry) (c : Contents) : Type 0 where
  pub assembles : verdict world.scope c ≡ None
  pub sized : length (stands world.scope c) ≡ length_of (length (opening_list world)) judged
  pub sectors : (x : ℕ) → x < length (stands world.scope c)
      → IsAllowed (opening_list world) judged x (slice_index_or (stands world.scope c) x [])

-- the image is refused: a role that was lost held data while a write was under way
pub record IsRefusedDirty (world : World) (entries : List Entry) (k j : ℕ) (c : Contents) : Type 0 where
  pub role : ℕ
  pub refused : verdict world.scope c ≡ Some (DirtyDegraded role)
  pub gone : IsTrue (is_gone world entries k j role)
  pub unclean : IsTrue (is_unclean world entries k j)

-- the image is refused: too many roles were lost
pub record IsRefusedMissing (world : World) (entries : List Entry) (k j : ℕ) (c : Contents) : Type 0 where
  pub count : ℕ
  pub tolerance : ℕ
  pub refused : verdict world.scope c ≡ Some (MembersMissing count tolerance)
  pub gone : count ≤ gone_count world entries k j

-- one of the two refusals has its cause
abbrev pub IsRefusedRightly : World → List Entry → ℕ → ℕ → Contents → Type 0
IsRefusedRightly world entries k j c = IsRefusedDirty world entries k j c ⊎ IsRefusedMissing world entries k j c

-- The image is that of the first j entries: every entry that was made by the mark, and perhaps some of the call
-- that was running.
pub record IsJudged (world : World) (entries : List Entry) (mark : ℕ) (c : Contents) : Type 0 where
  pub j : ℕ
  pub made : made_by mark entries ≤ j
  pub running : j ≤ may_be_made entries (made_by mark entries)
  pub judgement : ((judged : List Entry) × MayBeJudgedBy world entries (made_by mark entries) j judged × StandsFor world judged c)
      ⊎ IsRefusedRightly world entries (made_by mark entries) j c

-- every image that a stop at this mark leaves is right
abbrev pub IsSafeAt : World → List Entry → ℕ → Type 0
IsSafeAt world entries mark = (c : Contents) → IsImage world.start world.tape mark c → IsJudged world entries mark c

-- the same of all contents that are drawn from these values, whether a stop may leave them or not
abbrev pub IsSafeFor : World → List Entry → ℕ → (ℕ → ℕ → List Sector) → Type 0
IsSafeFor world entries mark d = (c : Contents) → IsDrawn d c → IsJudged world entries mark c

-- Every mark of the epoch is safe, from the opening to the last entry's end and through the flushes behind it.
abbrev pub IsCrashSafe : World → ℕ → List Entry → Type 0
IsCrashSafe world last entries = (mark : ℕ) → world.first ≤ mark → mark ≤ last
    → OnlyFlushesBetween world.tape (last_end world entries) mark → IsSafeAt world entries mark
