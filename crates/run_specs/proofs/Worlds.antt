-- A history's world as the tape grows: what it opened with, and the marks that are safe.
use Rattle.std.proofs.Common.{◌≡◌, ℕ, zero, suc, ◌+◌, ◌-◌, ◌^◌, ◌<◌, ◌≤◌, inl, inr, Bool, true, false, Option, Some, None, unwrap_or, List, [], ◌∷◌, ◌++◌, length, take, drop, slice_range, refl, sym, ◌∙◌, ap, ap₂, subst, arith, append_assoc, append-nil, length-append, length-drop, take_all}
use Rattle.std.proofs.lemmas.List.{take-append-drop, drop-append-le, length-take-le}
use Rattle.std.proofs.lemmas.Bool.{cases_lt}
use Rattle.std.proofs.lemmas.Bool.Decides.{nat_tests}
use Rattle.std.proofs.Math.Seq.{take-append-add}
use Rattle.std.specs.Option.{option_map_or}
use Rattle.std.specs.Prelude.{IfSome, MatchOption, if◌then◌else◌, nat_le, IsFalse, ⊤}
use Rattle.array_requests.specs.raid_types_Sectors.{Sector}
use Rattle.array_requests.specs.bank_the_Operation.{Operation}
use Rattle.array_requests.specs.bank_the_Operation_TheVariants.{Write, Flush}
use Rattle.array_requests.specs.bank_Tape.{Contents, disk, IsImage, IsDrawn, AreFlushes}
use Rattle.array_requests.specs.bank_Stretches.{AreWritesWithin}
use Rattle.array_requests.proofs.bank_Laws.{contents-earlier}
use Rattle.array_requests.proofs.bank_Images.{drawn-image}
use Rattle.array_requests.specs.sb_specs_Reading.{Reading, reading, role_count, role_state, is_whole, is_reshaping, is_clean}
use Rattle.array_requests.specs.crash_views_Regions.{header_in, open_by}
use Rattle.array_requests.specs.reshape_request_the_Window.{Window}
use Rattle.array_requests.specs.reshape_request_Left.{grow_left}
use Rattle.array_requests.specs.stripe_region_resync_Left.{resync_left}
use Rattle.array_requests.specs.array_open_window_Finding.{window_for}
use Rattle.array_requests.specs.array_call_specs_Adopting.{found_work}
use Rattle.array_requests.specs.array_members_Status.{left_of}
use Rattle.array_requests.specs.raid_types_the_Status.{Status}
use Rattle.script.specs.history_the_Entry.{Entry}
use Rattle.script.specs.history_the_Event.{Event}
use Rattle.script.specs.history_World.{World, contents_at, reading_at, opening_list}
use Rattle.script.specs.history_Stands.{verdict, stands}
use Rattle.script.specs.history_Flat.{last_of}
use Rattle.script.specs.history_Transfers.{last_end_from}
use Rattle.script.specs.history_Legal.{last_end}
use Rattle.script.specs.history_CrashSafe.{IsSafeAt, IsSafeFor, IsCrashSafe, made_by}
use Rattle.script.specs.history_Epochs.{HasRoomForEvents}
use Rattle.script.specs.history_Opened.{IsSound, OpensSound}
use Rattle.script.specs.history_Reopened.{OpensAccepted}
use Rattle.script.specs.history_Sound.{FillsRight, LeavesSound, StaysSound}
use Rattle.script.specs.history_Growing.{grown, EndBy}
use Rattle.array_requests.proofs.history_laws_GrowingLaws.{marks-stay-safe}
use Rattle.script.proofs.history_SoundLaws.{fit-before, leaves-later, leaves-flushed}
use Rattle.script.proofs.history_StretchLaws.{bounds-serve}
use Rattle.array_requests.specs.array_create_assemble_the_CreateSpec.{CreateSpec}
use Rattle.array_requests.specs.array_specs_Plans.{KeepsShape}
use Rattle.run_specs.specs.Making.{IsStored, IsStoredNew, IsStoredAs, HeldAtFirst, MissingAtFirst, SpareAtFirst, found_members, found_left}

-- ---- the opening

module _ (world : World) (more : List Operation) (begun : world.first ≤ length world.tape) where
  first-same : contents_at (grown world more) world.first ≡ contents_at world world.first
  first-same = λ i s k. contents-earlier world.start world.tape more world.first s k begun i

  reading-same : reading_at (grown world more) world.first ≡ reading_at world world.first
  unfolding reading_at
  reading-same = ap (reading world.scope) first-same

  pub list-same : opening_list (grown world more) ≡ opening_list world
  unfolding opening_list
  list-same = ap (stands world.scope) first-same

  pub sound-later : OpensSound world → OpensSound (grown world more)
  sound-later was =
      subst (λ (o : Option Reading). IfSome o (IsSound world.scope (contents_at (grown world more) world.first))) (sym reading-same)
      (subst (λ (c : Contents). IfSome (reading_at world world.first) (IsSound world.scope c)) (sym first-same) was)

  -- a longer tape leaves less room
  pub room-before : HasRoomForEvents (grown world more) → HasRoomForEvents world
  room-before was =
      by_reading (reading_at world world.first)
      (subst (λ (o : Option Reading). IfSome o (λ r. r.newest.events + (length (world.tape ++ more) - world.first) < 2 ^ 62)) reading-same was)
    where
      by_reading : (o : Option Reading) → IfSome o (λ r. r.newest.events + (length (world.tape ++ more) - world.first) < 2 ^ 62)
          → IfSome o (λ r. r.newest.events + (length world.tape - world.first) < 2 ^ 62)
      by_reading None is = tt
      by_reading (Some r) is = let long = length-append world.tape more in omega (arith, is, long)

  -- what was filled in is right over a longer tape only where it is over the former one
  pub fills-before : (entries : List Entry) → FillsRight (grown world more) entries → FillsRight world entries
  fills-before entries (inl none) = inl none
  fills-before entries (inr fit) = inr (fit-before world more begun fit)

  -- an array kept its shape over a longer tape only where it did over the former one
  pub keeps-before : (entries : List Entry) → KeepsShape (grown world more) entries → KeepsShape world entries
  keeps-before entries was = record { found = subst (λ (o : Option Reading). MatchOption o ⊤ (λ r. is_reshaping r.newest ≡ false)) reading-same was.found; none = was.none }

  -- what was refused for nothing is so over a longer tape
  pub accepted-later : OpensAccepted world → OpensAccepted (grown world more)
  accepted-later was = ap (verdict world.scope) first-same ∙ was

  still-stored : {found : Reading} → IsStored world found → IsStored (grown world more) found
  still-stored was = record { says = reading-same ∙ was.says; accepted = accepted-later was.accepted }

  -- nor does it change how many steps were left
  left-same : (found : Reading) → found_left world found ≡ found_left (grown world more) found
  left-same found = λ i. by (is_reshaping found.newest) (sym first-same i)
    where
      window : Contents → Window
      window c = window_for (open_by world.scope found.newest (header_in world.scope c))

      by : Bool → Contents → ℕ
      by moving c =
          if moving then grow_left found.newest (window c) 0 [] + resync_left found.newest (window c) (if is_clean found.newest then None else Some 0)
          else left_of (found_work (found_members found)) (found_members found)

  pub new-later : {spec : CreateSpec} → IsStoredNew world spec → IsStoredNew (grown world more) spec
  new-later was = record { found = was.found; stored = still-stored was.stored; still = was.still; whole = was.whole; shape = was.shape; size = was.size; events = was.events; clean = was.clean; roles = was.roles; spares = was.spares }

  pub stored-later : {status : Status} {losses : List Event} → IsStoredAs world status losses → IsStoredAs (grown world more) status losses
  stored-later was = record {
    found = was.found;
    stored = still-stored was.stored;
    told = was.told;
    lost = was.lost;
    position = was.position;
    sized = was.sized ∙ sym (ap (λ (l : List Sector). length l) list-same);
    visible = was.visible ∙ sym (ap (λ (l : List Sector). length l) list-same);
    clean = was.clean;
    left = was.left ∙ left-same was.found;
  }

-- what held a role at the opening did so, however the tape goes on
pub held-longer : (world : World) (more : List Operation) {role slot : ℕ} → HeldAtFirst world role slot → HeldAtFirst (grown world more) role slot
held-longer world more was = record {
  begun = let long = length-append world.tape more in omega (arith, was.begun, long);
  found = was.found;
  says = reading-same world more was.begun ∙ was.says;
  held = was.held;
}

-- what was a spare there was one
pub spare-longer : (world : World) (more : List Operation) {slot : ℕ} → SpareAtFirst world slot → SpareAtFirst (grown world more) slot
spare-longer world more was = record {
  begun = let long = length-append world.tape more in omega (arith, was.begun, long);
  found = was.found;
  says = reading-same world more was.begun ∙ was.says;
  spare = was.spare;
}

-- and so it is of what was missing there
pub missing-longer : (world : World) (more : List Operation) {role : ℕ} → MissingAtFirst world role → MissingAtFirst (grown world more) role
missing-longer world more {role = role} was = record {
  begun = let long = length-append world.tape more in omega (arith, was.begun, long);
  missing = subst (λ (o : Option Reading). MatchOption o ⊥ (λ r. (role < role_count r.newest) × IsFalse (is_whole (role_state r role)))) (sym (reading-same world more was.begun)) was.missing;
}

-- ---- where the entries end

-- the last end is that of the rest
last-rest : (first : ℕ) (e : Entry) (entries : List Entry) → last_end_from first (e ∷ entries) ≡ last_end_from e.end entries
last-rest first e entries = by_last (last_of entries)
  where
    by_last : (o : Option Entry) → (unwrap_or o e).end ≡ option_map_or (λ (x : Entry). x.end) o e.end
    by_last None = refl
    by_last (Some last) = refl

pub last-within : (mark first : ℕ) (entries : List Entry) → first ≤ mark → EndBy mark entries → last_end_from first entries ≤ mark
last-within mark first [] le ends = le
last-within mark first (e ∷ entries) le ends = let same = last-rest first e entries in let rest = last-within mark e.end entries (ends.0) (ends.1) in omega (arith, same, rest)

-- all entries were made by a mark at which they had ended
made-all : (mark later : ℕ) (entries : List Entry) → mark ≤ later → EndBy mark entries → made_by later entries ≡ length entries
made-all mark later [] le ends = refl
made-all mark later (e ∷ entries) le ends =
    ap₂ (λ (b : Bool) (n : ℕ). if b then 1 + n else n) (ended e.end later (omega (arith, le, ends.0))) (made-all mark later entries le (ends.1)) ∙ one_more (length entries)
  where
    one_more : (n : ℕ) → 1 + n ≡ suc n
    one_more n = omega arith

    ended : (a b : ℕ) → a ≤ b → nat_le a b ≡ true
    ended a b h = grind (arith, nat_tests, h)

-- ---- marks behind the epoch, where nothing but flushes was done

flushes-front : (xs ys : List Operation) → AreFlushes (xs ++ ys) → AreFlushes xs
flushes-front [] ys is = tt
flushes-front (Flush t ∷ xs) ys is = flushes-front xs ys is
flushes-front (Write t j w ∷ xs) ys is = absurd is

flushes-back : (xs ys : List Operation) → AreFlushes (xs ++ ys) → AreFlushes ys
flushes-back [] ys is = is
flushes-back (Flush t ∷ xs) ys is = flushes-back xs ys is
flushes-back (Write t j w ∷ xs) ys is = absurd is

flushes-write-nothing : (bound : ℕ → ℕ → List Sector) (ops : List Operation) → AreFlushes ops → AreWritesWithin bound ops
flushes-write-nothing bound [] is = tt
flushes-write-nothing bound (Flush t ∷ ops) is = flushes-write-nothing bound ops is
flushes-write-nothing bound (Write t j w ∷ ops) is = absurd is

module _ (world : World) (more : List Operation) (entries : List Entry) (begun : world.first ≤ length world.tape) (ends : EndBy (length world.tape) entries) where
  abbrev at : ℕ
  at = length world.tape

  longer : length (world.tape ++ more) ≡ at + length more
  longer = length-append world.tape more

  last : last_end world entries ≤ at
  last = last-within at world.first entries begun ends

  -- a safe mark of the former tape is one of the longer tape
  safe-still : (mark : ℕ) → mark ≤ at → IsSafeAt world entries mark → IsSafeAt (grown world more) entries mark
  safe-still mark le safe =
      subst (λ (l : List Entry). IsSafeAt (grown world more) l mark) (append-nil entries) (marks-stay-safe world entries [] more mark begun le ends tt safe)

  range-same : (mark : ℕ) → mark ≤ at → slice_range (world.tape ++ more) (last_end world entries) mark ≡ slice_range world.tape (last_end world entries) mark
  range-same mark le =
      ap (λ (l : List Operation). take (mark - last_end world entries) l) (drop-append-le (last_end world entries) world.tape more last)
      ∙ take-front (mark - last_end world entries) (drop (last_end world entries) world.tape) more (let long = length-drop (last_end world entries) world.tape in omega (arith, le, last, long))
    where
      take-front : (n : ℕ) (xs ys : List Operation) → n ≤ length xs → take n (xs ++ ys) ≡ take n xs
      take-front zero xs ys h = refl
      take-front (suc n) [] ys h = absurd (omega (arith, h))
      take-front (suc n) (x ∷ xs) ys h = ap (λ (l : List Operation). x ∷ l) (take-front n xs ys (omega (arith, h)))

  -- the operations from the last end to a later mark
  range-past : (mark : ℕ) → at ≤ mark → slice_range (world.tape ++ more) (last_end world entries) mark ≡ drop (last_end world entries) world.tape ++ take (mark - at) more
  range-past mark le =
      let long = length-drop (last_end world entries) world.tape in
      ap (λ (l : List Operation). take (mark - last_end world entries) l) (drop-append-le (last_end world entries) world.tape more last)
      ∙ ap (λ (n : ℕ). take n (drop (last_end world entries) world.tape ++ more)) {y = length (drop (last_end world entries) world.tape) + (mark - at)} (omega (arith, le, last, long))
      ∙ take-append-add (drop (last_end world entries) world.tape) more (mark - at)

  range-whole : slice_range world.tape (last_end world entries) at ≡ drop (last_end world entries) world.tape
  range-whole = take_all (at - last_end world entries) (drop (last_end world entries) world.tape) (let long = length-drop (last_end world entries) world.tape in omega (arith, last, long))

  -- safe where the tape ended, and behind flushes
  safe-past : (mark : ℕ) → at ≤ mark → mark ≤ length (world.tape ++ more) → AreFlushes (take (mark - at) more) → IsSafeAt world entries at → IsSafeAt (grown world more) entries mark
  safe-past mark low high only safe =
      let added = take (mark - at) more in
      let rest = drop (mark - at) more in
      let count : length added ≡ mark - at = length-take-le (mark - at) more (omega (arith, high, longer, low)) in
      let whole : length (world.tape ++ added) ≡ mark = (let sum = length-append world.tape added in omega (arith, sum, count, low)) in
      let here : IsSafeAt (grown world added) entries mark =
      bounds-serve world entries added (disk world.start world.tape) (λ s k v is. is) (flushes-write-nothing (disk world.start world.tape) added only) at mark low (omega (arith, whole))
      (made-all at mark entries low ends ∙ sym (made-all at at entries (omega arith) ends)) (drawn-safe added) in
      let ended = subst (λ (l : List Entry). IsSafeAt (grown (grown world added) rest) l mark) (append-nil entries)
      (marks-stay-safe (grown world added) entries [] rest mark (omega (arith, begun, whole, low)) (omega (arith, whole)) (ends-later at (length (world.tape ++ added)) entries (omega (arith, whole, low)) ends) tt here) in
      subst (λ (l : List Operation). IsSafeAt (record { start = world.start; tape = l; scope = world.scope; first = world.first }) entries mark)
      (append_assoc world.tape added rest ∙ ap (λ (l : List Operation). world.tape ++ l) (take-append-drop (mark - at) more)) ended
    where
      ends-later : (a b : ℕ) (es : List Entry) → a ≤ b → EndBy a es → EndBy b es
      ends-later a b [] le is = tt
      ends-later a b (e ∷ es) le is = (omega (arith, le, is.0), ends-later a b es le (is.1))

      drawn-safe : (added : List Operation) → IsSafeFor (grown world added) entries at (disk world.start world.tape)
      drawn-safe added c drawn =
          subst (λ (l : List Entry). IsSafeAt (grown world added) l at) (append-nil entries) (marks-stay-safe world entries [] added at begun (omega arith) ends tt safe)
          c (image-of added c drawn)
        where
          image-of : (added : List Operation) (c : Contents) → IsDrawn (disk world.start world.tape) c → IsImage world.start (world.tape ++ added) at c
          image-of added c drawn = drawn-image world.start (world.tape ++ added) at c (let sum = length-append world.tape added in omega (arith, sum))
              (subst (λ (l : List Operation). IsDrawn (disk world.start l) c) (sym (take-front world.tape added)) drawn)
            where
              take-front : (xs ys : List Operation) → take (length xs) (xs ++ ys) ≡ xs
              take-front [] ys = refl
              take-front (x ∷ xs) ys = ap (λ (l : List Operation). x ∷ l) (take-front xs ys)

  -- the epoch is safe up to the longer tape's end
  pub safe-longer : IsCrashSafe world at entries → IsCrashSafe (grown world more) (length (world.tape ++ more)) entries
  safe-longer safe mark low high only = elim (cases_lt at mark) [
    | inl past ↦ safe-past mark (omega (arith, past)) high (flushes-back (drop (last_end world entries) world.tape) (take (mark - at) more) (subst AreFlushes (range-past mark (omega (arith, past))) only))
        (safe at begun (omega arith) (subst AreFlushes (sym range-whole) (flushes-front (drop (last_end world entries) world.tape) (take (mark - at) more) (subst AreFlushes (range-past mark (omega (arith, past))) only))))
    | inr within ↦ safe-still mark (omega (arith, within)) (safe mark low (omega (arith, within)) (subst AreFlushes (range-same mark (omega (arith, within))) only))
  ]

  -- a mark behind it leaves no image but those of the former end
  sound-past : (mark : ℕ) → at ≤ mark → mark ≤ length (world.tape ++ more) → AreFlushes (take (mark - at) more) → LeavesSound world at → LeavesSound (grown world more) mark
  sound-past mark low high only sound =
      let added = take (mark - at) more in
      let rest = drop (mark - at) more in
      let count : length added ≡ mark - at = length-take-le (mark - at) more (omega (arith, high, longer, low)) in
      let whole : length (world.tape ++ added) ≡ mark = (let sum = length-append world.tape added in omega (arith, sum, count, low)) in
      let here : LeavesSound (grown world added) mark = subst (λ (n : ℕ). LeavesSound (grown world added) n) whole (leaves-flushed world added only sound) in
      subst (λ (l : List Operation). LeavesSound (record { start = world.start; tape = l; scope = world.scope; first = world.first }) mark)
      (append_assoc world.tape added rest ∙ ap (λ (l : List Operation). world.tape ++ l) (take-append-drop (mark - at) more))
      (leaves-later (grown world added) rest mark (omega (arith, whole)) here)

  -- the epoch stays sound up to the longer tape's end
  pub sound-longer : StaysSound world at entries → StaysSound (grown world more) (length (world.tape ++ more)) entries
  sound-longer sound opens mark low high only =
      let before = fit-before world more begun opens in
      elim (cases_lt at mark) [
        | inl past ↦ sound-past mark (omega (arith, past)) high (flushes-back (drop (last_end world entries) world.tape) (take (mark - at) more) (subst AreFlushes (range-past mark (omega (arith, past))) only))
            (sound before at begun (omega arith) (subst AreFlushes (sym range-whole) (flushes-front (drop (last_end world entries) world.tape) (take (mark - at) more) (subst AreFlushes (range-past mark (omega (arith, past))) only))))
        | inr within ↦ leaves-later world more mark (omega (arith, within)) (sound before mark low (omega (arith, within)) (subst AreFlushes (range-same mark (omega (arith, within))) only))
      ]
