-- An array without an active reshape that is taken over from its superblocks: what it keeps from the losses on that its opening tells.
use Rattle.std.proofs.Common.{◌≡◌, inl, ℕ, ◌*◌, ◌<◌, ◌≤◌, ◌&&◌, ◌||◌, Bool, true, false, not, Option, Some, None, List, [], ◌∷◌, length, refl, sym, ◌∙◌, ap, subst, arith, append-nil}
use Rattle.std.specs.Prelude.{if◌then◌else◌, IfSome, IsSome, IsTrue, is_some, fold, ⊤}
use Rattle.std.specs.List.{list_any}
use Rattle.std.proofs.lemmas.Bool.{and_parts}
use Rattle.array_reshaping_invariant.specs.raid_types_Sectors.{Sector}
use Rattle.array_reshaping_invariant.specs.raid_types_Shapes.{tolerance, tolerance_of}
use Rattle.array_reshaping_invariant.specs.bank_the_Operation.{Operation}
use Rattle.array_reshaping_invariant.specs.bank_Given.{Given}
use Rattle.array_reshaping_invariant.specs.bank_Tape.{Contents, IsIn, disk}
use Rattle.array_reshaping_invariant.specs.bank_Whole.{HasWholeSectors}
use Rattle.array_reshaping_invariant.proofs.raid_layout_Limits.{limited}
use Rattle.array_reshaping_invariant.specs.sb_specs_the_Members.{Members}
use Rattle.array_reshaping_invariant.specs.sb_specs_Reading.{Scope, Reading, shape_of, is_clean, list_length, role_count}
use Rattle.array_reshaping_invariant.specs.stripe_row_Rows.{reading_of, present, is_missing}
use Rattle.array_reshaping_invariant.specs.history_the_Entry.{Entry}
use Rattle.array_reshaping_invariant.specs.history_the_Event.{Event}
use Rattle.array_reshaping_invariant.specs.history_the_Event_TheVariants.{Lost, Step}
use Rattle.array_reshaping_invariant.specs.history_the_StepKind_TheVariants.{TakenOver}
use Rattle.array_reshaping_invariant.specs.history_Epochs.{HasRoomForEvents}
use Rattle.array_reshaping_invariant.specs.history_Flat.{now, values_of}
use Rattle.array_reshaping_invariant.specs.history_Legal.{level_at, level_after}
use Rattle.array_reshaping_invariant.specs.history_Losses.{was_dirty, is_unsynced, takes, loses}
use Rattle.array_reshaping_invariant.specs.history_OneShape.{opening_in, is_lost, is_gone_now, is_unsettled, keeps_shape_event, KeepShape, IsOneShapeLegal}
use Rattle.array_reshaping_invariant.specs.history_Plain.{entries_of, loses_role}
use Rattle.array_reshaping_invariant.specs.history_Sound.{OpensFit}
use Rattle.array_reshaping_invariant.specs.history_World.{World, reading_at, opening_list}
use Rattle.array_reshaping_invariant.proofs.history_OneShapeGone.{after-gone}
use Rattle.array_reshaping_invariant.proofs.history_OneShapeLegal.{found-in, one_shape-legal}
use Rattle.array_reshaping_invariant.specs.crash_views_Regions.{ArePlaced, DoWithout}
use Rattle.array_reshaping_invariant.specs.crash_views_Views.{Ledger, IsViewRight}
use Rattle.array_reshaping_invariant.proofs.crash_views_Stands.{flushed-right, still-stands}
use Rattle.array_reshaping_invariant.specs.crash_safety_laws_Safety.{HasLiveSlot}
use Rattle.array_reshaping_invariant.specs.crash_safety_laws_Steady.{IsSafeOver}
use Rattle.array_call_laws.proofs.crash_safety_laws_Since.{since-none}
use Rattle.array_reshaping_invariant.specs.array_members_the_Work.{Work}
use Rattle.array_reshaping_invariant.specs.array_members_Lacking.{RowsStand, RowsStandBelow, synced_rows}
use Rattle.array_reshaping_invariant.specs.array_members_Numbers.{bears}
use Rattle.array_reshaping_invariant.specs.array_members_Placed.{places_of}
use Rattle.array_reshaping_invariant.specs.array_members_Status.{stripes_of, left_of}
use Rattle.array_reshaping_invariant.specs.array_members_Whole.{list_size}
use Rattle.array_reshaping_invariant.proofs.array_members_Fit.{valid}
use Rattle.array_reshaping_invariant.proofs.array_members_SoundViews.{leaves-now}
use Rattle.array_reshaping_invariant.proofs.array_members_Still.{count-still, held-placed, backup-still, length-still, open-still, gone-still, tail-still, untailed}
use Rattle.array_reshaping_invariant.specs.array_call_specs_Adopting.{opener, found_losses, found_work, IsAdoptable}
use Rattle.array_reshaping_invariant.proofs.array_call_specs_LedgerLaws.{newest-allowed}
use Rattle.array_reshaping_invariant.proofs.array_call_specs_NowLaws.{values-more}
use Rattle.array_reshaping_invariant.proofs.array_call_specs_RecordLaws.{ends-at}
use Rattle.array_call_laws.proofs.AbsentLaws.{AreAbsent, absents-legal, absents-are, absents-length, absents-left, absents-values, absents-now, absents-end, absents-keep, absents-ended, absents-told}
use Rattle.array_call_laws.proofs.AdoptingLaws.{found-carried, found-rebuilt}
use Rattle.array_call_laws.proofs.RebuildEnded.{role-lost}
use Rattle.array_reshaping_invariant.specs.history_invariant_Recorded.{IsHistoryKept}
use Rattle.array_reshaping_invariant.specs.history_invariant_Safe.{world_in, TakesNone, KeepsLevel, IsFilledRight, IsCounted, IsSafeHistory}
use Rattle.array_reshaping_invariant.specs.history_invariant_Told.{told_now}
use Rattle.array_reshaping_invariant.proofs.history_invariant_Lists.{past-none}
use Rattle.array_reshaping_invariant.proofs.history_invariant_Opened.{opened-safe}
use Rattle.array_reshaping_invariant.proofs.history_invariant_Tests.{neither}
use Rattle.array_reshaping_invariant.specs.history_invariant_laws_Reliable.{IsReliable, AreToldGone, IsNonePast}
use Rattle.array_fixed_invariant.specs.Still.{AreNoneMissing, HasListStood, IsStill}

-- ---- the resync of an array that opened dirty

-- it has mended no stripe yet
abbrev resync_of : Bool → Option ℕ
resync_of clean = if clean then None else Some 0

pending-at : (clean : Bool) → is_some (resync_of clean) ≡ not clean
pending-at true = refl
pending-at false = refl

progress-at : (clean : Bool) (stripes : ℕ) → IfSome (resync_of clean) (λ mended. mended ≤ stripes)
progress-at true stripes = tt
progress-at false stripes = omega arith

dirty-at : (clean : Bool) → IsSome (resync_of clean) → clean ≡ false
dirty-at true is = absurd (cc)
dirty-at false is = refl

-- the mended rows stand, if those of a clean array do
good-at : (clean : Bool) (m : Members) (c : Contents) (list : ℕ → Sector) → (clean ≡ true → RowsStand m c list) → RowsStandBelow (synced_rows (resync_of clean) m) m c list
good-at true m c list stands row mended below = stands refl row below
good-at false m c list stands row mended below = absurd (none (shape_of m.newest).chunk row mended)
  where
    none : (chunk row : ℕ) → row < 0 * chunk → ⊥
    none chunk row lt = omega (arith, lt)

-- ---- entries

-- what an entry tells lost, it takes
one-lost : (found : Option Reading) (role : ℕ) (event : Event) → takes found role event ≡ false → loses_role role event ≡ false
one-lost found role (Lost lost cause) none = none
one-lost found role event none = refl

none-lost : (world : World) (role : ℕ) (xs : List Entry) → list_any (loses world role) xs ≡ false → is_lost xs role ≡ false
none-lost world role [] none = refl
none-lost world role (x ∷ xs) none =
    let parts = neither (loses world role x) (list_any (loses world role) xs) none in
    ap (λ (b : Bool). b || is_lost xs role) (one-lost (reading_at world x.end) role x.event parts.0) ∙ none-lost world role xs parts.1

-- an event that keeps the shape keeps the level
one-level : (event : Event) (n : ℕ) → keeps_shape_event event ≡ true → level_after n event ≡ n
one-level (Step TakenOver left) n keeps = absurd (cc)
one-level event n keeps = refl

same-level : (n : ℕ) (xs : List Entry) → KeepShape xs → fold (λ level e. level_after level e.event) n xs ≡ n
same-level n [] keep = refl
same-level n (x ∷ xs) keep =
    let parts = and_parts (keeps_shape_event x.event) _ keep in
    ap (λ (m : ℕ). fold (λ level e. level_after level e.event) m xs) (one-level x.event n parts.0) ∙ same-level n xs parts.1

-- ---- the opening

module _ {tells : Type 0} {given : Given} {tape : List Operation} {scope : Scope} {members : Members} (is : IsAdoptable tells given tape scope members) (has : tells → HasWholeSectors given tape)
    (long : length members.own ≡ 32) (t : tells) where
  abbrev world : World
  world = world_in given tape scope (length tape)

  abbrev list : List Sector
  list = opening_list (world_in given tape scope (length tape))

  abbrev work : Work
  work = found_work members

  abbrev size : ℕ
  size = list_size (places_of members)

  abbrev losses : List Event
  losses = found_losses (reading_of members)

  abbrev entries : List Entry
  entries = entries_of opener (length tape) (found_losses (reading_of members))

  abbrev told : Ledger
  told = told_now world (bears work) false entries

  are : AreAbsent losses
  are = absents-are (reading_of members) (shape_of members.newest).disks

  keep : KeepShape entries
  keep = absents-keep opener (length tape) losses are

  list-now : now list entries ≡ now list []
  list-now = absents-now list opener (length tape) losses are

  -- ---- what its losses tell

  legal : IsOneShapeLegal (opening_in world) (length tape) entries
  legal = absents-legal (opening_in world) (reading_of members) (shape_of members.newest).disks (length tape) (omega arith) (is.absent t)

  -- each role that isn't whole is told gone
  missing-gone : (role : ℕ) → role < role_count members.newest → is_missing (reading_of members) role ≡ true → IsTrue (is_gone_now entries role)
  missing-gone role lt missing =
      absents-told (reading_of members) opener (length tape) (shape_of members.newest).disks role (let same = count-still members.newest is.still in omega (arith, lt, same)) missing

  gone : AreToldGone world entries members
  gone role lt missing = after-gone world role entries keep ∙ missing-gone role lt missing

  -- where none is told lost, none is missing
  full : TakesNone world entries → AreNoneMissing members
  full none role lt = by (is_missing (reading_of members) role) refl
    where
      by : (b : Bool) → is_missing (reading_of members) role ≡ b → is_missing (reading_of members) role ≡ false
      by false is = is
      by true is = role-lost role entries [] (missing-gone role lt is) (λ r. subst (λ (l : List Entry). is_lost l r ≡ false) (sym (append-nil entries)) (none-lost world r entries (none r)))

  level : tolerance_of (level_at world entries) ≡ tolerance (shape_of members.newest)
  level = ap tolerance_of (same-level (level_at world []) entries keep) ∙ is.tolerated t

  -- it is unsynced where it is dirty
  unsynced : is_unsynced world entries ≡ not (is_clean members.newest)
  unsynced = ap (λ (b : Bool). was_dirty world && not b) (absents-ended opener (length tape) losses are) ∙ and_true (was_dirty world) ∙ is.dirty t
    where
      and_true : (b : Bool) → (b && true) ≡ b
      and_true true = refl
      and_true false = refl

  pending : is_unsynced world entries ≡ is_some work.resync
  pending = unsynced ∙ sym (pending-at (is_clean members.newest))

  unclean : is_clean members.newest ≡ false → (is_unsynced world entries || is_unsettled entries) ≡ true
  unclean dirty = ap (λ (b : Bool). b || is_unsettled entries) (unsynced ∙ ap not dirty)

  recorded : IsHistoryKept (IsReliable world entries) world (list_length members.newest) entries
  recorded =
      let history = one_shape-legal world (opening_in world) entries (found-in world) legal in
      record {
        begun = omega arith;
        sized = absents-length opener (length tape) (length list) losses are ∙ is.opened t ∙ sym (length-still members is.still);
        legal = λ right. history.0;
        reshaped = λ right fit. history.1;
        ends = ends-at opener (length tape) losses;
        ended = absents-end (length tape) opener (length tape) losses refl;
      }

  -- past the list's end it tells nothing
  past : IsNonePast world entries (list_length members.newest)
  past right x le = past-none world entries (one_shape-legal world (opening_in world) entries (found-in world) legal).0 x (let n = recorded.sized in omega (arith, le, n))

  -- ---- the list

  rows : is_clean members.newest ≡ true → OpensFit world → RowsStand members (present given tape) (now list [])
  rows clean fit = is.good t (has t) (record { clean = is.dirty t ∙ ap not clean; sound = fit })

  listed : HasListStood (OpensFit world) work members (present given tape) (now list entries)
  listed = subst (λ (l : ℕ → Sector). HasListStood (OpensFit world) work members (present given tape) l) (sym list-now) (record {
    stands = is.holds t;
    whole = λ fit x lt. is.whole t (has t) x (subst (λ (n : ℕ). x < n) (length-still members is.still) lt);
    rows = λ fit. good-at (is_clean members.newest) members (present given tape) (now list []) (λ clean. rows clean fit);
    rebuilt = λ fit. found-rebuilt members (present given tape) (now list []) (limited (shape_of members.newest) (valid given members is.placed)).most;
  })

  -- ---- what a crash may leave

  -- each sector may have what the opening found there
  allowed : (x : ℕ) → x < size → IsIn (values_of list entries x) (now list [] x)
  allowed x lt =
      subst (λ (l : List Sector). IsIn l (now list [] x))
      (sym (values-more list [] entries x ∙ absents-values opener (length tape) x (values_of list [] x) losses are))
      (newest-allowed (opening_in world) (length tape) list [] tt x (subst (λ (n : ℕ). x < n) (sym (is.opened t)) lt))

  -- what is flushed of the members, on which the list stands, is a right view
  seen-right : IsViewRight (OpensFit world) scope given told members (disk given.start tape)
  seen-right =
      flushed-right (OpensFit world) scope given told members (present given tape) (now list []) (disk given.start tape) (record {
        placed = two;
        sized = length-still members is.still ∙ sym (absents-length opener (length tape) (length list) losses are ∙ is.opened t);
        flushed = is.flushed t;
        allowed = λ x lt. allowed x (subst (λ (n : ℕ). x < n) (length-still members is.still) lt);
        stands = (still-stands scope given members (present given tape) (now list []) two is.still).0.1 (is.holds t);
        rows = λ clean does fit. (still-stands scope given members (present given tape) (now list []) two is.still).1.1 (rows clean fit);
        plain = λ header may. open-still members.newest is.still scope header;
        missing = gone-still told members is.still (λ role lt missing. gone role (let same = count-still members.newest is.still in omega (arith, lt, same)) missing);
        unclean = unclean;
        reshaping = λ active. absurd (let none : true ≡ false = sym active ∙ is.still in cc);
        headers = λ active fit. absurd (let none : true ≡ false = sym active ∙ is.still in cc);
        zeros = λ fit. tail-still members.newest is.still (now list []);
        tails = λ fit x slot tail. absurd (untailed members.newest is.still x tail);
      })
    where
      two : ArePlaced scope given members
      two = held-placed scope given members (disk given.start tape) is.placed (backup-still scope members.newest is.still) (is.next t)

  safe-now : IsSafeOver world given told members tape
  safe-now = inl (record { former = members; since = since-none scope members (disk given.start tape) (is.next t); right = seen-right; numbers = found-carried members long (is.numbers t) })

  counted : HasLiveSlot members → IsCounted world members
  unfolding reading_at
  counted live = let newest = is.newest t in record { found = newest.0; is = newest.1; events = let few = newest.2 in omega (arith, few) }

  safe : IsFilledRight world entries → IsSafeHistory ⊤ world given members (bears work) false entries
  safe right = opened-safe ⊤ given tape scope members (bears work) false opener losses is.sizes_are right safe-now (λ claimed fit. leaves-now world given told members refl safe-now fit) counted

-- ---- what is kept

pub stands-adopted : {tells : Type 0} {given : Given} {tape : List Operation} {scope : Scope} {members : Members} (first : ℕ) → IsAdoptable tells given tape scope members → (tells → HasWholeSectors given tape) → length members.own ≡ 32 → (tells → first ≡ length tape)
    → IsStill tells given tape scope first (entries_of opener first (found_losses (reading_of members))) members (found_work members) (left_of (found_work members) members)
stands-adopted {tells = tells} {given = given} {tape = tape} {scope = scope} {members = members} first is has long first_is = record {
  slots = is.slots;
  members_are = record { placed = is.placed; still = is.still; unlost = is.unlost; free = is.free; spares = is.spares };
  sizes_are = is.sizes_are;
  left_told = subst (λ (o : Option ℕ). IfSome o (λ n. n ≡ left_of (found_work members) members))
      (sym (absents-left opener first (found_losses (reading_of members)) (absents-are (reading_of members) (shape_of members.newest).disks))) tt;
  reshaping = false;
  over = λ live. refl;
  progress = progress-at (is_clean members.newest) (stripes_of members);
  pending = λ t. at t (λ (k : ℕ). is_unsynced (world_in given tape scope k) (entries_of opener k (found_losses (reading_of members))) ≡ is_some (found_work members).resync) (pending is has long t);
  dirty = λ does some. dirty-at (is_clean members.newest) some;
  levelled = λ t. at t (λ (k : ℕ). IsReliable (world_in given tape scope k) (entries_of opener k (found_losses (reading_of members)))
      → tolerance_of (level_at (world_in given tape scope k) (entries_of opener k (found_losses (reading_of members)))) ≡ tolerance (shape_of members.newest)) (λ right. level is has long t);
  gone = λ t. at t (λ (k : ℕ). IsReliable (world_in given tape scope k) (entries_of opener k (found_losses (reading_of members)))
      → AreToldGone (world_in given tape scope k) (entries_of opener k (found_losses (reading_of members))) members) (λ right. gone is has long t);
  full = λ t. at t (λ (k : ℕ). TakesNone (world_in given tape scope k) (entries_of opener k (found_losses (reading_of members)))
      → KeepsLevel (entries_of opener k (found_losses (reading_of members))) → AreNoneMissing members) (λ none level. full is has long t none);
  unclean = λ t. at t (λ (k : ℕ). is_clean members.newest ≡ false
      → (is_unsynced (world_in given tape scope k) (entries_of opener k (found_losses (reading_of members))) || is_unsettled (entries_of opener k (found_losses (reading_of members)))) ≡ true)
      (unclean is has long t);
  recorded = λ t. at t (λ (k : ℕ). IsHistoryKept (IsReliable (world_in given tape scope k) (entries_of opener k (found_losses (reading_of members)))) (world_in given tape scope k) (list_length members.newest)
      (entries_of opener k (found_losses (reading_of members)))) (recorded is has long t);
  past = λ t. at t (λ (k : ℕ). IsNonePast (world_in given tape scope k) (entries_of opener k (found_losses (reading_of members))) (list_length members.newest)) (past is has long t);
  listed = λ t. at t (λ (k : ℕ). DoWithout members → IsFilledRight (world_in given tape scope k) (entries_of opener k (found_losses (reading_of members)))
      → HasListStood (OpensFit (world_in given tape scope k)) (found_work members) members (present given tape) (now (opening_list (world_in given tape scope k)) (entries_of opener k (found_losses (reading_of members)))))
      (λ does right. listed is has long t);
  safe = λ t. at t (λ (k : ℕ). IsFilledRight (world_in given tape scope k) (entries_of opener k (found_losses (reading_of members))) → HasRoomForEvents (world_in given tape scope k)
      → IsSafeHistory ⊤ (world_in given tape scope k) given members (bears (found_work members)) false (entries_of opener k (found_losses (reading_of members)))) (λ right room. safe is has long t right);
}
  where
    at : tells → (P : ℕ → Type 0) → P (length tape) → P first
    at t P holds = subst P (sym (first_is t)) holds
