-- What an array keeps that may lack members, after a call.
use Rattle.std.proofs.Common.{◌≡◌, inl, inr, ℕ, ◌+◌, ◌-◌, ◌*◌, ◌/◌, ◌<◌, ◌≤◌, Bool, true, false, Option, Some, None, List, ◌++◌, length, refl, sym, ◌∙◌, ap, subst, arith}
use Rattle.std.proofs.lemmas.Bool.{cases_lt}
use Rattle.std.proofs.lemmas.Bool.Decides.{nat_tests}
use Rattle.std.specs.Prelude.{IsSome, is_some, nat_le}
use Rattle.raid_types.specs.Sectors.{Sector}
use Rattle.history_append.specs.stripe_list_Writing.{IsWritten, HasFull}
use Rattle.raid_types.specs.Shapes.{tolerance}
use Rattle.raid_types.specs.declared.places.Shape.{Shape}
use Rattle.raid_types.specs.declared.answers.Who.{Who}
use Rattle.raid_types.specs.declared.answers.Refusal.{Refusal}
use Rattle.raid_types.specs.declared.answers.Refusal.TheVariants.{PastEnd, TooManyMissing, NotResynced, NoSuchRole}
use Rattle.history_append.specs.bank_Given.{Given}
use Rattle.history_append.proofs.raid_layout_Places.{place-role_below, place-row_below}
use Rattle.history_append.specs.raid_parity_Rows.{IsSector, sector_of}
use Rattle.history_append.specs.sb_specs_the_Members.{Members}
use Rattle.raid_types.specs.declared.status.Role.{Role}
use Rattle.raid_types.specs.declared.status.Role.TheVariants.{Recovering}
use Rattle.history_append.specs.sb_specs_Reading.{is_reshaping, shape_of, role_count, role_state, rows_held, holder}
use Rattle.history_append.specs.stripe_row_Rows.{reading_of, is_missing}
use Rattle.history_append.specs.history_the_Entry.{Entry}
use Rattle.history_append.specs.history_the_Event.{Event}
use Rattle.history_append.specs.history_World.{World, opening_list}
use Rattle.history_append.specs.history_Flat.{behind, visible_of}
use Rattle.history_append.specs.history_Plain.{entries_of}
use Rattle.history_append.specs.history_OneShape.{opening_in, gone_count_now, IsOneShapeRefusal, IsNoRoleNow}
use Rattle.history_append.proofs.history_laws_OneShapeGrowing.{too_many_missing}
use Rattle.history_append.specs.array_members_the_Work.{Work}
use Rattle.history_append.specs.array_members_Rebuilding.{AreRebuilt}
use Rattle.history_append.specs.array_members_Whole.{list_size}
use Rattle.history_append.specs.array_members_Placed.{places_of, is_unassigned, IsPlaced}
use Rattle.history_append.proofs.array_members_HeldRows.{vacant-missing}
use Rattle.history_append.proofs.array_members_LackingLaws.{since-missing, too-many-still}
use Rattle.history_append.specs.Losing.{losses_of}
use Rattle.history_append.specs.array_members_Moving.{IsMoved}
use Rattle.history_append.specs.crash_safety_laws_Marking.{AreOthersPresent}
use Rattle.array_call_specs.specs.Kept.{AreTold, AreSectorsWhole}
use Rattle.history_append.specs.array_members_Status.{rebuilt_of}
use Rattle.history_append.specs.array_members_Lacking.{AreLostSince, AreTooMany, IsUnread, IsUnwritten, lacking, synced_rows, are_synced}
use Rattle.history_append.proofs.array_members_Fit.{valid, multiple, force-disks, count-alike}
use Rattle.history_append.proofs.array_members_Still.{count-still}
use Rattle.array_call_specs.specs.Calls.{IsRefusedHere, IsRefusedFor, HasRole}
use Rattle.history_append.proofs.array_members_LackingWrites.{recovering-before, full-later}
use Rattle.history_append.specs.history_Losses.{is_unsynced}
use Rattle.history_append.specs.bank_Tape.{Contents}
use Rattle.history_append.proofs.CallLaws.{GivesNone, gives-losses, losses-are, told-losses}
use Rattle.array_call_specs.proofs.RecordLaws.{told-more, gone-lately}

-- ---- what is told

-- as many roles are counted
pub count-moved : {given : Given} {old new : Members} → IsMoved given old new → role_count new.newest ≡ role_count old.newest
count-moved {old = old} {new = new} moved = count-alike old.newest new.newest moved.reshape moved.shape moved.size

-- behind the entries of a call's losses each missing role is told gone, where none is given back
pub told-since : (given : Given) (old new : Members) (entries : List Entry) (who : Who) (end roles spares : ℕ) (tail : List Event) (before after : ℕ → ℕ) → role_count new.newest ≤ 16
    → IsMoved given old new → AreTold old entries → AreLostSince old new roles spares before after → GivesNone (entries_of who end tail)
    → AreTold new (entries ++ entries_of who end (losses_of roles spares ++ tail))
told-since given old new entries who end roles spares tail before after few moved told since none role lt missing = elim (since-missing moved since role lt missing) [
  | inl was ↦ told-more old entries (entries_of who end (losses_of roles spares ++ tail)) (gives-losses who end (losses_of roles spares) tail (losses-are roles spares) none) told role (subst (λ (n : ℕ). role < n) (count-moved moved) lt) was
  | inr has ↦ gone-lately role entries (entries_of who end (losses_of roles spares ++ tail)) (gives-losses who end (losses_of roles spares) tail (losses-are roles spares) none) (told-losses role roles spares who end tail (omega (arith, lt, few)) has)
]

-- where no slot holds a role, there is no such role, or it is gone
no-role-right : (world : World) (m : Members) (before : List Entry) (role : ℕ) → is_reshaping m.newest ≡ false → (opening_in world).disks ≡ (shape_of m.newest).disks → AreTold m before → (HasRole m role → ⊥) → IsNoRoleNow (opening_in world) before role
no-role-right world m before role still disks told none = elim (cases_lt role (role_count m.newest)) [
  | inl below ↦ inr (told role below (vacant-missing (reading_of m) role (by (is_unassigned (reading_of m) role) refl below)))
  | inr above ↦ inl (let same = count-still m.newest still in omega (arith, disks, same, above))
]
  where
    by : (b : Bool) → is_unassigned (reading_of m) role ≡ b → role < role_count m.newest → is_unassigned (reading_of m) role ≡ true
    by true is below = is
    by false is below = absurd (none (below, is))

-- what a refusal tells to be missing, and to be tolerated
abbrev missing-told : Refusal → ℕ
missing-told (TooManyMissing count most) = count
missing-told refusal = 0

abbrev tolerated-told : Refusal → ℕ
tolerated-told (TooManyMissing count most) = most
tolerated-told refusal = 0

-- a refusal is right by the entries before it, in an array of one shape
pub refusal-right : (world : World) (size visible : ℕ) (resync : Option ℕ) (m : Members) (before : List Entry) (refusal : Refusal) → is_reshaping m.newest ≡ false → (shape_of m.newest).disks ≤ 16
    → (opening_in world).disks ≡ (shape_of m.newest).disks → (opening_in world).tolerance ≡ tolerance (shape_of m.newest) → is_unsynced world before ≡ is_some resync → visible ≡ visible_of (length (opening_list world)) before
    → AreTold m before → IsRefusedHere visible resync m refusal → IsOneShapeRefusal (opening_in world) before refusal
refusal-right world size visible resync m before (PastEnd told) still few disks tolerated dirty seen lost why = why ∙ seen
refusal-right world size visible resync m before (TooManyMissing count most) still few disks tolerated dirty seen lost why =
    let lacks = too-many-still m (TooManyMissing count most) still why in
    let is : count ≡ lacking (shape_of m.newest) m = ap missing-told lacks.told in
    let t : most ≡ tolerance (shape_of m.newest) = ap tolerated-told lacks.told in
    let many = too_many_missing (opening_in world) before (shape_of m.newest).disks (is_missing (reading_of m)) (omega (arith, few))
    (λ role lt. lost role (let same = count-still m.newest still in omega (arith, lt, same))) (let above = lacks.above in omega (arith, above, tolerated)) in
    record { above = let above = lacks.above in omega (arith, above, is, t); lost = subst (λ (n : ℕ). n ≤ gone_count_now before) (sym is) many.lost; tolerated = t ∙ sym tolerated }
refusal-right world size visible resync m before (NotResynced role) still few disks tolerated dirty seen lost why = (lost role why.1 why.2, dirty ∙ why.0)
refusal-right world size visible resync m before (NoSuchRole role) still few disks tolerated dirty seen lost why = no-role-right world m before role still disks lost why
refusal-right world size visible resync m before refusal still few disks tolerated dirty seen lost why = absurd why

-- ---- members that moved

-- a list that is written in whole sectors stays whole
pub written-whole : (at : ℕ) (from : List ℕ) (list list' : ℕ → Sector) (size : ℕ) → IsWritten list list' at from → ((i : ℕ) → i < length from / 512 → IsSector (sector_of from i))
    → AreSectorsWhole size list → AreSectorsWhole size list'
written-whole at from list list' size w body was x lt = elim (cases_lt x at) [
  | inl low ↦ subst IsSector (sym (w.other x (inl low))) (was x lt)
  | inr within ↦ elim (cases_lt x (at + length from / 512)) [
    | inl high ↦ subst IsSector (sym (w.here x within high)) (body (x - at) (omega (arith, within, high)))
    | inr high ↦ subst IsSector (sym (w.other x (inr high))) (was x lt)
  ]
]

-- ---- rows that were rebuilt

-- a slot that recovers a role holds the rows that it held
pub rows-same : {given : Given} {old new : Members} → IsMoved given old new → (role slot : ℕ) → role_state (reading_of new) role ≡ Recovering slot
    → rows_held (reading_of new) (Recovering slot) ≡ rows_held (reading_of old) (Recovering slot)
rows-same {old = old} {new = new} moved role slot is = subst (λ (s : Role). rows_held (reading_of new) s ≡ rows_held (reading_of old) s) is (moved.rows role)

-- They stay so on members that moved, where every sector but the superblocks stays.
pub rebuilt-moved : (work : Work) (given : Given) (old new : Members) (before after : Contents) (list : ℕ → Sector) → IsMoved given old new → IsPlaced given old → AreOthersPresent before after
    → AreRebuilt work old before list → AreRebuilt work new after list
rebuilt-moved work given old new before after list moved was others rebuilt role slot row lt is held below within =
    let former = recovering-before moved role slot is in
    full-later moved was others (shape_of new.newest) list row role slot (ap holder is)
    (subst (λ (s : Shape). HasFull (reading_of old) before s list row role slot) (sym moved.shape)
    (rebuilt role slot row (subst (λ (s : Shape). role < s.disks) moved.shape lt) former
    (subst (λ (n : ℕ). n ≤ row) (rows-same moved role slot is) held)
    (subst (λ (s : Shape). row < rebuilt_of work role * s.chunk) moved.shape below) (subst (λ (n : ℕ). row < n) moved.size within)))

-- ---- why calls are refused

pub too-many-here : (visible : ℕ) (resync : Option ℕ) (m : Members) (refusal : Refusal) → AreTooMany m refusal → IsRefusedHere visible resync m refusal
too-many-here visible resync m refusal (inl many) = subst (IsRefusedHere visible resync m) (sym many.told) (inl (record { above = many.above; told = refl }))
too-many-here visible resync m refusal (inr many) = subst (IsRefusedHere visible resync m) (sym many.1.told) (inr (many.0, record { above = many.1.above; told = refl }))

-- a role of the shape is one of the array's
pub within-count : (given : Given) (m : Members) → IsPlaced given m → (role : ℕ) → role < (shape_of m.newest).disks → role < role_count m.newest
within-count given m placed role below = let within = force-disks m.newest placed.fit (shape_of m.newest) (inl refl) in omega (arith, below, within)

-- a sector that lies behind the mended rows
pub unread-here : (given : Given) (visible at count mended : ℕ) (resync : Option ℕ) (m : Members) (refusal : Refusal) → IsPlaced given m → at + count ≤ list_size (places_of m) → (resync ≡ None → mended ≡ m.newest.size)
    → IsUnread (shape_of m.newest) mended at count m refusal → IsRefusedHere visible resync m refusal
unread-here given visible at count mended resync m refusal placed within all (inl many) = too-many-here visible resync m refusal (inl many)
unread-here given visible at count mended resync m refusal placed within all (inr found) = subst (IsRefusedHere visible resync m) (sym found.1)
    (by resync all, within-count given m placed found.0 (subst (λ (r : ℕ). r < (shape_of m.newest).disks) found.3.3 (place-role_below (shape_of m.newest) (valid given m placed) found.3.0)), found.2)
  where
    by : (o : Option ℕ) → (o ≡ None → mended ≡ m.newest.size) → IsSome o
    by (Some n) all = refl
    by None all = absurd (
        let below = place-row_below (shape_of m.newest) (valid given m placed) found.3.0 m.newest.size (multiple given m placed) (let high = found.3.2 in omega (arith, within, high)) in
        let behind = found.3.4 in let same = all refl in omega (arith, below, behind, same))

-- where the sectors of a call don't all lie in mended rows, a resync is pending
pub pending-of : (m : Members) (resync : Option ℕ) (to : ℕ) → to ≤ list_size (places_of m) → are_synced (shape_of m.newest) (synced_rows resync m) to ≡ false → IsSome resync
pending-of m (Some n) to within none = refl
pending-of m None to within none = absurd (above to (list_size (places_of m)) within none)
  where
    above : (a b : ℕ) → a ≤ b → nat_le a b ≡ false → ⊥
    above a b le e = grind (arith, nat_tests, le, e)

pub unwritten-here : (given : Given) (visible : ℕ) (resync : Option ℕ) (synced : Bool) (m : Members) (refusal : Refusal) → IsPlaced given m → (synced ≡ false → IsSome resync) → IsUnwritten (shape_of m.newest) synced m refusal → IsRefusedHere visible resync m refusal
unwritten-here given visible resync synced m refusal placed pending (inl many) = too-many-here visible resync m refusal (inl many)
unwritten-here given visible resync synced m refusal placed pending (inr found) = subst (IsRefusedHere visible resync m) (sym found.1) (pending found.2, within-count given m placed found.0 found.4.0, found.3)

-- a call that is refused before anything is done
pub refused-here : (visible to : ℕ) (resync : Option ℕ) (why : Members → Refusal → Type 0) (m : Members) (refusal : Refusal) → (to ≤ visible → why m refusal → IsRefusedHere visible resync m refusal)
    → IsRefusedFor visible to why m m refusal → IsRefusedHere visible resync m refusal
refused-here visible to resync why m (PastEnd told) here w = w.0
refused-here visible to resync why m refusal here w = here w.0 w.1
