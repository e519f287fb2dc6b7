-- A write into a degraded array that is begun before the superblocks say dirty is found out: where a stop leaves its first
-- half, the absent role is filled with what never stood there. Behind the dirty mark such an image is refused, with its cause.
use Rattle.std.proofs.Common.{◌≡◌, ◌⊎◌, ℕ, ◌<◌, ◌≤◌, inl, inr, List, [], ◌∷◌, length, get_or, take, refl, sym, ap, ◌∙◌, subst, Bool, true, false, cond, ◌&&◌, ◌==◌, replicate, Some, None, lit≤, arith}
use Rattle.history.specs.raid_types_the_RowRoles.{RowRoles}
use Rattle.history.specs.raid_types_Sectors.{Sector}
use Rattle.history.specs.raid_types_Search.{tabulate, least_below, count_below, any_below}
use Rattle.history.specs.raid_parity_Parity.{Row, fill}
use Rattle.history.proofs.raid_parity_ParityChecks.{from_one, from_none}
use Rattle.history.specs.bank_the_Operation.{Operation}
use Rattle.history.specs.bank_the_Operation_TheVariants.{Write, Flush}
use Rattle.history.specs.bank_Tape.{Contents, IsIn, IsImage, with_one}
use Rattle.history.proofs.bank_Listed.{listed}
use Rattle.history.proofs.bank_Images.{drawn-image, image-drawn}
use Rattle.history.specs.sb_specs_Reading.{reading}
use Rattle.history.specs.declared.events.Event.TheVariants.{Wrote, Lost}
use Rattle.history.specs.declared.events.LostCause.TheVariants.{Absent}
use Rattle.history.specs.declared.events.Entry.{Entry}
use Rattle.history.specs.World.{World, opening_list, reading_at}
use Rattle.history.specs.Stands.{stands, verdict}
use Rattle.history.specs.Flat.{values_of, IsAllowed}
use Rattle.history.specs.CrashSafe.{IsSafeAt}
use Rattle.history.specs.Losses.{is_gone, is_unclean}
use Rattle.history.specs.raid_types_the_Refusal_TheVariants.{DirtyDegraded}
use Rattle.history.specs.sb_specs_Same.{HaveSameSuperblocks}
use Rattle.history.proofs.SameLaws.{verdict-same}
use Rattle.history_examples.proofs.ReadingChecks.{slot, superblock, ones, scope_of}
use Rattle.history_examples.proofs.Refuted.{drawn-start, drawn-with, not-judged}
use Rattle.history.proofs.bank_Listed.{Slot}

-- three members, clean; member 1 is two events behind, so its role is missing
abbrev slots : List Slot
slots = slot 0 (superblock 5 0 5 ones) ∷ slot 1 (superblock 5 1 3 ones) ∷ slot 2 (superblock 5 2 5 ones) ∷ []

-- sector 0 of the list, and the parity of its row, are written without a superblock before them
abbrev world : World
world = record { start = listed slots; tape = Write 0 16 (1 ∷ []) ∷ Write 2 16 (3 ∷ []) ∷ []; scope = scope_of 7 slots; first = 0 }

abbrev entries : List Entry
entries = record { caller = 254; number = 0; end = 0; event = Lost 1 Absent }
    ∷ record { caller = 0; number = 0; end = 2; event = Wrote 0 ((1 ∷ []) ∷ []) } ∷ []

-- after the first write
abbrev half : Contents
half = with_one (Write 0 16 (1 ∷ [])) (listed slots)

half-image : IsImage world.start world.tape 1 half
half-image = drawn-image world.start world.tape 1 half (lit≤ tt)
    (drawn-with (λ s k. listed slots s k ∷ []) 0 16 (1 ∷ []) (listed slots) (drawn-start (listed slots)))

assembles : verdict world.scope half ≡ None
unfolding tabulate least_below count_below any_below reading verdict
assembles = refl

has_eighth : 8 < length (stands world.scope half)
unfolding tabulate stands reading
has_eighth = lit≤ tt

-- sector 8 is on role 1, so it is filled from roles 0 and 2
abbrev roles : RowRoles
roles = record { disks = 3; p = 2; q = None }

abbrev row : Sector → Row
row zeroth = Some zeroth ∷ None ∷ Some (2 ∷ 0 ∷ []) ∷ []

filled_anew : get_or (stands world.scope half) 8 [] ≡ fill roles (row (1 ∷ [])) 1
unfolding tabulate stands reading
filled_anew = refl

filled_before : values_of (opening_list world) (take 1 entries) 8 ≡ fill roles (row (0 ∷ 0 ∷ [])) 1 ∷ []
unfolding tabulate opening_list stands reading values_of
filled_before = refl

unchanged : values_of (opening_list world) (take 2 entries) 8 ≡ fill roles (row (0 ∷ 0 ∷ [])) 1 ∷ []
unfolding tabulate opening_list stands reading values_of
unchanged = refl

differ : fill roles (row (1 ∷ [])) 1 ≡ fill roles (row (0 ∷ 0 ∷ [])) 1 → ⊥
differ same =
    let wrong : 3 ≡ 2 =
    sym from_one ∙ ap (λ s. get_or s 0 0) same ∙ from_none in
    absurd (omega (arith, wrong))

not-in : (values : List Sector) → values ≡ fill roles (row (0 ∷ 0 ∷ [])) 1 ∷ [] → IsIn values (fill roles (row (1 ∷ [])) 1) → ⊥
not-in values is held = alone (subst (λ l. IsIn l (fill roles (row (1 ∷ [])) 1)) is held)
  where
    alone : IsIn (fill roles (row (0 ∷ 0 ∷ [])) 1 ∷ []) (fill roles (row (1 ∷ [])) 1) → ⊥
    alone (inl same) = differ same
    alone (inr none) = none

not-allowed : (j : ℕ) → 1 ≤ j → j ≤ 2 → IsAllowed (opening_list world) (take j entries) 8 (fill roles (row (1 ∷ [])) 1) → ⊥
not-allowed j least most allowed = by_count (one_or_two j least most)
  where
    one_or_two : (j : ℕ) → 1 ≤ j → j ≤ 2 → (j ≡ 1) ⊎ (j ≡ 2)
    one_or_two j least most = grind (arith)

    by_count : (j ≡ 1) ⊎ (j ≡ 2) → ⊥
    by_count (inl one) = not-in (values_of (opening_list world) (take 1 entries) 8) filled_before
        (subst (λ n. IsAllowed (opening_list world) (take n entries) 8 (fill roles (row (1 ∷ [])) 1)) one allowed)
    by_count (inr both) = not-in (values_of (opening_list world) (take 2 entries) 8) unchanged
        (subst (λ n. IsAllowed (opening_list world) (take n entries) 8 (fill roles (row (1 ∷ [])) 1)) both allowed)

not-safe : IsSafeAt world entries 1 → ⊥
not-safe safe = not-judged world entries 1 8 half (fill roles (row (1 ∷ [])) 1) assembles refl has_eighth filled_anew not-allowed (safe half half-image)

-- ---- with the dirty mark

-- the same behind an update that says dirty on both members
abbrev mark : ℕ → Sector
mark dev = superblock 5 dev 6 (replicate 8 0)

abbrev tape : List Operation
tape = Write 0 8 (mark 0) ∷ Flush 0 ∷ Write 2 8 (mark 2) ∷ Flush 2 ∷ Write 0 16 (1 ∷ []) ∷ Write 2 16 (3 ∷ []) ∷ []

abbrev dirty : World
dirty = record { start = listed slots; tape = tape; scope = scope_of 7 slots; first = 0 }

abbrev written : List Entry
written = record { caller = 254; number = 0; end = 0; event = Lost 1 Absent }
    ∷ record { caller = 0; number = 0; end = 6; event = Wrote 0 ((1 ∷ []) ∷ []) } ∷ []

abbrev marked : Contents
marked = with_one (Write 2 8 (mark 2)) (with_one (Write 0 8 (mark 0)) (listed slots))

-- the values of a sector at mark 5, by the tests of its slot and its place
abbrev values : Bool → Bool → Bool → Bool → Sector → List Sector
values zeroth second eighth sixteenth v =
    let one = cond (zeroth && eighth) (mark 0 ∷ v ∷ []) (v ∷ []) in
    let two = cond zeroth (take 1 one) one in
    let three = cond (second && eighth) (mark 2 ∷ two) two in
    let four = cond second (take 1 three) three in
    cond (zeroth && sixteenth) ((1 ∷ []) ∷ four) four

settled : (zeroth second eighth : Bool) (v : Sector)
    → values zeroth second eighth false v ≡ cond (second && eighth) (mark 2) (cond (zeroth && eighth) (mark 0) v) ∷ []
settled true true true v = refl
settled true true false v = refl
settled true false true v = refl
settled true false false v = refl
settled false true true v = refl
settled false true false v = refl
settled false false true v = refl
settled false false false v = refl

same-marks : (c : Contents) → IsImage dirty.start dirty.tape 5 c → HaveSameSuperblocks c marked
same-marks c image = record { eighth = λ slot. only (eighth slot); ninth = λ slot. only (ninth slot) }
  where
    only : {x y : Sector} → IsIn (y ∷ []) x → x ≡ y
    only (inl same) = same
    only (inr none) = absurd none

    eighth : (slot : ℕ) → IsIn (marked slot 8 ∷ []) (c slot 8)
    eighth slot = subst (λ l. IsIn l (c slot 8)) (settled (0 == slot) (2 == slot) true (listed slots slot 8)) (image-drawn dirty.start dirty.tape 5 c (lit≤ tt) image slot 8)

    ninth : (slot : ℕ) → IsIn (marked slot 9 ∷ []) (c slot 9)
    ninth slot = subst (λ l. IsIn l (c slot 9)) (settled (0 == slot) (2 == slot) false (listed slots slot 9)) (image-drawn dirty.start dirty.tape 5 c (lit≤ tt) image slot 9)

refused : verdict dirty.scope marked ≡ Some (DirtyDegraded 1)
unfolding tabulate least_below count_below any_below reading verdict
refused = refl

gone : is_gone dirty written 1 2 1 ≡ true
unfolding is_gone
gone = refl

unclean : is_unclean dirty written 1 2 ≡ true
unfolding tabulate reading reading_at is_unclean
unclean = refl

-- each image of the mark between the two writes is refused, for a cause that the history shows
safe : IsSafeAt dirty written 5
safe c image = record {
  j = 2;
  made = lit≤ tt;
  running = lit≤ tt;
  judgement = inr (inl (record {
    role = 1;
    refused = verdict-same dirty.scope c marked (same-marks c image) ∙ refused;
    gone = gone;
    unclean = unclean;
  }));
}
