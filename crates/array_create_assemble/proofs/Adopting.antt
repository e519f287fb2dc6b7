-- What was opened can be taken over as an array.
use Rattle.std.proofs.Common.{◌≡◌, ℕ, ◌<◌, ◌≤◌, Bool, true, false, not, ◌&&◌, nat_lt, List, [], length, take, Option, Some, IfSome, refl, sym, ◌∙◌, ap, subst, arith, le_refl, ◌||◌, ◌==◌, inl, inr, None}
use Rattle.std.specs.Option.{option_map_or}
use Rattle.std.proofs.lemmas.Bool.Decides.{nat_tests}
use Rattle.array_found_laws.specs.raid_types_Shapes.{has_slot, tolerance, tolerance_of}
use Rattle.bank.specs.declared.bank.Operation.{Operation}
use Rattle.bank.specs.Given.{Given, sizes}
use Rattle.bank.specs.Tape.{Contents, contents, disk}
use Rattle.bank.specs.Whole.{HasWholeSectors}
use Rattle.bank.proofs.Whole.{sectors-whole}
use Rattle.array_found_laws.specs.sb_specs_the_Members.{Members}
use Rattle.array_found_laws.specs.sb_specs_Reading.{Scope, Reading, reading, is_clean, role_count, shape_of, role_state, is_whole, holder, is_backup}
use Rattle.array_found_laws.specs.sb_specs_Election.{reading_in}
use Rattle.array_found_laws.specs.sb_specs_Found.{AreInSectors}
use Rattle.sb_add_spare.specs.stripe_row_Rows.{reading_of, is_missing}
use Rattle.sb_add_spare.specs.history_Flat.{now}
use Rattle.sb_add_spare.specs.history_World.{World, reading_at, opening_list}
use Rattle.sb_add_spare.specs.history_Losses.{was_dirty}
use Rattle.sb_add_spare.specs.history_Opened.{IsSound, OpensSound, OpensGood}
use Rattle.sb_add_spare.specs.history_OneShape.{opening_in, is_absent_at_first, is_used_in}
use Rattle.sb_add_spare.proofs.history_GivenLaws.{holder-given}
use Rattle.sb_add_spare.specs.array_members_Whole.{Places, list_size}
use Rattle.sb_add_spare.specs.array_members_Placed.{places_of, IsPlaced}
use Rattle.sb_add_spare.specs.crash_safety_laws_Steady.{AreUnlost}
use Rattle.sb_add_spare.specs.crash_safety_laws_Held.{IsHeldBy}
use Rattle.sb_add_spare.specs.array_members_Lacking.{DoesWithout, ListStands, RowsStand, AreHoldersFlushed}
use Rattle.array_found_laws.specs.array_call_specs_Kept.{world_in, AreSectorsWhole, AreUsed}
use Rattle.sb_add_spare.specs.array_members_Rebuilding.{AreSparesFree, MayHold}
use Rattle.sb_add_spare.proofs.array_members_Fit.{few as few-placed}
use Rattle.sb_add_spare.proofs.array_members_Still.{count-still}
use Rattle.array_found_laws.specs.array_call_specs_Adopting.{IsAdoptable}
use Rattle.array_create_assemble.specs.declared.opening.Opened.{Opened}
use Rattle.array_create_assemble.specs.Opening.{scope_of, IsOpened, AreFlushed}
use Rattle.array_create_assemble.proofs.FoundRows.{list-length, list-stands, list-whole, rows-stand}
use Rattle.array_found_laws.proofs.Elected.{elected-does}
use Rattle.array_found_laws.proofs.Placed.{few-spares}
use Rattle.array_create_assemble.proofs.OpenedHeld.{numbers-kept, opened-held}
use Rattle.array_found_laws.specs.sb_specs_Reads.{has_spare}
use Rattle.array_found_laws.proofs.sb_specs_Searches.{any_below-some}
use Rattle.array_found_laws.specs.raid_types_Search.{any_below}
use Rattle.array_found_laws.specs.raid_types_the_Role_TheVariants.{Missing}
use Rattle.std.proofs.lemmas.Bool.{cases_lt}
use Rattle.std.proofs.lemmas.List.{get_or_past}

module _ {tells : Type 0} (bank : Given) (tape : List Operation) (backup : Option ℕ) (asked : Option (List ℕ)) (opened : Opened) (few : bank.slots ≤ 32)
    (is : IsOpened tells bank (contents bank.start tape (length tape)) backup asked opened)
    (inside : (s : ℕ) → has_slot opened.given s ≡ true → s < bank.slots)
    (flushed : tells → AreFlushed bank.start tape opened.given)
    (stand : tells → AreInSectors (contents bank.start tape (length tape)) opened.members.own)
    (placed : IsPlaced bank opened.members) (unlost : AreUnlost opened.members) (free : AreSparesFree bank opened.members) where
  abbrev m : Members
  m = opened.members

  abbrev scope : Scope
  scope = scope_of bank backup opened.given opened.members.newest.set_uuid

  abbrev c : Contents
  c = contents bank.start tape (length tape)

  abbrev r : Reading
  r = reading_in bank.slots opened.members

  abbrev p : Places
  p = places_of opened.members

  abbrev world : World
  world = world_in bank tape (scope_of bank backup opened.given opened.members.newest.set_uuid) (length tape)

  -- ---- what the opening found

  module _ (told : tells) where
    length-is : length (opening_list world) ≡ list_size p
    unfolding opening_list
    length-is = list-length bank m placed is.still scope c (is.says told)

    tolerance-is : (opening_in world).tolerance ≡ tolerance (shape_of m.newest)
    unfolding reading_at
    tolerance-is = ap (λ (o : Option Reading). tolerance_of (option_map_or (λ q. q.newest.level) o 5)) (is.says told)

    disks-is : (opening_in world).disks ≡ (shape_of m.newest).disks
    unfolding reading_at
    disks-is = ap (λ (o : Option Reading). option_map_or (λ q. role_count q.newest) o 0) (is.says told) ∙ count-still m.newest is.still

    dirty-is : was_dirty world ≡ not (is_clean m.newest)
    unfolding reading_at
    dirty-is = ap (λ (o : Option Reading). option_map_or (λ q. not (is_clean q.newest)) o false) (is.says told)

    absent-is : (role : ℕ) → role < (shape_of m.newest).disks → is_missing (reading_of m) role ≡ true → is_absent_at_first world role ≡ true
    unfolding reading_at
    absent-is role lt gone =
        ap (λ (o : Option Reading). option_map_or (λ q. nat_lt role (role_count q.newest) && not (is_whole (role_state q role))) o false) (is.says told)
        ∙ also (nat_lt role (role_count m.newest)) (is_missing (reading_of m) role) (below role (role_count m.newest) (omega (arith, lt, count-still m.newest is.still))) gone
      where
        below : (a b : ℕ) → a < b → nat_lt a b ≡ true
        below a b lt = grind (arith, nat_tests, lt)

        also : (a b : Bool) → a ≡ true → b ≡ true → (a && b) ≡ true
        also a b met met' = grind (arith, met, met')

    used-is : AreUsed world m []
    unfolding reading_at
    used-is role slot may =
        ap (λ (o : Option Reading). option_map_or (λ q. is_used_in q slot) o false || false) (is.says told) ∙ ap (λ (b : Bool). b || false) (by may)
      where
        itself : (n : ℕ) → (n == n) ≡ true
        itself n = grind (arith, nat_tests)

        -- such a role is below the disk count
        role-below : (o : Option ℕ) → holder (role_state (reading_of m) role) ≡ o → o ≡ Some slot → role < 32
        role-below o is_at held = elim (cases_lt role (length m.roles)) [
          | inl below ↦ let most = few-placed bank m placed in omega (arith, below, most)
          | inr past ↦ absurd (let none : None ≡ Some slot = sym (ap holder (get_or_past m.roles role Missing past)) ∙ is_at ∙ held in cc)
        ]

        or-left : (a b : Bool) → a ≡ true → (a || b) ≡ true
        or-left true b is = refl
        or-left false b is = absurd (cc)

        or-right : (a b : Bool) → b ≡ true → (a || b) ≡ true
        or-right true b is = refl
        or-right false b is = is

        by : MayHold m role slot → is_used_in r slot ≡ true
        by (inl held) = or-left (any_below 32 (λ k. is_backup (holder (role_state r k)) slot)) (has_spare r.spares slot)
            (any_below-some 32 (λ k. is_backup (holder (role_state r k)) slot) role (role-below (holder (role_state (reading_of m) role)) refl held) (ap (λ (o : Option ℕ). is_backup o slot) held ∙ itself slot))
        by (inr spare) = or-right (any_below 32 (λ k. is_backup (holder (role_state r k)) slot)) (has_spare r.spares slot) spare

    clean-is : was_dirty world ≡ false → is_clean m.newest ≡ true
    clean-is not_dirty = by (is_clean m.newest) (sym dirty-is ∙ not_dirty)
      where
        by : (b : Bool) → not b ≡ false → b ≡ true
        by true e = refl
        by false e = absurd (cc)

    sound-is : OpensSound world → IsSound scope c r
    unfolding reading_at
    sound-is sound = subst (λ (o : Option Reading). IfSome o (IsSound scope c)) (is.says told) sound

    -- ---- the list

    list-is : ListStands m c (now (opening_list world) [])
    unfolding opening_list
    list-is = list-stands bank m placed is.still scope c (is.says told)

    does : DoesWithout (shape_of m.newest) m
    does = (elected-does (sizes bank).sectors (take bank.slots opened.members.own) opened.members.lost opened.members is.elected).old

    whole-list : HasWholeSectors bank tape → AreSectorsWhole (list_size p) (now (opening_list world) [])
    unfolding opening_list
    whole-list has = list-whole bank m placed is.still scope c (is.says told) refl (λ slot k within. sectors-whole bank tape (length tape) slot k has within) does

    rows-are : HasWholeSectors bank tape → OpensGood world → RowsStand m c (now (opening_list world) [])
    unfolding opening_list
    rows-are has opens = rows-stand bank m placed is.still scope c (is.says told) refl (λ slot k within. sectors-whole bank tape (length tape) slot k has within) does ((sound-is opens.sound).rows (clean-is opens.clean))

    -- ---- the superblocks

    held-next : IsHeldBy scope m (disk bank.start tape)
    held-next = opened-held bank tape backup asked opened told is inside (flushed told) few (stand told)

    newest-is : (q : Reading) × (reading scope c ≡ Some q) × (m.newest.events ≤ q.newest.events)
    newest-is = (r, is.says told, le_refl m.newest.events)

    -- a slot that holds a role is a given one
    holders-flushed : AreHoldersFlushed (reading_of m) bank tape
    holders-flushed role slot k held eighth = flushed told slot k (holder-given scope c r role slot (is.says told) held)

  pub adoptable : IsAdoptable tells bank tape (scope_of bank backup opened.given opened.members.newest.set_uuid) opened.members
  adoptable = record {
    slots = few;
    spares = few-spares bank opened.members few is.elected;
    placed = placed;
    still = is.still;
    unlost = unlost;
    free = free;
    sizes_are = refl;
    opened = length-is;
    disks = disks-is;
    tolerated = tolerance-is;
    dirty = dirty-is;
    used = used-is;
    absent = absent-is;
    holds = list-is;
    whole = whole-list;
    good = rows-are;
    flushed = holders-flushed;
    next = held-next;
    numbers = λ told. numbers-kept bank tape backup asked opened told is inside (flushed told) few (stand told);
    newest = newest-is;
  }
