-- A write into an entered critical window that goes to the old place is found out: after a flush the section of the backup
-- still gives the older value.
use Rattle.std.proofs.Common.{◌≡◌, ℕ, ◌<◌, ◌≤◌, inl, inr, List, [], ◌∷◌, ◌++◌, length, get_or, take, replicate, refl, subst, Some, None, lit≤, arith, option_and_then}
use Rattle.history.specs.raid_types_the_Span.{Span}
use Rattle.history.specs.raid_types_Sectors.{Sector}
use Rattle.history.specs.raid_types_Search.{tabulate, least_below, count_below, any_below}
use Rattle.history.specs.bank_the_Operation.{Operation}
use Rattle.history.specs.bank_the_Operation_TheVariants.{Write, Flush}
use Rattle.history.specs.bank_Tape.{Contents, IsIn, IsImage, value_after}
use Rattle.history.proofs.bank_Listed.{Slot, listed}
use Rattle.history.specs.sb_specs_Reading.{reading}
use Rattle.history.specs.bank_backup_Written.{header_of}
use Rattle.history.specs.declared.events.Event.TheVariants.{Wrote, Flushed}
use Rattle.history.specs.declared.events.Entry.{Entry}
use Rattle.history.specs.World.{World, opening_list}
use Rattle.history.specs.ActiveSection.{active_section}
use Rattle.history.specs.Stands.{stands, verdict}
use Rattle.history.specs.Flat.{values_of, IsAllowed}
use Rattle.history.specs.CrashSafe.{IsSafeAt}
use Rattle.history_examples.proofs.SmallReshape.{uuid, reshaping, superblock, member, scope}
use Rattle.history_examples.proofs.Refuted.{present-image, not-judged}

-- At position 0, dirty, and the window of the first 16 sectors is held by the backup: its sector 0 is the seven.
abbrev span : Span
span = record { lo = 0; hi = 16 }

abbrev slots : List Slot
slots = member (superblock (reshaping 0 0) 0 5) ((7 ∷ []) ∷ replicate 31 []) ∷ member (superblock (reshaping 0 0) 1 5) ((7 ∷ []) ∷ replicate 31 [])
    ∷ member (superblock (reshaping 0 0) 2 5) (replicate 32 []) ∷ (header_of uuid span ∷ replicate 7 [] ++ (7 ∷ []) ∷ replicate 15 []) ∷ []

held : option_and_then (λ r. active_section (scope slots) (listed slots) r) (reading (scope slots) (listed slots)) ≡ Some span
unfolding tabulate least_below reading
held = refl

-- sector 0 and its parity are written in their old places, and all members are flushed
abbrev tape : List Operation
tape = Write 0 16 (9 ∷ []) ∷ Write 1 16 (9 ∷ []) ∷ Flush 0 ∷ Flush 1 ∷ Flush 2 ∷ []

abbrev world : World
world = record { start = listed slots; tape = tape; scope = scope slots; first = 0 }

abbrev entries : List Entry
entries = record { caller = 0; number = 0; end = 2; event = Wrote 0 ((9 ∷ []) ∷ []) }
    ∷ record { caller = 0; number = 1; end = 5; event = Flushed } ∷ []

-- what the slots hold then
abbrev flushed : Contents
flushed s k = value_after s k (listed slots s k) tape

flushed-image : IsImage world.start world.tape 5 flushed
flushed-image = present-image (listed slots) tape

assembles : verdict world.scope flushed ≡ None
unfolding tabulate least_below count_below any_below reading verdict
assembles = refl

has_it : 0 < length (stands world.scope flushed)
unfolding tabulate least_below stands reading
has_it = lit≤ tt

older : get_or (stands world.scope flushed) 0 [] ≡ 7 ∷ []
unfolding tabulate least_below stands reading
older = refl

written : values_of (opening_list world) entries 0 ≡ (9 ∷ []) ∷ []
unfolding tabulate least_below opening_list stands reading values_of
written = refl

only-nine : (values : List Sector) → values ≡ (9 ∷ []) ∷ [] → IsIn values (7 ∷ []) → ⊥
only-nine values is held = alone (subst (λ l. IsIn l (7 ∷ [])) is held)
  where
    alone : IsIn ((9 ∷ []) ∷ []) (7 ∷ []) → ⊥
    alone (inl same) = absurd (cc)
    alone (inr none) = none

not-allowed : (j : ℕ) → 2 ≤ j → j ≤ 2 → IsAllowed (opening_list world) (take j entries) 0 (7 ∷ []) → ⊥
not-allowed j least most allowed =
    let two : j ≡ 2 = omega (arith, least, most) in
    only-nine (values_of (opening_list world) entries 0) written (subst (λ n. IsAllowed (opening_list world) (take n entries) 0 (7 ∷ [])) two allowed)

not-safe : IsSafeAt world entries 5 → ⊥
not-safe safe = not-judged world entries 5 0 flushed (7 ∷ []) assembles refl has_it older not-allowed (safe flushed flushed-image)
