-- A write that is answered and flushed while a lost member still counts as whole is found out: its older sector is read.
use Rattle.std.proofs.Common.{◌≡◌, ℕ, ◌<◌, ◌≤◌, inl, inr, List, [], ◌∷◌, length, get_or, take, replicate, refl, subst, None, lit≤, arith}
use Rattle.history.specs.raid_types_Sectors.{Sector}
use Rattle.history.specs.raid_types_Search.{tabulate, least_below, count_below, any_below}
use Rattle.history.specs.bank_the_Operation.{Operation}
use Rattle.history.specs.bank_the_Operation_TheVariants.{Write, Flush}
use Rattle.history.specs.bank_Tape.{Contents, IsIn, IsImage, value_after}
use Rattle.history.specs.sb_specs_Reading.{reading}
use Rattle.history.specs.declared.events.Event.TheVariants.{Wrote, Flushed, Lost}
use Rattle.history.specs.declared.events.LostCause.TheVariants.{Fault}
use Rattle.history.specs.declared.events.Entry.{Entry}
use Rattle.history.specs.World.{World, opening_list}
use Rattle.history.specs.Stands.{stands, verdict}
use Rattle.history.specs.Flat.{values_of, IsAllowed}
use Rattle.history.specs.CrashSafe.{IsSafeAt}
use Rattle.history_examples.proofs.ReadingChecks.{superblock, ones, whole, scope}
use Rattle.history_examples.proofs.Refuted.{present-image, not-judged}

abbrev dirty : ℕ → Sector
dirty dev = superblock 5 dev 2 (replicate 8 0)

abbrev clean : ℕ → Sector
clean dev = superblock 5 dev 3 ones

-- The members say dirty; the second one fails; the parity of a write to it is written and flushed; and the other two say clean,
-- without naming it.
abbrev tape : List Operation
tape = Write 0 8 (dirty 0) ∷ Flush 0 ∷ Write 1 8 (dirty 1) ∷ Flush 1 ∷ Write 2 8 (dirty 2) ∷ Flush 2 ∷ Write 2 16 (9 ∷ []) ∷ Flush 0 ∷ Flush 2
    ∷ Write 0 8 (clean 0) ∷ Flush 0 ∷ Write 2 8 (clean 2) ∷ Flush 2 ∷ []

abbrev world : World
world = record { start = whole; tape = tape; scope = scope; first = 0 }

abbrev entries : List Entry
entries = record { caller = 0; number = 0; end = 7; event = Lost 1 Fault }
    ∷ record { caller = 0; number = 0; end = 7; event = Wrote 8 ((9 ∷ []) ∷ []) }
    ∷ record { caller = 0; number = 1; end = 13; event = Flushed } ∷ []

abbrev flushed : Contents
flushed s k = value_after s k (whole s k) tape

flushed-image : IsImage world.start world.tape 13 flushed
flushed-image = present-image whole tape

assembles : verdict world.scope flushed ≡ None
unfolding tabulate least_below count_below any_below reading verdict
assembles = refl

has_it : 8 < length (stands world.scope flushed)
unfolding tabulate stands reading
has_it = lit≤ tt

older : get_or (stands world.scope flushed) 8 [] ≡ 1 ∷ 0 ∷ []
unfolding tabulate stands reading
older = refl

written : values_of (opening_list world) entries 8 ≡ (9 ∷ []) ∷ []
unfolding tabulate opening_list stands reading values_of
written = refl

only-nine : (values : List Sector) → values ≡ (9 ∷ []) ∷ [] → IsIn values (1 ∷ 0 ∷ []) → ⊥
only-nine values is held = alone (subst (λ l. IsIn l (1 ∷ 0 ∷ [])) is held)
  where
    alone : IsIn ((9 ∷ []) ∷ []) (1 ∷ 0 ∷ []) → ⊥
    alone (inl same) = absurd (cc)
    alone (inr none) = none

not-allowed : (j : ℕ) → 3 ≤ j → j ≤ 3 → IsAllowed (opening_list world) (take j entries) 8 (1 ∷ 0 ∷ []) → ⊥
not-allowed j least most allowed =
    let three : j ≡ 3 = omega (arith, least, most) in
    only-nine (values_of (opening_list world) entries 8) written (subst (λ n. IsAllowed (opening_list world) (take n entries) 8 (1 ∷ 0 ∷ [])) three allowed)

not-safe : IsSafeAt world entries 13 → ⊥
not-safe safe = not-judged world entries 13 8 flushed (1 ∷ 0 ∷ []) assembles refl has_it older not-allowed (safe flushed flushed-image)
