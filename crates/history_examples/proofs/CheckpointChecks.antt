-- A checkpoint that records the position before the copied rows are flushed is found out: where a stop leaves the first new
-- superblock and not the copy, the new region is read where nothing was written. With the flush that mark is safe.
use Rattle.std.proofs.Common.{◌≡◌, ℕ, zero, suc, ◌+◌, ◌-◌, ◌<◌, ◌≤◌, inl, inr, List, [], ◌∷◌, ◌++◌, length, get_or, take, drop, replicate, refl, sym, ap, ◌∙◌, subst, Bool, true, false, ◌&&◌, ◌==◌, cond, None, lit≤, arith}
use Rattle.history.specs.raid_types_Sectors.{Sector}
use Rattle.history.specs.raid_types_Search.{tabulate, least_below, count_below, any_below}
use Rattle.history.specs.bank_the_Operation_TheVariants.{Write, Flush}
use Rattle.history.specs.bank_Tape.{Contents, IsIn, IsImage, IsDrawn, with_one, run}
use Rattle.history.proofs.bank_Listed.{Slot, listed}
use Rattle.history.specs.bank_the_Operation.{Operation}
use Rattle.history.proofs.bank_Images.{drawn-image, image-drawn, drawn-written}
use Rattle.history.specs.sb_specs_Reading.{reading}
use Rattle.history.specs.declared.events.Event.TheVariants.{Step}
use Rattle.history.specs.declared.events.StepKind.TheVariants.{Entered, Copied, Checkpointed}
use Rattle.history.specs.declared.events.Entry.{Entry}
use Rattle.history.specs.World.{World, opening_list}
use Rattle.history.specs.Stands.{stands, verdict}
use Rattle.history.specs.Flat.{values_of, IsAllowed}
use Rattle.history.specs.CrashSafe.{IsSafeAt, IsJudged}
use Rattle.history_examples.proofs.EpochChecks.{first-allowed}
use Rattle.history_examples.proofs.SmallReshape.{reshaping, superblock, member, scope}
use Rattle.history_examples.proofs.Refuted.{drawn-start, drawn-without, drawn-with, not-judged}

-- At position 16. Sector 16 of the list is in the old region, on role 0 in row 16; its new place is role 2, row 8.
abbrev slots : List Slot
slots = member (superblock (reshaping 16 255) 0 5) (replicate 16 [] ++ (7 ∷ []) ∷ replicate 15 [])
    ∷ member (superblock (reshaping 16 255) 1 5) (replicate 32 []) ∷ member (superblock (reshaping 16 255) 2 5) (replicate 32 [])
    ∷ replicate 24 [] ∷ []

abbrev next : ℕ → Sector
next dev = superblock (reshaping 32 255) dev 6

-- the copy, and then at once the update
abbrev world : World
world = record {
  start = listed slots;
  tape = Write 2 24 (7 ∷ []) ∷ Write 0 8 (next 0) ∷ Flush 0 ∷ Write 1 8 (next 1) ∷ Flush 1 ∷ Write 2 8 (next 2) ∷ Flush 2 ∷ [];
  scope = scope slots;
  first = 0;
}

abbrev entries : List Entry
entries = record { caller = 0; number = 0; end = 0; event = Step Entered 5 }
    ∷ record { caller = 0; number = 1; end = 1; event = Step Copied 4 }
    ∷ record { caller = 0; number = 2; end = 7; event = Step Checkpointed 3 } ∷ []

-- the first superblock, without the copy
abbrev ahead : Contents
ahead = with_one (Write 0 8 (next 0)) (listed slots)

ahead-image : IsImage world.start world.tape 2 ahead
ahead-image = drawn-image world.start world.tape 2 ahead (lit≤ tt)
    (drawn-with (run (λ s k. listed slots s k ∷ []) (Write 2 24 (7 ∷ []) ∷ [])) 0 8 (next 0) (listed slots)
    (drawn-without (λ s k. listed slots s k ∷ []) 2 24 (7 ∷ []) (listed slots) (drawn-start (listed slots))))

assembles : verdict world.scope ahead ≡ None
unfolding tabulate least_below count_below any_below reading verdict
assembles = refl

has_it : 16 < length (stands world.scope ahead)
unfolding tabulate least_below stands reading
has_it = lit≤ tt

unwritten : get_or (stands world.scope ahead) 16 [] ≡ []
unfolding tabulate least_below stands reading
unwritten = refl

kept : (n : ℕ) → n ≤ 1 → values_of (opening_list world) (take (2 + n) entries) 16 ≡ (7 ∷ []) ∷ []
unfolding tabulate least_below opening_list stands reading values_of
kept zero h = refl
kept (suc zero) h = refl
kept (suc (suc n)) h = absurd (omega (arith, h))

only-seven : (values : List Sector) → values ≡ (7 ∷ []) ∷ [] → IsIn values [] → ⊥
only-seven values is held = alone (subst (λ l. IsIn l []) is held)
  where
    alone : IsIn ((7 ∷ []) ∷ []) [] → ⊥
    alone (inl same) = absurd (cc)
    alone (inr none) = none

not-allowed : (j : ℕ) → 2 ≤ j → j ≤ 3 → IsAllowed (opening_list world) (take j entries) 16 [] → ⊥
not-allowed j least most allowed =
    let at_least : j ≡ 2 + (j - 2) = omega (arith, least) in
    only-seven (values_of (opening_list world) (take (2 + (j - 2)) entries) 16) (kept (j - 2) (omega (arith, most)))
    (subst (λ n. IsAllowed (opening_list world) (take n entries) 16 []) at_least allowed)

not-safe : IsSafeAt world entries 2 → ⊥
not-safe safe = not-judged world entries 2 16 ahead [] assembles refl has_it unwritten not-allowed (safe ahead ahead-image)

-- ---- with the flush

-- the same with the copy flushed before the update
abbrev tape : List Operation
tape = Write 2 24 (7 ∷ []) ∷ Flush 2 ∷ Write 0 8 (next 0) ∷ Flush 0 ∷ Write 1 8 (next 1) ∷ Flush 1 ∷ Write 2 8 (next 2) ∷ Flush 2 ∷ []

abbrev flushed : World
flushed = record { start = listed slots; tape = tape; scope = scope slots; first = 0 }

abbrev done : List Entry
done = record { caller = 0; number = 0; end = 0; event = Step Entered 5 }
    ∷ record { caller = 0; number = 1; end = 1; event = Step Copied 4 }
    ∷ record { caller = 0; number = 2; end = 8; event = Step Checkpointed 3 } ∷ []

-- the copy is there in every image, and the first superblock in some
abbrev copied : Contents
copied = with_one (Write 2 24 (7 ∷ [])) (listed slots)

abbrev both : Contents
both = with_one (Write 0 8 (next 0)) copied

abbrev after_flush : ℕ → ℕ → List Sector
after_flush = run (λ s k. listed slots s k ∷ []) (Write 2 24 (7 ∷ []) ∷ Flush 2 ∷ [])

one-value : (s k : ℕ) → after_flush s k ≡ copied s k ∷ []
one-value s k = by_tests (2 == s) (24 == k)
  where
    by_tests : (a b : Bool)
        → cond a (take 1 (cond (a && b) ((7 ∷ []) ∷ listed slots s k ∷ []) (listed slots s k ∷ []))) (cond (a && b) ((7 ∷ []) ∷ listed slots s k ∷ []) (listed slots s k ∷ []))
        ≡ cond (a && b) (7 ∷ []) (listed slots s k) ∷ []
    by_tests true true = refl
    by_tests true false = refl
    by_tests false b = refl

only-copied : (c : Contents) → IsDrawn after_flush c → c ≡ copied
only-copied c drawn = λ i s k. only (subst (λ l. IsIn l (c s k)) (one-value s k) (drawn s k)) i
  where
    only : {x y : Sector} → IsIn (y ∷ []) x → x ≡ y
    only (inl same) = same
    only (inr none) = absurd none

copied-assembles : verdict flushed.scope copied ≡ None
unfolding tabulate least_below count_below any_below reading verdict
copied-assembles = refl

both-assembles : verdict flushed.scope both ≡ None
unfolding tabulate least_below count_below any_below reading verdict
both-assembles = refl

copied-stands : stands flushed.scope copied ≡ opening_list flushed
unfolding tabulate least_below stands opening_list reading
copied-stands = refl

both-stands : stands flushed.scope both ≡ opening_list flushed
unfolding tabulate least_below stands opening_list reading
both-stands = refl

two-made : (x : ℕ) → values_of (opening_list flushed) (take 2 done) x ≡ take 1 (drop x (opening_list flushed))
unfolding values_of
two-made x = refl

-- what stands for the list of the opening is that of the first two entries
right : (c : Contents) → verdict flushed.scope c ≡ None → stands flushed.scope c ≡ opening_list flushed → IsJudged flushed done 3 c
right c assembles same = record {
  j = 2;
  made = lit≤ tt;
  running = lit≤ tt;
  judgement = inl (
    take 2 done,
    inl refl,
    record {
      assembles = assembles;
      sized = ap length same;
      sectors = λ x within. subst (λ l. IsIn l (get_or (stands flushed.scope c) x [])) (sym (two-made x))
          (subst (λ l. x < length l → IsIn (take 1 (drop x (opening_list flushed))) (get_or l x [])) (sym same) (first-allowed (opening_list flushed) x) within);
    },
  );
}

safe : IsSafeAt flushed done 3
safe c image = elim (drawn-written after_flush 0 8 (next 0) c (image-drawn flushed.start flushed.tape 3 c (lit≤ tt) image) (copied 0 8) (subst (λ l. IsIn l (copied 0 8)) (sym (one-value 0 8)) (inl refl))) [
  | inl before ↦ subst (λ c. IsJudged flushed done 3 c) (sym (only-copied c before)) (right copied copied-assembles copied-stands)
  | inr written ↦ subst (λ c. IsJudged flushed done 3 c)
      (ap (λ old. with_one (Write 0 8 (next 0)) old) (sym (only-copied written.0 written.1)) ∙ written.2)
      (right both both-assembles both-stands)
]
