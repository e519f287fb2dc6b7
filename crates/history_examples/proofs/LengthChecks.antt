-- A change of length that no stored bytes show isn't legal, with a step before it or without.
use Rattle.std.proofs.Common.{◌≡◌, ℕ, inl, inr, [], ◌∷◌, length, refl, true, false, arith}
use Rattle.history.specs.raid_types_Search.{tabulate, all_below}
use Rattle.history.specs.sb_specs_Reading.{reading}
use Rattle.history.specs.declared.events.Event.TheVariants.{Resized, Step}
use Rattle.history.specs.declared.events.StepKind.TheVariants.{Begun, Finished}
use Rattle.history.specs.declared.events.Entry.{Entry}
use Rattle.history.specs.World.{opening_list, reading_at}
use Rattle.history.specs.Stands.{stands}
use Rattle.history.specs.Losses.{is_gone_after}
use Rattle.history.specs.Legal.{IsLegal, is_all_gone}
use Rattle.history_examples.proofs.ReadingChecks.{whole, scope}
use Rattle.history_examples.proofs.EpochChecks.{world}

abbrev shortened : ℕ → Entry
shortened number = record { caller = 0; number = number; end = 0; event = Resized 40 }

-- by itself
not-alone : IsLegal world (shortened 0 ∷ []) → ⊥
not-alone is_legal = is_legal.0.event

-- behind a begin of which the superblocks know nothing
abbrev begun : Entry
begun = record { caller = 0; number = 0; end = 0; event = Step Begun 5 }

length-is : length (stands scope whole) ≡ 80
unfolding tabulate stands reading
length-is = refl

not-gone : is_all_gone world 0 (begun ∷ shortened 0 ∷ []) ≡ false
unfolding tabulate all_below reading reading_at is_gone_after
not-gone = refl

still-there : is_all_gone world 0 (begun ∷ shortened 0 ∷ []) ≡ true → ⊥
still-there all = absurd (cc (all, not-gone))

not-begun : IsLegal world (begun ∷ shortened 0 ∷ []) → ⊥
not-begun is_legal = elim is_legal.1.0.event.1.kept [
  | inl same ↦ absurd (omega (arith, same, length-is))
  | inr gone ↦ still-there gone.0
]

-- a finish can't shorten the list
abbrev finished : Entry
finished = record { caller = 0; number = 0; end = 0; event = Step Finished 0 }

length-before : length (opening_list world) ≡ 80
unfolding tabulate opening_list stands reading
length-before = refl

not-finished : IsLegal world (finished ∷ shortened 0 ∷ []) → ⊥
not-finished is_legal = absurd (omega (arith, is_legal.1.0.event.1.changes, length-before))

-- nor can a step of another call change it
not-of-another-call : IsLegal world (begun ∷ shortened 1 ∷ []) → ⊥
not-of-another-call is_legal = other is_legal.1.0.event.0
  where
    other : false ≡ true → ⊥
    other same = absurd (cc)
