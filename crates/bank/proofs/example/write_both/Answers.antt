use Rattle.std.proofs.Common.{◌≡◌, ◌⊎◌, inl, inr, ⊎_elim, ℕ, List, [], ◌∷◌, take, subst}
use Rattle.raid_types.specs.Sectors.{Sector}
use Rattle.bank.specs.declared.bank.Operation.TheVariants.{Write, Flush}
use Rattle.bank.specs.Tape.{Contents, IsIn, choices_after}
use Rattle.bank.specs.Example.{EachIsOldOrNew}
use Rattle.bank.proofs.Laws.{choices_after-write_here}
use Rattle.bank.proofs.Marks.{Along}
use Rattle.bank.proofs.Calls.{did_then, did_stop, did_marks}
use Rattle.bank.proofs.example.write_both.Goals as goal

-- after its write a sector has the new value or one from before, and after the flush the new one alone
module _ (s at : ℕ) (w v : Sector) (before : List Sector) where
  written : IsIn (choices_after s at (Write s at w) before) v → (v ≡ w) ⊎ IsIn before v
  written held = subst (λ (l : List Sector). IsIn l v) (choices_after-write_here s at w before) held

  flushed : IsIn (take 1 (choices_after s at (Write s at w) before)) v → v ≡ w
  flushed held = ⊎_elim (λ same. same) (λ none. absurd none) (subst (λ (l : List Sector). IsIn (take 1 l) v) (choices_after-write_here s at w before) held)

-- the statement before each of the four operations, and after the last
along : (at : ℕ) (w : Sector) (d : ℕ → ℕ → List Sector) → Along (EachIsOldOrNew at w d) d (Write 0 at w ∷ Flush 0 ∷ Write 1 at w ∷ Flush 1 ∷ [])
along at w d = (
  λ c drawn. record { first = inr (drawn 0 at); second = inr (drawn 1 at); one_whole = inr (drawn 1 at) },
  (
    λ c drawn. record { first = written 0 at w (c 0 at) (d 0 at) (drawn 0 at); second = inr (drawn 1 at); one_whole = inr (drawn 1 at) },
    (
      λ c drawn. record { first = inl (new c (drawn 0 at)); second = inr (drawn 1 at); one_whole = inr (drawn 1 at) },
      (
        λ c drawn. record { first = inl (new c (drawn 0 at)); second = written 1 at w (c 1 at) (d 1 at) (drawn 1 at); one_whole = inl (new c (drawn 0 at)) },
        (λ c drawn. record { first = inl (new c (drawn 0 at)); second = inl (flushed 1 at w (c 1 at) (d 1 at) (drawn 1 at)); one_whole = inl (new c (drawn 0 at)) }),
      ),
    ),
  ),
)
  where
    new : (c : Contents) → IsIn (take 1 (choices_after 0 at (Write 0 at w) (d 0 at))) (c 0 at) → c 0 at ≡ w
    new c held = flushed 0 at w (c 0 at) (d 0 at) held

pub returns-in-Err-clause-did : goal.returns-in-Err-clause-did
returns-in-Err-clause-did g c = did_stop _ _ _ _ (Write 0 c.args.at c.args.from.now ∷ Flush 0 ∷ []) (Write 1 c.args.at c.args.from.now ∷ Flush 1 ∷ []) c.write_copy.ensures.did

pub returns-clause-did : goal.returns-clause-did
returns-clause-did g c = did_then _ _ _ _ _ (Write 0 c.args.at c.args.from.now ∷ Flush 0 ∷ []) (Write 1 c.args.at c.args.from.now ∷ Flush 1 ∷ []) c.in-Ok.ensures.did c.write_copy-2.ensures.did

pub returns-in-Err-clause-each_mark : goal.returns-in-Err-clause-each_mark
returns-in-Err-clause-each_mark g c = did_marks _ _ (along c.args.at c.args.from.now _) (returns-in-Err-clause-did g c)

pub returns-clause-each_mark : goal.returns-clause-each_mark
returns-clause-each_mark g c = did_marks _ _ (along c.args.at c.args.from.now _) (returns-clause-did g c)
