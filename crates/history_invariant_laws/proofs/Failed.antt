-- A role that is failed by command: what its call enters before the event, and that its entries are legal.
use Rattle.std.proofs.Common.{◌≡◌, ◌⊎◌, inl, inr, ℕ, ◌==◌, ◌||◌, Bool, true, false, Option, List, [], ◌∷◌, ◌++◌, refl, sym, ◌∙◌, ap, subst, arith, append_assoc}
use Rattle.std.specs.Prelude.{MatchOption}
use Rattle.std.specs.List.{list_any}
use Rattle.std.proofs.lemmas.Bool.Decides.{nat_tests}
use Rattle.history_invariant.specs.raid_types_the_Who.{Who}
use Rattle.history_invariant.specs.history_the_Entry.{Entry}
use Rattle.history_invariant.specs.history_the_Event_TheVariants.{Lost, Failed}
use Rattle.history_invariant.specs.history_the_LostCause_TheVariants.{Command}
use Rattle.history_invariant.specs.history_Flat.{last_of}
use Rattle.history_invariant.specs.history_Legal.{is_lost_by_command, IsFailed, IsFailedByCall}
use Rattle.history_invariant.specs.history_OneShape.{is_lost}
use Rattle.history_invariant.specs.history_Plain.{entries_of}
use Rattle.history_invariant.specs.history_World.{World}
use Rattle.history_invariant.proofs.history_laws_OneShapeGrowing.{found-before}
use Rattle.history_invariant.specs.history_append_Losing.{losses_of}
use Rattle.history_invariant.proofs.history_append_CallLaws.{losses-are}
use Rattle.history_invariant.proofs.history_append_LosingLaws.{entries-both}
use Rattle.history_invariant.proofs.history_append_PlainLaws.{last-snoc}
use Rattle.history_invariant.specs.Recorded.{IsLegalCall, entry_of}
use Rattle.history_invariant_laws.proofs.Behind.{AreEarly, IsAmong, early-losses, inner-of, legal-losses}

-- the role that was failed, or one of those that were lost besides
abbrev pub IsFailedOrAmong : ℕ → ℕ → ℕ → Type 0
IsFailedOrAmong failed roles role = (role ≡ failed) ⊎ IsAmong roles role

itself : (role other : ℕ) (more : Bool) → role ≡ other → ((other == role) || more) ≡ true
itself role other more is = grind (arith, nat_tests, is)

behind-it : (a b : Bool) → b ≡ true → (a || b) ≡ true
behind-it true b is = refl
behind-it false b is = is

-- the loss by command stands before the others
pub early-failed : (role roles spares : ℕ) → AreEarly (Lost role Command ∷ losses_of roles spares) (IsFailedOrAmong role roles)
early-failed role roles spares = record {
  adds = λ who end tail adds. (early-losses roles spares).adds who end tail adds;
  gives = λ who end tail none. (early-losses roles spares).gives who end tail none;
  lost = λ who end tail other lt which. elim which [
    | inl is ↦ itself other role (is_lost (entries_of who end (losses_of roles spares ++ tail)) other) is
    | inr has ↦ behind-it (role == other) (is_lost (entries_of who end (losses_of roles spares ++ tail)) other) ((early-losses roles spares).lost who end tail other lt has)
  ];
  ends = λ tail none. (early-losses roles spares).ends tail none;
  level = λ who end tail n. (early-losses roles spares).level who end tail n;
  values = λ who end tail x values. (early-losses roles spares).values who end tail x values;
}

-- Its entries are legal: the loss stands in a call that ends with the failed role, and that role was lost in its call.
pub legal-failed : (world : World) (before : List Entry) (who : Who) (end role roles spares : ℕ) → IsLegalCall world before who end ((Lost role Command ∷ losses_of roles spares) ++ Failed role ∷ [])
legal-failed world before who end role roles spares = (
  last,
  inner-of who end (Lost role Command) tt (losses_of roles spares ++ Failed role ∷ []),
  legal-losses world (before ++ entry_of who end (Lost role Command) ∷ []) who end (losses_of roles spares) (Failed role ∷ []) (losses-are roles spares) (failed, tt, tt),
)
  where
    last : MatchOption (last_of (entries_of who end (losses_of roles spares ++ Failed role ∷ []))) ⊥ (λ last. IsFailed role last.event)
    last = subst (λ (o : Option Entry). MatchOption o ⊥ (λ last. IsFailed role last.event))
        (sym (ap (λ (l : List Entry). last_of l) (entries-both who end (losses_of roles spares) (Failed role ∷ [])) ∙ last-snoc (entries_of who end (losses_of roles spares)) (entry_of who end (Failed role)))) refl

    failed : IsFailedByCall ((before ++ entry_of who end (Lost role Command) ∷ []) ++ entries_of who end (losses_of roles spares)) (entry_of who end (Failed role)) role
    failed = subst (λ (l : List Entry). IsFailedByCall l (entry_of who end (Failed role)) role) (sym (append_assoc before (entry_of who end (Lost role Command) ∷ []) (entries_of who end (losses_of roles spares))))
        (found-before (λ e. is_lost_by_command role e.event) before who end (Failed role) (Lost role Command ∷ losses_of roles spares)
        (itself role role (list_any (λ e. is_lost_by_command role e.event) (entries_of who end (losses_of roles spares))) refl))
