-- What the entries of a call leave of the history.
use Rattle.std.proofs.Common.{◌≡◌, ℕ, ◌≤◌, ◌||◌, Bool, true, Option, None, List, [], ◌∷◌, ◌++◌, ◌∙◌, ap, arith}
use Rattle.std.proofs.lemmas.Bool.Decides.{nat_tests}
use Rattle.std.specs.Prelude.{fold, IsTrue}
use Rattle.raid_types.specs.declared.answers.Who.{Who}
use Rattle.history_append.specs.sb_specs_the_Members.{Members}
use Rattle.history_append.specs.history_the_Entry.{Entry}
use Rattle.history_append.specs.history_the_Event.{Event}
use Rattle.history_append.specs.history_Flat.{length_after, limit_after}
use Rattle.history_append.specs.history_Growing.{EndBy}
use Rattle.history_append.specs.history_Plain.{entries_of}
use Rattle.history_append.specs.history_OneShape.{is_lost, is_gone_now}
use Rattle.history_append.proofs.history_OneShapeGone.{gone-or_lost}
use Rattle.history_append.proofs.history_laws_OneShapeGrowing.{gone-more}
use Rattle.array_call_specs.specs.Kept.{AreTold}
use Rattle.history_append.proofs.CallLaws.{GivesNone}

-- these events change neither the length nor the limit, nor what the list holds
pub record AreSilent (who : Who) (end : ℕ) (events : List Event) : Type 0 where
  pub length : (n : ℕ) → fold (λ m e. length_after m e.event) n (entries_of who end events) ≡ n
  pub limit : fold (λ (limit : Option ℕ) e. limit_after limit e.event) None (entries_of who end events) ≡ None

-- ---- where the entries end

ends-more : (ops more : ℕ) (entries added : List Entry) → ops ≤ more → EndBy ops entries → EndBy more added → EndBy more (entries ++ added)
ends-more ops more [] added le ends behind = behind
ends-more ops more (e ∷ entries) added le ends behind = (let at = ends.0 in omega (arith, at, le), ends-more ops more entries added le ends.1 behind)

pub ends-at : (who : Who) (end : ℕ) (events : List Event) → EndBy end (entries_of who end events)
ends-at who end [] = tt
ends-at who end (event ∷ events) = (omega arith, ends-at who end events)

-- the entries of a call end with it
pub ends-call : (ops : ℕ) (entries : List Entry) (who : Who) (end : ℕ) (events : List Event) → ops ≤ end → EndBy ops entries → EndBy end (entries ++ entries_of who end events)
ends-call ops entries who end events le ends = ends-more ops end entries (entries_of who end events) le ends (ends-at who end events)

-- ---- losses

-- a role is gone behind entries that lose it and give none back
pub gone-lately : (role : ℕ) (entries added : List Entry) → GivesNone added → IsTrue (is_lost added role) → IsTrue (is_gone_now (entries ++ added) role)
gone-lately role entries added none lost =
    gone-or_lost entries added role (none role) ∙ ap (λ (b : Bool). is_gone_now entries role || b) lost ∙ last (is_gone_now entries role)
  where
    last : (b : Bool) → (b || true) ≡ true
    last b = grind (arith, nat_tests)

-- what was told stays so, where no role is given back
pub told-more : (members : Members) (entries added : List Entry) → GivesNone added → AreTold members entries → AreTold members (entries ++ added)
told-more members entries added none told role lt missing = gone-more role entries added (none role) (told role lt missing)
