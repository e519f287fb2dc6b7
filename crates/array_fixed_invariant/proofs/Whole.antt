-- Where no entry takes a role's holder, no role is missing.
use Rattle.std.proofs.Common.{◌≡◌, ℕ, Bool, true, false, List, [], ◌++◌, refl, sym, ◌∙◌, ap, subst, append_assoc}
use Rattle.std.specs.List.{list_any}
use Rattle.array_reshaping_invariant.specs.raid_types_the_Who.{Who}
use Rattle.array_reshaping_invariant.specs.sb_specs_the_Members.{Members}
use Rattle.array_reshaping_invariant.specs.stripe_row_Rows.{reading_of, is_missing}
use Rattle.array_reshaping_invariant.specs.history_the_Entry.{Entry}
use Rattle.array_reshaping_invariant.specs.history_the_Event.{Event}
use Rattle.array_reshaping_invariant.specs.history_Losses.{is_gone_after, loses}
use Rattle.array_reshaping_invariant.specs.history_Plain.{entries_of}
use Rattle.array_reshaping_invariant.specs.history_World.{World}
use Rattle.array_reshaping_invariant.specs.array_members_Placed.{AreWhole}
use Rattle.array_reshaping_invariant.proofs.history_append_LosingLaws.{entries-both}
use Rattle.array_reshaping_invariant.specs.history_invariant_Safe.{TakesNone}
use Rattle.array_reshaping_invariant.proofs.history_invariant_Ledgers.{gone-any}
use Rattle.array_reshaping_invariant.proofs.history_invariant_Tests.{none-before}
use Rattle.array_reshaping_invariant.specs.history_invariant_laws_Reliable.{AreToldGone}

-- what is gone was taken
taken-by : (world : World) (role : ℕ) (xs : List Entry) → is_gone_after world xs role ≡ true → list_any (loses world role) xs ≡ true
unfolding is_gone_after
taken-by world role xs is = gone-any world role [] xs is

pub whole-told : (world : World) (xs : List Entry) (m : Members) → TakesNone world xs → AreToldGone world xs m → AreWhole m
whole-told world xs m none gone role lt = by (is_missing (reading_of m) role) refl
  where
    by : (b : Bool) → is_missing (reading_of m) role ≡ b → b ≡ false
    by true is = absurd (let took = sym (none role) ∙ taken-by world role xs (gone role lt is) in cc)
    by false is = refl

-- so it is by the first entries of a call, where none of all takes one
pub takes-first : (world : World) (entries : List Entry) (who : Who) (end : ℕ) (early late : List Event) → TakesNone world (entries ++ entries_of who end (early ++ late)) → TakesNone world (entries ++ entries_of who end early)
takes-first world entries who end early late none role =
    none-before (loses world role) (entries ++ entries_of who end early) (entries_of who end late)
    (subst (λ (l : List Entry). list_any (loses world role) l ≡ false)
    (ap (λ (l : List Entry). entries ++ l) (entries-both who end early late) ∙ sym (append_assoc entries (entries_of who end early) (entries_of who end late))) (none role))
