-- At the opening of the created array the facts hold from which its images are right.
use Rattle.std.proofs.Common.{◌≡◌, ℕ, ◌<◌, inl, inr, [], ◌∷◌, refl, sym, ap, ◌∙◌, subst, length, get_or, Option, Some, None, lit≤}
use Rattle.history.specs.raid_types_Sectors.{Sector}
use Rattle.history.proofs.raid_types_Tabulated.{length-tabulate, get_or-tabulate}
use Rattle.history.specs.bank_Tape.{IsIn}
use Rattle.history.specs.sb_specs_Reading.{Reading, reading, list_length}
use Rattle.history.specs.Stands.{stands, standing_sector, placed_sector, shape_for}
use Rattle.history.specs.World.{opening_list}
use Rattle.history.specs.Flat.{IsAllowed}
use Rattle.history.specs.CrashSafe.{IsSafeAt}
use Rattle.history.specs.Settled.{IsSettled, HasSources, IsSourced, deciding}
use Rattle.history.proofs.SettledLaws.{safe-of-sources}
use Rattle.history.proofs.SameLaws.{stands-is}
use Rattle.history_examples.proofs.ReadingChecks.{whole}
use Rattle.history_examples.proofs.EpochChecks.{world, only-start, start-allowed, assembles, same-list}

-- each sector has one value
one : {a v : Sector} → IsIn (v ∷ []) a → a ≡ v
one (inl same) = same
one (inr none) = absurd none

settled : IsSettled world 7 0
settled = record {
  unsettled = None;
  ninth = λ slot member known a b held_a held_b. one held_a ∙ sym (one held_b);
  others = λ slot live apart a b ninth held_a held_b held_ninth. inl (one held_a ∙ sym (one held_b));
  at_most_two = λ slot given member. (whole slot (deciding world slot), whole slot (deciding world slot), λ a ninth held held_ninth. inl (inl (one held)));
}

-- sector x of the list stands at its place, as there is no backup
at-place : (r : Reading) (x : ℕ) → reading world.scope whole ≡ Some r → x < list_length r.newest
    → get_or (stands world.scope whole) x [] ≡ placed_sector whole r (shape_for r.newest x) x
at-place r x here within =
    ap (λ l. get_or l x []) (stands-is world.scope whole r here) ∙ get_or-tabulate (list_length r.newest) (standing_sector world.scope whole r) x [] within

sourced : IsSourced world [] whole
sourced = record {
  assembles = assembles;
  sized = ap length same-list;
  sections = λ r backup span x here is given has next low high. none-given backup is;
  sources = λ r x here within free.
      let long : length (stands world.scope whole) ≡ list_length r.newest =
      ap length (stands-is world.scope whole r here) ∙ length-tabulate (list_length r.newest) (standing_sector world.scope whole r) in
      let inside : x < length (opening_list world) = subst (λ n. x < n) (sym long ∙ ap length same-list) within in
      subst (λ v. IsAllowed (opening_list world) [] x v)
      (ap (λ l. get_or l x []) (sym same-list) ∙ at-place r x here within) (start-allowed x inside);
}
  where
    none-given : {X : Type 0} (backup : ℕ) → ◌≡◌ {A = Option ℕ} None (Some backup) → X
    none-given backup is = absurd (cc)

sources : HasSources world [] 0
sources c image = (0, lit≤ tt, lit≤ tt, inl ([], inl refl, subst (λ c. IsSourced world [] c) (sym (only-start world.start world.tape c image)) sourced))

-- so its mark is safe, by the law
safe : IsSafeAt world [] 0
safe = safe-of-sources world [] 0 sources
