use Rattle.std.proofs.Common.{◌≡◌, ℕ, ◌+◌, ◌*◌, Bool, Option, Some, None, refl, sym, ap, ◌∙◌, option_map}
use Rattle.std.specs.Option.{option_or}
use Rattle.std.specs.Prelude.{find}
use Rattle.sb_specs.specs.raid_types_the_Refusal.{Refusal}
use Rattle.sb_specs.specs.raid_types_the_Refusal_TheVariants.{BadField}
use Rattle.sb_specs.specs.Verdict.{judged_fields}
use Rattle.sb_election.proofs.fields.bad_field.Goals as goal

some_field : (found : Option (ℕ × Bool)) (offset : ℕ) (rest : Option Refusal) → Some offset ≡ option_map (λ f. f.0) found
    → Some (BadField offset) ≡ option_or (option_map (λ f. BadField f.0) found) rest
some_field None offset rest e = absurd (cc)
some_field (Some f) offset rest e = cc

no_field : (found : Option (ℕ × Bool)) (rest : Option Refusal) → None ≡ option_map (λ f. f.0) found
    → rest ≡ option_or (option_map (λ f. BadField f.0) found) rest
no_field None rest e = refl
no_field (Some f) rest e = absurd (cc)

pub returns-in-Some : goal.returns-in-Some
returns-in-Some c = some_field (find (λ f. f.1) (judged_fields c.args.newest.now c.args.fresh.now)) _ _ c.in-Some.ensures

pub returns-in-None : goal.returns-in-None
returns-in-None c =
    ap (option_map (λ index. BadField (256 + 2 * index))) c.in-None.ensures
    ∙ no_field (find (λ f. f.1) (judged_fields c.args.newest.now c.args.fresh.now)) _ (sym c.in_default.is ∙ c.bad_offset.ensures)

pub returns-in-Some-bad_entry : goal.returns-in-Some-bad_entry
returns-in-Some-bad_entry c =
    ap (λ index. Some (BadField (256 + 2 * index))) c.from.ensures
    ∙ ap (option_map (λ index. BadField (256 + 2 * index))) c.in-Some-bad_entry.ensures
    ∙ no_field (find (λ f. f.1) (judged_fields c.args.newest.now c.args.fresh.now)) _ (sym c.in_default.is ∙ c.bad_offset.ensures)
