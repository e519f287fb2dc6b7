use Rattle.std.proofs.Common.{[], ◌∷◌, refl, arith, ap, ◌∙◌}
use Rattle.array_reshaping_steps.specs.history_the_Event_TheVariants.{Refused}
use Rattle.array_reshaping_steps.specs.history_Plain.{entries_of}
use Rattle.array_reshaping_steps.specs.array_call_specs_Kept.{scope_in}
use Rattle.array_reshaping_steps.proofs.array_call_specs_ReadyLaws.{scope-same}
use Rattle.array_reshaping_steps.proofs.array_specs_Lengths.{alone-keeps}
use Rattle.array_reshaping_steps.proofs.array_fixed_laws_Kept.{ready, rows-same}
use Rattle.array_reshaping_steps.proofs.array_fixed_laws_Plain.{turned-plain, turns-first}
use Rattle.array_transition.proofs.GivenBack.{plain-stands}
use Rattle.array_reshaping_steps.specs.sb_specs_Reading.{is_reshaping}
use Rattle.array_transition.proofs.beginning.give_back.Goals as goal

pub of_fixed-requires : goal.of_fixed-requires
of_fixed-requires g c =
    let was = c.requires.ready in
    let a = c.args.pieces in
    let given = g.B.Bank.given a.bank in
    let end = c.ops-end.result in
    record {
      ready = ready {scope' = scope_in given c.append_entry.new.epoch.uuid c.append_entry.new.epoch.given a.backup} (entries_of c.args.who end (Refused c.args.refusal ∷ [])) was (rows-same a.members.newest)
          (plain-stands c.args.who end c.args.refusal was.kept c.requires.open c.requires.caller c.ops-end.ensures.count c.requires.why)
          (turned-plain (turns-first a.epoch.entries.items (entries_of c.args.who end (Refused c.args.refusal ∷ [])) c.requires.told))
          (λ slot. omega arith) (alone-keeps c.args.who end (Refused c.args.refusal) (λ n. refl) (λ limit. refl)) refl (scope-same given a.backup refl c.append_entry.ensures.uuid c.append_entry.ensures.given) c.append_entry.ensures.first refl c.append_entry.ensures.items
          (let had = was.room_left in let room = c.append_entry.ensures.room in let some = c.requires.room in omega (arith, had, room, some));
    }

pub returns-clause-still : goal.returns-clause-still
returns-clause-still g c = ap (λ s. is_reshaping s.parts.members.newest) c.of_fixed.ensures.same ∙ c.requires.ready.kept.members_are.still
