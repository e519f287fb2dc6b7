use Rattle.std.proofs.Common.{ℕ, ◌-◌, ◌∙◌, sym, ap, List, Option, length, slice_index, take}
use Rattle.std.specs.Option.{option_or}
use Rattle.sb_specs.specs.sb_codec_the_Sb.{Sb}
use Rattle.sb_specs.specs.Reading.{uuid_of_first}
use Rattle.sb_specs.specs.Election.{uuid_for}
use Rattle.sb_election.proofs.Elected.{others-none, verdict-none, answer-seen}
use Rattle.sb_election.proofs.elect_seen.Goals as goal

pub elect_own-requires-clause-rest : goal.elect_own-requires-clause-rest
elect_own-requires-clause-rest c =
    others-none c.in-Some.uuid (length c.args.lengths.now) (32 - length c.args.lengths.now) c.args.seen c.keep_array.new.found c.keep_array.ensures c.requires.rest

pub returns-in-None : goal.returns-in-None
returns-in-None c =
    let n : ℕ = length c.args.lengths.now in
    let same = ap (λ (seen : List (Option Sb)). option_or c.args.uuid (uuid_of_first (take n seen))) c.as_slice.ensures.all in
    verdict-none (slice_index c.args.lengths.now) (uuid_for c.args.uuid (take n c.args.seen)) c.args.uuid (take n c.args.seen)
    (sym same ∙ sym c.chosen_uuid.ensures ∙ c.in-None.is)

pub returns-in-Some : goal.returns-in-Some
returns-in-Some c =
    let n : ℕ = length c.args.lengths.now in
    let same = ap (λ (seen : List (Option Sb)). option_or c.args.uuid (uuid_of_first (take n seen))) c.as_slice.ensures.all in
    answer-seen (slice_index c.args.lengths.now) n c.args.lost c.args.uuid c.in-Some.uuid c.args.seen c.keep_array.new.found
    c.elect_own.result (sym c.in-Some.is ∙ c.chosen_uuid.ensures ∙ same) c.keep_array.ensures c.elect_own.ensures
