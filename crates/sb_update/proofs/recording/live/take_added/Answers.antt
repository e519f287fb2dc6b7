use Rattle.std.proofs.Common.{◌≡◌, Some, slice_set, sym, ◌∙◌, ap, arith}
use Rattle.sb_specs.specs.sb_codec_the_Sb.{Sb}
use Rattle.sb_specs.specs.Outcome.{with_added}
use Rattle.sb_specs.proofs.SlotSets.{without_one}
use Rattle.sb_update.proofs.recording.live.take_added.Goals as goal

pub returns-in-Some-clause-members : goal.returns-in-Some-clause-members
returns-in-Some-clause-members c =
    let m = c.args.members.now in
    let lost = without_one m.lost c.without-members.result c.with.result c.in-Some.slot (omega arith) (omega arith) c.with.ensures c.without-members.ensures in
    let own : c.set.new.self ≡ slice_set m.own c.in-Some.slot (Some (record c.in-Some.sb { events = m.newest.events })) =
    c.set.ensures.own ∙ ap (λ (sb : Sb). slice_set m.own c.in-Some.slot (Some sb)) c.with_events-own.ensures in
    (λ j. record m { own = own j; lost = lost j }) ∙ sym (ap (with_added m) c.in-Some.is)
