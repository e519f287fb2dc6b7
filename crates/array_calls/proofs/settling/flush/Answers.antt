use Rattle.array_type.specs.sb_specs_Reading.{list_length}
use Rattle.array_type.proofs.array_call_specs_ReplyLaws.{flush_answer}
use Rattle.array_calls.proofs.settling.flush.Goals as goal

pub returns-clause-answered : goal.returns-clause-answered
returns-clause-answered g c =
    let size = list_length c.args.array.now.parts.members.newest in
    flush_answer size size c.args.who c.args.array.now.parts.entries c.settle_entering.new.array.parts.entries c.args.array.now.parts.members c.settle_entering.new.array.parts.members c.settle_entering.result c.requires.next
    c.settle_entering.ensures.answered c.settle_entering.ensures.caused
