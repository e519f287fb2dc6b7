use Rattle.std.proofs.Common.{◌≡◌, None, sym, ap, ◌∙◌, arith, length, map}
use Rattle.std.proofs.lemmas.List.{ext_get_or, length-map, get_or-map}
use Rattle.sb_specs.specs.Reading.{of_array}
use Rattle.sb_election.proofs.found.keep_array.Goals as goal

pub returns : goal.returns
returns c =
    let long : length c.loop-slot.found ≡ length c.args.found.now =
    omega (arith, c.loop-slot.invariant.long, c.as_slice.ensures.count, ap length c.as_slice.ensures.all) in
    ext_get_or None c.loop-slot.found (map (of_array c.args.uuid.now) c.args.found.now) (long ∙ sym (length-map c.args.found.now (of_array c.args.uuid.now)))
    (λ i h. c.loop-slot.invariant.done i (omega (arith, h, c.loop-slot.invariant.long))
    ∙ sym (get_or-map (of_array c.args.uuid.now) c.args.found.now i None None (omega (arith, h, long))))
