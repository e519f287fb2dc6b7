use Rattle.std.proofs.Common.{◌∙◌, [], ap, sym, get_or, if◌then◌else◌}
use Rattle.std.specs.Prelude.{slice_index}
use Rattle.raid_types.specs.Sectors.{Sector}
use Rattle.bank.specs.declared.bank.Operation.{Operation}
use Rattle.bank.specs.declared.bank.Operation.TheVariants.{Write}
use Rattle.bank.specs.Memory.{sector_of}
use Rattle.bank.specs.Tape.{after_one}
use Rattle.bank.specs.Picks.{is_taken}
use Rattle.bank.proofs.Kept.{kept_step}
use Rattle.bank.proofs.replay.replay.Goals as goal

pub loop-place-preserved : goal.loop-place-preserved
loop-place-preserved c =
    let inv = c.loop-place.invariant in
    let one = c.take_one.ensures in
    let d : Operation = Write 0 0 [] in
    record {
      count = one.count ∙ inv.count;
      sectors = λ s. one.sectors s ∙ inv.sectors s;
      each = λ s k. one.each s k
          ∙ ap (λ (x : Sector). if is_taken c.args.pick (slice_index c.args.marks.now.items s) c.loop-place.place then after_one s k (get_or c.args.tape.now c.loop-place.place d) x else x) (inv.each s k)
          ∙ sym (kept_step s k (sector_of c.args.slots.now.items s k) (is_taken c.args.pick (slice_index c.args.marks.now.items s)) c.args.tape.now c.loop-place.place d c.loop-place-test.true);
    }
