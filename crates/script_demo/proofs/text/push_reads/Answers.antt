use Rattle.std.proofs.Common.{rules, ◌+◌, ◌-◌, ◌*◌, ◌<◌, ◌++◌, length, vec_capacity, arith}
use Rattle.script_demo.specs.Demo.{read_line, reads_from}
use Rattle.script_demo.proofs.Lines.{reads_more, reads_done, line_more, line_within, line_last}
use Rattle.script_demo.proofs.text.push_reads.Goals as goal

pub loop-j-preserved : goal.loop-j-preserved
loop-j-preserved c =
    let j = c.loop-j.j in
    let count = c.args.count in
    record {
      whole =
          line_more c.loop-j.text.items c.push_read.new.text.items (read_line (96 * c.loop-j.j)) (reads_from (j + 1) (count - (j + 1))) (reads_from j (count - j))
          (c.args.text.now.items ++ reads_from 0 count) c.in_ok-push_read.ensures.appended.whole (reads_more j count (search rules)) c.loop-j.invariant.whole;
      few = omega (arith, c.loop-j.invariant.few, c.in_ok-push_read.ensures.short.few);
      room = omega (arith, c.loop-j.invariant.room, c.in_ok-push_read.ensures.appended.room);
    }

pub returns-in_err-push_read-clause-appended : goal.returns-in_err-push_read-clause-appended
returns-in_err-push_read-clause-appended c =
    let j = c.loop-j.j in
    let count = c.args.count in
    let within =
    line_within c.loop-j.text.items (read_line (96 * c.loop-j.j)) (reads_from (j + 1) (count - (j + 1))) (reads_from j (count - j)) (c.args.text.now.items ++ reads_from 0 count)
    (reads_more j count (search rules)) c.loop-j.invariant.whole in
    let less : vec_capacity c.args.text.now < length (c.args.text.now.items ++ reads_from 0 count) =
    omega (arith, within, c.loop-j.invariant.room, c.in_err-push_read.ensures.appended.full) in
    record {
      whole = search rules;
      full = search (rules, less);
      room = omega (arith, c.loop-j.invariant.room, c.in_err-push_read.ensures.appended.room);
    }

pub returns-clause-appended : goal.returns-clause-appended
returns-clause-appended c =
    let j = c.loop-j.j in
    let count = c.args.count in
    record {
      whole =
          line_last c.loop-j.text.items (reads_from j (count - j)) (c.args.text.now.items ++ reads_from 0 count) (reads_done j count (search rules))
          c.loop-j.invariant.whole;
      full = tt;
      room = c.loop-j.invariant.room;
    }
