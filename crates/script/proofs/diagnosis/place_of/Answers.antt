use Rattle.std.proofs.Common.{◌≡◌, arith}
use Rattle.script.proofs.PlaceLaws.{further-tail, further-words, stands}
use Rattle.script.proofs.diagnosis.place_of.Goals as goal

pub loop-more-preserved : goal.loop-more-preserved
loop-more-preserved c =
    let h = c.loop-more.invariant in
    let behind = c.behind_word-line.ensures in
    record {
      tail = further-tail c.args.text.now c.loop-more.line.now c.behind_word-line.result.now c.loop-more.more c.args.wrong.left h.tail h.within h.words h.few c.loop-more-test.true behind.words behind.tail behind.within;
      within = omega (arith, h.within, behind.within);
      words = further-words c.args.text.now c.loop-more.line.now c.behind_word-line.result.now c.loop-more.more c.args.wrong.left h.tail h.within h.words h.few c.loop-more-test.true behind.words behind.tail behind.within;
      kept = omega (arith, h.kept, h.few, c.loop-more-test.true);
      few = omega (arith, h.few);
    }

pub returns-clause-place : goal.returns-clause-place
returns-clause-place c =
    let h = c.loop-more.invariant in
    let found = c.behind_spaces-found.ensures in
    stands c.args.text.now c.loop-more.line.now c.behind_spaces-found.result.now c.loop-more.more c.args.wrong.left c.args.wrong.skip c.first_len-width.result c.min-skip.result
    h.tail h.within h.words h.kept c.loop-more-test.false found.found found.tail found.within c.first_len-width.ensures.value c.first_len-width.ensures.within c.min-skip.ensures
