use Rattle.std.proofs.Common.{◌≡◌, ◌<◌, arith, sym, ◌∙◌, ◌∷◌, length}
use Rattle.std.proofs.lemmas.Grind.{common_steps}
use Rattle.script_words.proofs.WordsLaws.{words_of-spaces, words_of-next}
use Rattle.script_words.specs.Numbers.{words_of}
use Rattle.script_words.proofs.numbers.WordsIterator.next.Goals as goal

pub returns-in_err-start-clause-steps : goal.returns-in_err-start-clause-steps
returns-in_err-start-clause-steps c =
    let none = words_of-spaces c.args.self.now.line.now (sym c.first_other.ensures ∙ c.in_err-start.was) in
    rw c.from_residual.ensures (none, none)

pub returns-clause-steps : goal.returns-clause-steps
returns-clause-steps c =
    let at = sym c.first_other.ensures ∙ c.in_ok-start.was in
    let word = words_of-next c.args.self.now.line.now c.in_ok-start.start c.unwrap_or-end.result at (cc) in
    cc

pub returns-clause-goes : goal.returns-clause-goes
returns-clause-goes c =
    let at = sym c.first_other.ensures ∙ c.in_ok-start.was in
    let word = words_of-next c.args.self.now.line.now c.in_ok-start.start c.unwrap_or-end.result at (cc) in
    let left : words_of c.args.self.now.line.now ≡ c.split_at-2.result.0.now ∷ words_of c.split_at-2.result.1.now = cc in
    let fewer : length (words_of c.split_at-2.result.1.now) < length (words_of c.args.self.now.line.now) = rw left (omega arith) in
    grind (arith, common_steps)
