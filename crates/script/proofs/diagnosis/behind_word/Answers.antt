use Rattle.std.proofs.Common.{◌≡◌, drop, ap, ap₂, ◌∙◌}
use Rattle.script_words.specs.Numbers.{words_of}
use Rattle.script.proofs.PlaceLaws.{found_in, word_len, behind-words}
use Rattle.script.proofs.diagnosis.behind_word.Goals as goal

pub returns-clause-words : goal.returns-clause-words
returns-clause-words c =
    let found = c.behind_spaces-found.ensures.found in
    ap words_of c.split_at.ensures.back ∙ ap₂ (λ n l. words_of (drop n l)) (c.first_len.ensures.value ∙ ap word_len found) found
    ∙ behind-words c.args.line.now
