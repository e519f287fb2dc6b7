use Rattle.std.proofs.Common.{◌≡◌, sym, ap, subst, ◌∙◌, refl, true, false, true≢false, Option, Some, None, Ok, Err}
use Rattle.script_words.specs.Numbers.{words_of}
use Rattle.script.specs.Reading.{read_words}
use Rattle.script.specs.declared.mistakes.Mistake.{Mistake}
use Rattle.script.specs.Mistakes.{IsDiagnosis}
use Rattle.script.proofs.ReadingLaws.{of_result, words_are_good}
use Rattle.script.proofs.DiagnosisLaws.{all_plain, bad_byte, means_bad, means_passed, means_words, never_bad, not_passed, diagnosis}
use Rattle.script.proofs.grammar.read_line.Goals as goal

pub returns-in-Some-clause-bad : goal.returns-in-Some-clause-bad
returns-in-Some-clause-bad c = (λ e. means_bad c.args.text.now c.in-Some.column (sym c.first_bad_byte.ensures ∙ c.in-Some.is) c.args.inside, λ e. refl)

pub returns-in-Some-clause-diagnosis : goal.returns-in-Some-clause-diagnosis
returns-in-Some-clause-diagnosis c = bad_byte c.args.text.now c.in-Some.column (sym c.first_bad_byte.ensures ∙ c.in-Some.is)

pub returns-then-is_passed_over-clause-meaning : goal.returns-then-is_passed_over-clause-meaning
returns-then-is_passed_over-clause-meaning c =
    sym (means_passed c.args.inside c.args.text.now (all_plain c.args.text.now (sym c.first_bad_byte.ensures ∙ c.in_default.is)) (sym c.is_passed_over.ensures ∙ c.if-is_passed_over.true))

pub returns-then-is_passed_over-clause-bad : goal.returns-then-is_passed_over-clause-bad
returns-then-is_passed_over-clause-bad c =
    let passed = means_passed c.args.inside c.args.text.now (all_plain c.args.text.now (sym c.first_bad_byte.ensures ∙ c.in_default.is)) (sym c.is_passed_over.ensures ∙ c.if-is_passed_over.true) in
    (λ e. absurd (true≢false (sym e)), λ bad. absurd (not_passed (sym passed ∙ bad)))

pub returns-in-Ok-clause-meaning : goal.returns-in-Ok-clause-meaning
returns-in-Ok-clause-meaning c =
    let plain = all_plain c.args.text.now (sym c.first_bad_byte.ensures ∙ c.in_default.is) in
    let words = means_words c.args.inside c.args.text.now plain (sym c.is_passed_over.ensures ∙ c.if-is_passed_over.false) in
    let read = sym (c.read_words.ensures ∙ ap (λ t. read_words c.args.inside (words_of t)) c.of.ensures) ∙ c.in-Ok.is in
    sym (ap of_result read) ∙ words

pub returns-in-Ok-clause-bad : goal.returns-in-Ok-clause-bad
returns-in-Ok-clause-bad c =
    let plain = all_plain c.args.text.now (sym c.first_bad_byte.ensures ∙ c.in_default.is) in
    let words = means_words c.args.inside c.args.text.now plain (sym c.is_passed_over.ensures ∙ c.if-is_passed_over.false) in
    let read = sym (c.read_words.ensures ∙ ap (λ t. read_words c.args.inside (words_of t)) c.of.ensures) ∙ c.in-Ok.is in (
      λ e. absurd (true≢false (sym e)),
      λ bad. absurd (never_bad (read_words c.args.inside (words_of c.args.text.now)) c.in-Ok.meaning (words_are_good c.args.inside (words_of c.args.text.now)) read (sym (ap of_result read) ∙ words ∙ bad)),
    )

pub returns-in-Err-clause-bad : goal.returns-in-Err-clause-bad
returns-in-Err-clause-bad c =
    let plain = all_plain c.args.text.now (sym c.first_bad_byte.ensures ∙ c.in_default.is) in
    let words = means_words c.args.inside c.args.text.now plain (sym c.is_passed_over.ensures ∙ c.if-is_passed_over.false) in
    let read = sym (c.read_words.ensures ∙ ap (λ t. read_words c.args.inside (words_of t)) c.of.ensures) ∙ c.in-Err.is in
    (λ e. sym words ∙ ap of_result read, λ e. refl)

pub returns-in-Err-clause-diagnosis : goal.returns-in-Err-clause-diagnosis
returns-in-Err-clause-diagnosis c =
    let read = sym (c.read_words.ensures ∙ ap (λ t. read_words c.args.inside (words_of t)) c.of.ensures) ∙ c.in-Err.is in
    let told = diagnosis c.args.inside c.args.text.now c.in-Err.wrong c.place_of.result.column c.place_of.result.width read c.place_of.ensures.place in
    let P : Mistake → Type 0 = λ m. IsDiagnosis c.args.inside c.args.text.now c.place_of.result.column c.place_of.result.width m in
    subst P (sym c.place_of.ensures.mistake) told
