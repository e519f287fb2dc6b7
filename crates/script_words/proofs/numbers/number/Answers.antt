use Rattle.std.proofs.Common.{◌≡◌, ◌+◌, ◌^◌, ◌<◌, length, take, get_or, arith, sym, true, ◌∙◌, ap₂, ◌&&◌}
use Rattle.std.specs.Char.{is_ascii_digit}
use Rattle.std.proofs.lemmas.Bool.Decides.{nat_tests}
use Rattle.std.proofs.lemmas.List.{take_all}
use Rattle.std.proofs.lemmas.List.Folds.{list_all_more}
use Rattle.script_words.proofs.Decimals.{digit_more, larger, number_is, numeral_true}
use Rattle.script_words.proofs.numbers.number.Goals as goal

pub returns-in_err-checked_mul : goal.returns-in_err-checked_mul
returns-in_err-checked_mul c =
    let digit : is_ascii_digit (get_or c.args.word.now c.loop-byte.byte-index 0) ≡ true = cc in
    let next = digit_more c.args.word.now c.loop-byte.byte-index c.loop-byte.value (omega arith) c.loop-byte.invariant.value digit in
    c.from_residual.ensures ∙ sym (larger c.args.word.now (c.loop-byte.byte-index + 1) (2 ^ 64) (omega (arith, next, c.in_err-checked_mul.ensures)))

pub returns-in_err-value : goal.returns-in_err-value
returns-in_err-value c =
    let digit : is_ascii_digit (get_or c.args.word.now c.loop-byte.byte-index 0) ≡ true = cc in
    let next = digit_more c.args.word.now c.loop-byte.byte-index c.loop-byte.value (omega arith) c.loop-byte.invariant.value digit in
    let product = c.in_ok-checked_mul.ensures in
    c.from_residual-in_err-value.ensures
    ∙ sym (larger c.args.word.now (c.loop-byte.byte-index + 1) (2 ^ 64) (omega (arith, next, product, c.from.ensures, c.in_err-value.ensures)))

pub loop-byte-preserved : goal.loop-byte-preserved
loop-byte-preserved c =
    let digit : is_ascii_digit (get_or c.args.word.now c.loop-byte.byte-index 0) ≡ true = cc in
    let next = digit_more c.args.word.now c.loop-byte.byte-index c.loop-byte.value (omega arith) c.loop-byte.invariant.value digit in
    record {
      digits =
          let within : c.loop-byte.byte-index < length c.args.word.now = omega arith in
          list_all_more is_ascii_digit c.args.word.now c.loop-byte.byte-index 0 within
          ∙ ap₂ (λ a b. a && b) c.loop-byte.invariant.digits digit;
      value = omega (arith, next, c.in_ok-checked_mul.ensures, c.in_ok-value.ensures, c.from.ensures);
      fits = omega (arith, c.in_ok-value.ensures);
    }

pub returns : goal.returns
returns c =
    let all : take c.loop-byte.byte-index c.args.word.now ≡ c.args.word.now = take_all c.loop-byte.byte-index c.args.word.now c.loop-byte-test.false in
    sym (number_is (2 ^ 64) c.args.word.now c.loop-byte.value
    (numeral_true c.args.word.now (grind (arith, nat_tests)) (λ zero. grind (arith, nat_tests)) (rw all at c.loop-byte.invariant.digits))
    (rw all at c.loop-byte.invariant.value)
    (omega arith))
