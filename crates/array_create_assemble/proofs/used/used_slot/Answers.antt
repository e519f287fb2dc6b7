use Rattle.std.proofs.Common.{◌≡◌, ◌≤◌, ◌<◌, ℕ, Bool, true, false, nat_le, Option, None, sym, ap, ◌∙◌, arith, inl, inr}
use Rattle.std.specs.Prelude.{◌&&◌, is_some, slice_index_or}
use Rattle.std.proofs.lemmas.Bool.{cases_lt}
use Rattle.std.proofs.lemmas.Bool.Decides.{nat_tests}
use Rattle.bank.proofs.raid_types_Least.{least_below-none}
use Rattle.array_found_laws.specs.sb_codec_the_Sb.{Sb}
use Rattle.array_found_laws.specs.sb_specs_Reading.{of_array}
use Rattle.array_create_assemble.proofs.CreateLaws.{least_below-reached}
use Rattle.array_create_assemble.proofs.used.used_slot.Goals as goal

is_from : (a b : ℕ) (c : Bool) → a ≤ b → c ≡ true → (nat_le a b && c) ≡ true
is_from a b c h e = grind (arith, nat_tests, h, e)

isn't_before : (a b : ℕ) (c : Bool) → b < a → (nat_le a b && c) ≡ false
isn't_before a b c h = grind (arith, nat_tests, h)

isn't_there : (a b : ℕ) (c : Bool) → c ≡ false → (nat_le a b && c) ≡ false
isn't_there a b c e = grind (arith, nat_tests, e)

fails : (first : ℕ) (test : ℕ → Bool) (s n : ℕ) → s < n → ((s : ℕ) → first ≤ s → s < n → test s ≡ false) → (nat_le first s && test s) ≡ false
fails first test s n lt none = elim (cases_lt s first) [
  | inl before ↦ isn't_before first s (test s) before
  | inr from ↦ isn't_there first s (test s) (none s from lt)
]

pub returns-then-is_of_array : goal.returns-then-is_of_array
returns-then-is_of_array c =
    let test : ℕ → Bool = λ s. is_some (of_array c.args.uuid.now (slice_index_or c.args.seen.now s None)) in
    sym (least_below-reached c.args.slots (λ s. nat_le c.args.first s && test s) c.loop-slot.slot c.loop-slot-test.true
    (λ s lt. fails c.args.first test s c.loop-slot.slot lt c.loop-slot.invariant)
    (is_from c.args.first c.loop-slot.slot (test c.loop-slot.slot) (omega arith)
    (sym (c.is_of_array.ensures ∙ ap (λ (o : Option Sb). is_some (of_array c.args.uuid.now o)) c.get.ensures.own) ∙ c.if-is_of_array.true)))

pub returns : goal.returns
returns c =
    let test : ℕ → Bool = λ s. is_some (of_array c.args.uuid.now (slice_index_or c.args.seen.now s None)) in
    sym (least_below-none c.args.slots (λ s. nat_le c.args.first s && test s)
    (λ s lt. fails c.args.first test s c.loop-slot.slot (omega (arith, lt, c.loop-slot-test.false)) c.loop-slot.invariant))
