-- Ranges and fields of two lists of bytes that agree up to a place, or from one on.
use Rattle.std.proofs.Common.{◌≡◌, ℕ, ◌+◌, ◌-◌, ◌≤◌, List, take, drop, slice_range, sym, ap, ◌∙◌, arith}
use Rattle.std.proofs.lemmas.List.{take-take, drop-drop}
use Rattle.std.proofs.lemmas.Slice.{between_is}
use Rattle.raid_types.specs.Bytes.{little, field}
use Rattle.sb_codec.specs.Kept.{KeptBefore, KeptFrom}

pub before-less : (m k : ℕ) {a b : List ℕ} → m ≤ k → KeptBefore k a b → KeptBefore m a b
before-less m k {a} {b} within kept = record { same = sym (take-take m k a within) ∙ ap (take m) kept.same ∙ take-take m k b within }

pub from-more : (k m : ℕ) {a b : List ℕ} → k ≤ m → KeptFrom k a b → KeptFrom m a b
from-more k m {a} {b} beyond kept =
    let sum : k + (m - k) ≡ m = omega arith in
    let whole : drop (k + (m - k)) a ≡ drop (k + (m - k)) b =
    sym (drop-drop (m - k) k a) ∙ ap (drop (m - k)) kept.same ∙ drop-drop (m - k) k b in
    record { same = rw sum at whole }

pub before-then : (m k : ℕ) {a b c : List ℕ} → m ≤ k → KeptBefore m a b → KeptBefore k b c → KeptBefore m a c
before-then m k within first second = record { same = first.same ∙ (before-less m k within second).same }

pub from-then : (k m : ℕ) {a b c : List ℕ} → k ≤ m → KeptFrom k a b → KeptFrom m b c → KeptFrom m a c
from-then k m beyond first second = record { same = (from-more k m beyond first).same ∙ second.same }

-- a range that ends at or before the place up to which the lists agree
pub range-before : (from to k : ℕ) {a b : List ℕ} → to ≤ k → KeptBefore k a b → slice_range a from to ≡ slice_range b from to
range-before from to k {a} {b} within kept =
    between_is a from to ∙ ap (drop from) (before-less to k within kept).same ∙ sym (between_is b from to)

-- a range that begins at or after the place from which they agree
pub range-from : (k from to : ℕ) {a b : List ℕ} → k ≤ from → KeptFrom k a b → slice_range a from to ≡ slice_range b from to
range-from k from to beyond kept = ap (take (to - from)) (from-more k from beyond kept).same

pub field-before : (offset width k : ℕ) {a b : List ℕ} → offset + width ≤ k → KeptBefore k a b → field a offset width ≡ field b offset width
field-before offset width k within kept = ap little (range-before offset (offset + width) k within kept)

pub field-from : (k offset width : ℕ) {a b : List ℕ} → k ≤ offset → KeptFrom k a b → field a offset width ≡ field b offset width
field-from k offset width beyond kept = ap little (range-from k offset (offset + width) beyond kept)
