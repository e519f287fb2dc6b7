use Rattle.std.proofs.Common.{◌≡◌, ℕ, ◌+◌, ◌*◌, ◌<◌, ◌≤◌, List, ◌++◌, map, length, get_or, drop, codes, decimal, refl, sym, ap, ◌∙◌, append-nil, le_trans, arith}
use Rattle.std.proofs.lemmas.List.{drop_more, drop_all}
use Rattle.script.specs.Texts.{refused, spaced}
use Rattle.script.proofs.AppendLaws.{then, failed, failed_few, longer, added, unpushed, unextended, few_of, few_so_far, then_few, at_most, begun, goes_on, ends}
use Rattle.script.proofs.reply.push_refused.Goals as goal

fits_number : (n v : ℕ) → 28 ≤ 30 + n + 21 * v
fits_number n v = omega arith

fits_space : (n v : ℕ) → 29 ≤ 30 + n + 21 * v
fits_space n v = omega arith

fits_name : (n v : ℕ) → 28 + (1 + n) ≤ 30 + n + 21 * v
fits_name n v = omega arith

fits_start : (n : ℕ) → 28 + (1 + n) ≤ 29 + n + 21 * 0
fits_start n = omega arith

fits_one : (n v i : ℕ) → i < v → 29 + n + 21 * i + 21 ≤ 30 + n + 21 * v
fits_one n v i lt = omega arith

fits_more : (n i : ℕ) → 29 + n + 21 * i + 21 ≤ 29 + n + 21 * (i + 1)
fits_more n i = omega arith

-- one value of those that are left, and the others
one_more : (vs : List ℕ) (i : ℕ) (text whole : List ℕ) → i < length vs → text ++ spaced (map decimal (drop i vs)) ≡ whole
    → text ++ ((codes " " ++ decimal (get_or vs i 0)) ++ spaced (map decimal (drop (i + 1) vs))) ≡ whole
one_more vs i text whole lt is = ap (λ r. text ++ spaced (map decimal r)) (sym (drop_more vs i 0 lt)) ∙ is

-- no value is left
all_said : (vs : List ℕ) (i : ℕ) (text whole : List ℕ) → length vs ≤ i → text ++ spaced (map decimal (drop i vs)) ≡ whole → text ≡ whole
all_said vs i text whole le is = sym (append-nil text) ∙ ap (λ r. text ++ spaced (map decimal r)) (sym (drop_all i vs le)) ∙ is

pub returns-in_err-push_counted-clause-appended : goal.returns-in_err-push_counted-clause-appended
returns-in_err-push_counted-clause-appended c =
    failed c.from_residual.ensures.0 (longer (spaced (map decimal c.args.values.now)) (longer c.args.name.now (longer (codes " ") c.in_err-push_counted.ensures.appended)))

pub returns-in_err-push_counted-clause-short : goal.returns-in_err-push_counted-clause-short
returns-in_err-push_counted-clause-short c =
    failed_few c.from_residual.ensures.0 (at_most _ (fits_number (length c.args.name.now) (length c.args.values.now)) c.in_err-push_counted.ensures.short)

pub returns-in_err-push-clause-appended : goal.returns-in_err-push-clause-appended
returns-in_err-push-clause-appended c =
    failed c.from_residual-in_err-push.ensures.0 (longer (spaced (map decimal c.args.values.now)) (longer c.args.name.now
    (then c.in_ok-push_counted.ensures.appended (unpushed 32 c.in_err-push.ensures.succeeds c.in_err-push.ensures.capacity))))

pub returns-in_err-push-clause-short : goal.returns-in_err-push-clause-short
returns-in_err-push-clause-short c =
    failed_few c.from_residual-in_err-push.ensures.0 (at_most _ (fits_space (length c.args.name.now) (length c.args.values.now))
    (then_few c.in_ok-push_counted.ensures.short c.in_ok-push_counted.ensures.appended.room (few_of (unpushed 32 c.in_err-push.ensures.succeeds c.in_err-push.ensures.capacity))))

pub returns-in_err-extend_from_slice-clause-appended : goal.returns-in_err-extend_from_slice-clause-appended
returns-in_err-extend_from_slice-clause-appended c =
    failed c.from_residual-in_err-extend_from_slice.ensures.0 (longer (spaced (map decimal c.args.values.now))
    (then (then c.in_ok-push_counted.ensures.appended (added {new = c.push.new.self} refl c.in_ok-push.ensures.items c.in_ok-push.ensures.capacity))
    (unextended c.as_bytes.ensures.value c.in_err-extend_from_slice.ensures.full c.in_err-extend_from_slice.ensures.capacity)))

pub returns-in_err-extend_from_slice-clause-short : goal.returns-in_err-extend_from_slice-clause-short
returns-in_err-extend_from_slice-clause-short c =
    failed_few c.from_residual-in_err-extend_from_slice.ensures.0 (at_most _ (fits_name (length c.args.name.now) (length c.args.values.now))
    (then_few c.in_ok-push_counted.ensures.short c.in_ok-push_counted.ensures.appended.room
    (then_few (few_of (added {new = c.push.new.self} refl c.in_ok-push.ensures.items c.in_ok-push.ensures.capacity)) c.in_ok-push.ensures.capacity
    (few_of (unextended c.as_bytes.ensures.value c.in_err-extend_from_slice.ensures.full c.in_err-extend_from_slice.ensures.capacity)))))

pub loop-value-init : goal.loop-value-init
loop-value-init c =
    let number = c.in_ok-push_counted.ensures in
    let space = c.in_ok-push.ensures in
    let name = c.in_ok-extend_from_slice.ensures in
    record {
      whole = begun (spaced (map decimal c.args.values.now)) (then (then number.appended (added {new = c.push.new.self} refl space.items space.capacity)) (added {new = c.extend_from_slice.new.self} c.as_bytes.ensures.value name.items name.capacity));
      few = (at_most _ (fits_start (length c.args.name.now)) (then_few number.short number.appended.room
          (then_few (few_of (added {new = c.push.new.self} refl space.items space.capacity)) space.capacity (few_of (added {new = c.extend_from_slice.new.self} c.as_bytes.ensures.value name.items name.capacity))))).few;
      room = le_trans number.appended.room (le_trans space.capacity name.capacity);
    }

pub returns-in_err-push_counted-2-clause-appended : goal.returns-in_err-push_counted-2-clause-appended
returns-in_err-push_counted-2-clause-appended c =
    let now = c.loop-value.invariant in
    let whole = refused c.args.number c.args.name.now (map decimal c.args.values.now) in
    failed c.from_residual-in_err-push_counted-2.ensures.0
    (ends (spaced (map decimal (drop (c.loop-value.value-index + 1) c.args.values.now))) whole now.room
    (one_more c.args.values.now c.loop-value.value-index c.loop-value.text.items (c.args.text.now.items ++ whole) c.loop-value-test.true now.whole)
    c.in_err-push_counted-2.ensures.appended)

pub returns-in_err-push_counted-2-clause-short : goal.returns-in_err-push_counted-2-clause-short
returns-in_err-push_counted-2-clause-short c =
    let now = c.loop-value.invariant in
    failed_few c.from_residual-in_err-push_counted-2.ensures.0
    (at_most _ (fits_one (length c.args.name.now) (length c.args.values.now) c.loop-value.value-index c.loop-value-test.true)
    (then_few (few_so_far {old = c.args.text.now} {new = c.loop-value.text} now.few) now.room c.in_err-push_counted-2.ensures.short))

pub loop-value-preserved : goal.loop-value-preserved
loop-value-preserved c =
    let now = c.loop-value.invariant in
    let whole = c.args.text.now.items ++ refused c.args.number c.args.name.now (map decimal c.args.values.now) in
    let told = c.in_ok-push_counted-2.ensures in
    record {
      whole = goes_on (spaced (map decimal (drop (c.loop-value.value-index + 1) c.args.values.now))) whole told.appended
          (one_more c.args.values.now c.loop-value.value-index c.loop-value.text.items whole c.loop-value-test.true now.whole);
      few = (at_most _ (fits_more (length c.args.name.now) c.loop-value.value-index) (then_few (few_so_far {old = c.args.text.now} {new = c.loop-value.text} now.few) now.room told.short)).few;
      room = le_trans now.room told.appended.room;
    }

pub returns-clause-appended : goal.returns-clause-appended
returns-clause-appended c =
    let now = c.loop-value.invariant in
    let whole = c.args.text.now.items ++ refused c.args.number c.args.name.now (map decimal c.args.values.now) in
    record { whole = all_said c.args.values.now c.loop-value.value-index c.loop-value.text.items whole c.loop-value-test.false now.whole; full = tt; room = now.room }
