use Rattle.std.proofs.Common.{rules, ◌≡◌, ℕ, ◌+◌, ◌<◌, ◌^◌, [], ◌∷◌, ◌++◌, length, sym, ap, ◌∙◌, arith, length-append}
use Rattle.test_lane_lock.specs.declared.entry.Entry.{Entry}
use Rattle.test_lane_lock.specs.Tallies.{sum_of}
use Rattle.test_lane_lock.proofs.Sums.{sum_snoc}
use Rattle.test_lane_lock.proofs.tally.TallyServedRequestReply.serve.Goals as goal

pub invariant_of-self-2 : goal.invariant_of-self-2
invariant_of-self-2 c =
    let xs = c.self.inside.entries.items in
    let e : Entry = record { caller = c.args.caller; amount = c.match-request.amount } in
    let items : c.push.new.self.items ≡ xs ++ e ∷ [] = search rules in
    let small : length xs < 2 ^ 61 = search rules in
    let n : length c.push.new.self.items ≡ length xs + 1 = ap length items ∙ length-append xs (e ∷ []) in
    (ap (λ (k : ℕ). k + c.match-request.amount) c.self.invariant.0 ∙ (sym (sum_snoc xs e) ∙ ap sum_of (sym items)), omega arith)
