use Rattle.std.proofs.Common.{rules, ◌≡◌, ◌+◌, ◌<◌, ◌≤◌, [], ◌∷◌, ◌++◌, List, ap, ◌∙◌, subst, arith}
use Rattle.std.specs.Prelude.{vec_len, vec_capacity, IsOk}
use Rattle.lane_lock.specs.declared.call.Call.{Call}
use Rattle.lane_lock.specs.declared.lock.Pass.{Pass}
use Rattle.lane_lock.specs.Turns.{mine_of}
use Rattle.lane_lock.specs.Passes.{Ended}
use Rattle.test_lane_lock.specs.declared.entry.Entry.{Entry}
use Rattle.test_lane_lock.specs.declared.entry.Request.{Request}
use Rattle.test_lane_lock.specs.Tallies.{tally_ways}
use Rattle.test_lane_lock.specs.Lanes.{calls_made}
use Rattle.test_lane_lock.proofs.TwoLanes.{AreTwo, are_two, AreEntered, both_entered}
use Rattle.test_lane_lock.proofs.joining.together.Given.{Over}
use Rattle.test_lane_lock.proofs.joining.together.Goals as goal

told : (g : Over) (c : goal.After-close g)
    → AreEntered c.args.tally c.close.result 1 2 (calls_made c.args.first.now c.join-a.result.0.1.items) (calls_made c.args.second.now c.join-a.result.1.1.items)
told g c =
    let x : Pass (List Entry) Request = c.in-Some-pop.pass_one in
    let y : Pass (List Entry) Request = c.in-Some.pass_two in
    let a : Pass (List Entry) Request = c.join-a.result.0.0 in
    let b : Pass (List Entry) Request = c.join-a.result.1.0 in
    let rest : List (Pass (List Entry) Request) = c.pop-2.new.self.items in
    let first : List (Call Request) = calls_made c.args.first.now c.join-a.result.0.1.items in
    let second : List (Call Request) = calls_made c.args.second.now c.join-a.result.1.1.items in
    let two : AreTwo 1 2 x y rest = are_two _ _ 1 2 x y c.in_ok-shared.passes.items c.pop.new.self.items rest c.in_ok-shared.ensures.passes c.in-Some.ensures.items c.in-Some-pop.ensures.items in
    let a_caller : a.caller ≡ x.caller = search rules in
    let b_caller : b.caller ≡ y.caller = search rules in
    let a_mine : mine_of a.seat.me.0.hands ≡ mine_of x.seat.me.0.hands ++ first = search rules in
    let b_mine : mine_of b.seat.me.0.hands ≡ mine_of y.seat.me.0.hands ++ second = search rules in
    let len : vec_len c.pop-2.new.self + 1 ≡ vec_len c.pop.new.self = search rules in
    let len' : vec_len c.pop.new.self + 1 ≡ vec_len c.in_ok-shared.passes = search rules in
    let few : vec_len c.in_ok-shared.passes ≤ vec_capacity c.in_ok-shared.passes = search rules in
    let cap : vec_capacity c.pop.new.self ≡ vec_capacity c.in_ok-shared.passes = search rules in
    let cap' : vec_capacity c.pop-2.new.self ≡ vec_capacity c.pop.new.self = search rules in
    let space : vec_len c.pop-2.new.self < vec_capacity c.pop-2.new.self = omega arith in
    let ok : IsOk c.push.result = c.push.ensures.succeeds space in
    let pushed : c.push.new.self.items ≡ rest ++ a ∷ [] = search rules in
    let more : vec_len c.push.new.self ≤ vec_len c.pop-2.new.self + 1 = c.push.ensures.upper_bound in
    let wide = c.push.ensures.capacity in
    let space' : vec_len c.push.new.self < vec_capacity c.push.new.self = omega arith in
    let ok' : IsOk c.push-2.result = c.push-2.ensures.succeeds space' in
    let pushed' : c.push-2.new.self.items ≡ c.push.new.self.items ++ b ∷ [] = search rules in
    let ends : c.push-2.new.self.items ≡ a ∷ b ∷ [] = pushed' ∙ ap (λ (z : List (Pass (List Entry) Request)). z ++ b ∷ []) (pushed ∙ ap (λ (z : List (Pass (List Entry) Request)). z ++ a ∷ []) two.none_left) in
    let start : c.in_ok-shared.shared.table.shared.key.value ≡ c.args.tally = c.in_ok-shared.ensures.lock.0 in
    let ended = subst (λ (v : List Entry). Ended tally_ways v c.push-2.new.self.items c.close.result) start c.close.ensures.ended in
    both_entered c.args.tally c.close.result 1 2 a b c.push-2.new.self.items first second (λ e. absurd (cc)) ends (a_caller ∙ two.first) (b_caller ∙ two.second)
    (a_mine ∙ ap (λ (z : List (Call Request)). z ++ first) two.first_none) (b_mine ∙ ap (λ (z : List (Call Request)). z ++ second) two.second_none) ended

pub returns-clause-first : goal.returns-clause-first
returns-clause-first g c = (told g c).first

pub returns-clause-second : goal.returns-clause-second
returns-clause-second g c = (told g c).second

pub returns-clause-others : goal.returns-clause-others
returns-clause-others g c = (told g c).others
