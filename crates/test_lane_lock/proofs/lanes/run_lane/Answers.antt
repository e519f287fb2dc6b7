use Rattle.std.proofs.Common.{rules, ◌≡◌, ◌+◌, ◌<◌, ◌++◌, [], ◌∷◌, List, length, get_or, arith, refl, sym, ap, ◌∙◌, subst, append_assoc, append-nil, length-append}
use Rattle.std.specs.Prelude.{vec_len, vec_capacity, IsOk}
use Rattle.lane_lock.specs.declared.call.Call.{Call}
use Rattle.lane_lock.specs.Turns.{mine_of}
use Rattle.test_lane_lock.specs.declared.entry.Request.{Request}
use Rattle.test_lane_lock.specs.declared.entry.Request.TheVariants.{Add}
use Rattle.test_lane_lock.specs.declared.entry.Reply.{Reply}
use Rattle.test_lane_lock.specs.declared.entry.Reply.TheVariants.{Done, NoRoom}
use Rattle.test_lane_lock.specs.Lanes.{calls_made, AreDone}
use Rattle.test_lane_lock.proofs.Taken.{call_at, done_snoc, not_done, calls_snoc, calls_same, calls_none, call_adds, call_leaves}
use Rattle.test_lane_lock.proofs.lanes.run_lane.Goals as goal
use Rattle.test_lane_lock.proofs.lanes.run_lane.Goals.{else-loop-done-test, then-loop-done-test+in-NoRoom}

pub loop-done-init : goal.loop-done-init
loop-done-init g c =
    let mine = mine_of c.args.pass.seat.me.0.hands in
    let none : calls_made c.args.requests.now c.args.replies.items ≡ [] = ap (calls_made c.args.requests.now) c.requires.new ∙ calls_none c.args.requests.now in
    record {
      same = refl;
      caller = refl;
      few = omega arith;
      len = ap (λ (l : List Reply). length l) c.requires.new;
      room = c.requires.room;
      done = subst (λ (l : List Reply). AreDone l) (sym c.requires.new) tt;
      mine = sym (ap (λ (l : List (Call Request)). mine ++ l) none ∙ append-nil mine);
    }

pub loop-done-preserved : goal.loop-done-preserved
loop-done-preserved g c =
    let inv = c.loop-done.invariant in
    let requests = c.args.requests.now in
    let replies = c.loop-done.replies.items in
    let at = c.in-Done.at in
    let sum = c.in-Done.sum in
    let mine = mine_of c.args.pass.seat.me.0.hands in
    let reply : c.call-next.result.1 ≡ Done at sum = c.in-Done.is in
    let space : vec_len c.loop-done.replies < vec_capacity c.loop-done.replies = omega arith in
    let ok : IsOk c.push.result = c.push.ensures.succeeds space in
    let pushed : c.push.new.self.items ≡ replies ++ c.call-next.result.1 ∷ [] = search rules in
    let items : c.push.new.self.items ≡ replies ++ Done at sum ∷ [] = pushed ∙ ap (λ (r : Reply). replies ++ r ∷ []) reply in
    let request : Request = get_or requests c.loop-done.done (Add 0) in
    let small : length replies < length requests = omega arith in
    let snoc = calls_snoc requests replies at sum (Add 0) inv.done small in
    let here : get_or requests (length replies) (Add 0) ≡ request = ap (λ n. get_or requests n (Add 0)) inv.len in
    let added = call_adds c.loop-done.pass.seat.me.0 c.call-next.result.0.seat.me.0 c.loop-done.pass.caller request c.call-next.result.1 at sum reply c.call-next.ensures.called in
    let more = c.push.ensures.capacity in
    record {
      same = c.call-next.ensures.same.0 ∙ inv.same;
      caller = c.call-next.ensures.same.1 ∙ inv.caller;
      few = omega arith;
      len = ap (λ (l : List Reply). length l) items ∙ (length-append replies (Done at sum ∷ []) ∙ ap (λ n. n + 1) inv.len);
      room = omega (arith, inv.room);
      done = subst (λ (l : List Reply). AreDone l) (sym items) (done_snoc replies at sum inv.done);
      mine = added ∙ (ap (λ (l : List (Call Request)). l ++ call_at request at ∷ []) inv.mine ∙ (append_assoc mine (calls_made requests replies) (call_at request at ∷ [])
          ∙ ap (λ (l : List (Call Request)). mine ++ l) (ap (λ (q : Request). calls_made requests replies ++ call_at q at ∷ []) (sym here) ∙ (sym snoc ∙ ap (calls_made requests) (sym items)))));
    }

pub returns-clause-mine : goal.returns-clause-mine
returns-clause-mine g c =
    elim c.loop-done-test.branch [
      | else-loop-done-test w ↦ search rules
      | then-loop-done-test+in-NoRoom w ↦
          let inv = c.loop-done.invariant in
          let requests = c.args.requests.now in
          let replies = c.loop-done.replies.items in
          let mine = mine_of c.args.pass.seat.me.0.hands in
          let request : Request = get_or requests c.loop-done.done (Add 0) in
          let reply : w.call-next.result.1 ≡ NoRoom = w.in-NoRoom.is in
          let small : c.loop-done.done < length requests = search rules in
          let space : vec_len c.loop-done.replies < vec_capacity c.loop-done.replies = omega (arith, inv.room, inv.len) in
          let ok : IsOk w.push.result = w.push.ensures.succeeds space in
          let pushed : w.push.new.self.items ≡ replies ++ w.call-next.result.1 ∷ [] = search rules in
          let items : c.loop-done-test.replies.items ≡ replies ++ NoRoom ∷ [] = ap (λ v. v.items) w.replies-is ∙ (pushed ∙ ap (λ (r : Reply). replies ++ r ∷ []) reply) in
          let left = call_leaves c.loop-done.pass.seat.me.0 w.call-next.result.0.seat.me.0 c.loop-done.pass.caller request w.call-next.result.1 reply w.call-next.ensures.called in
          ap (λ p. mine_of p.seat.me.0.hands) w.pass-is ∙ (left ∙ (inv.mine ∙ ap (λ (l : List (Call Request)). mine ++ l) (sym (calls_same requests replies inv.done) ∙ ap (calls_made requests) (sym items))))
    ]

pub returns-clause-all : goal.returns-clause-all
returns-clause-all g c =
    elim c.loop-done-test.branch [
      | else-loop-done-test w ↦ search rules
      | then-loop-done-test+in-NoRoom w ↦
          let inv = c.loop-done.invariant in
          let replies = c.loop-done.replies.items in
          let reply : w.call-next.result.1 ≡ NoRoom = w.in-NoRoom.is in
          let small : c.loop-done.done < length c.args.requests.now = search rules in
          let space : vec_len c.loop-done.replies < vec_capacity c.loop-done.replies = omega (arith, inv.room, inv.len) in
          let ok : IsOk w.push.result = w.push.ensures.succeeds space in
          let pushed : w.push.new.self.items ≡ replies ++ w.call-next.result.1 ∷ [] = search rules in
          let items : c.loop-done-test.replies.items ≡ replies ++ NoRoom ∷ [] = ap (λ v. v.items) w.replies-is ∙ (pushed ∙ ap (λ (r : Reply). replies ++ r ∷ []) reply) in
          λ all. absurd (not_done replies (subst (λ (l : List Reply). AreDone l) items all))
    ]
