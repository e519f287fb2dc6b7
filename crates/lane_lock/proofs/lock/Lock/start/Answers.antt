use Rattle.std.proofs.Common.{rules, ◌≡◌, ℕ, ◌+◌, ◌<◌, [], ◌∷◌, ◌++◌, List, drop, take, slice_index_or, ap, ◌∙◌, arith}
use Rattle.std.proofs.lemmas.List.{take_more, drop_more}
use Rattle.std.specs.Prelude.{vec_len, vec_capacity, IsOk}
use Rattle.lane_lock.specs.declared.view.View.{View}
use Rattle.lane_lock.specs.Turns.{resting, fresh, cut_left, cut_right, first_hand, later_hands}
use Rattle.lane_lock.specs.Passes.{AreNew}
use Rattle.lane_lock.proofs.Passes.{new_snoc}
use Rattle.lane_lock.proofs.lock.Lock.start.Goals as goal

pub deal-pass-requires-clause-caller : goal.deal-pass-requires-clause-caller
deal-pass-requires-clause-caller g c =
    let callers : List ℕ = c.args.callers.now in
    let dealt : ℕ = c.loop-dealt.dealt in (
      fresh (drop (dealt + 1) callers),
      [],
      ap (λ (v : View g.row.T.Denot g.row.Q.Denot). v.hands) c.loop-dealt.invariant.group ∙ ap (λ (z : List ℕ). fresh z) (drop_more callers dealt 0 c.loop-dealt-test.true),
    )

pub loop-dealt-preserved : goal.loop-dealt-preserved
loop-dealt-preserved g c =
    let callers : List ℕ = c.args.callers.now in
    let dealt : ℕ = c.loop-dealt.dealt in
    let value = c.args.value in
    let id = c.in_ok-lock.lock.table.shared.table_id in
    let inv = c.loop-dealt.invariant in
    let told = c.deal-pass.ensures in
    let pass = c.deal-pass.result.0 in
    let rest = drop_more callers dealt 0 c.loop-dealt-test.true in
    let next = slice_index_or callers dealt 0 in
    let space : vec_len c.loop-dealt.passes < vec_capacity c.loop-dealt.passes = omega arith in
    let ok : IsOk c.push.result = c.push.ensures.succeeds space in
    let items : c.push.new.self.items ≡ c.loop-dealt.passes.items ++ pass ∷ [] = search rules in
    let view : pass.seat.me.0 ≡ resting value value (fresh (next ∷ [])) = told.pass ∙ (ap cut_right inv.group ∙ ap (λ (z : List ℕ). resting value value (first_hand (fresh z))) rest) in
    let new : AreNew id value (take dealt callers ++ next ∷ []) (c.loop-dealt.passes.items ++ pass ∷ []) =
    new_snoc id value (take dealt callers) c.loop-dealt.passes.items next pass inv.new told.caller (told.same.0 ∙ inv.id) view in
    let room = inv.room in
    let more = c.push.ensures.capacity in
    record {
      few = omega arith;
      len = search rules;
      room = omega arith;
      id = told.same.1 ∙ inv.id;
      group = told.group ∙ (ap cut_left inv.group ∙ ap (λ (z : List ℕ). resting value value (later_hands (fresh z))) rest);
      new = rw (take_more callers dealt 0 c.loop-dealt-test.true, items) new;
      value = inv.value;
      callers = inv.callers;
    }
