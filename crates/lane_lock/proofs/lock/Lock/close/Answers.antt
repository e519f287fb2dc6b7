use Rattle.std.proofs.Common.{rules, ◌≡◌, [], ◌∷◌, ◌++◌, List, length, sym, ap, ◌∙◌, subst, append_assoc}
use Rattle.lane_lock.specs.declared.lock.Pass.{Pass}
use Rattle.lane_lock.specs.Passes.{EachPass, Ended}
use Rattle.lane_lock.proofs.Passes.{first_behind, one_behind, each_parts, none_left, hands_count, all_ended}
use Rattle.lane_lock.proofs.lock.Lock.close.Goals as goal

pub loop-pass-init : goal.loop-pass-init
loop-pass-init g c =
    let id = c.args.self.table.shared.table_id in
    let p = c.in-Some.last in
    let left = c.pop.new.self.items in
    let items : c.args.passes.items ≡ left ++ p ∷ [] = c.in-Some.ensures.items in
    let of = each_parts (λ (q : Pass g.row.T.Denot g.row.Q.Denot). q.seat.table_id ≡ id) left (p ∷ [])
    (subst (λ (z : List (Pass g.row.T.Denot g.row.Q.Denot)). EachPass (λ q. q.seat.table_id ≡ id) z) items c.requires.lock) in
    record {
      id = c.alone-group.ensures.same.0 ∙ of.1.0;
      lock = of.0;
      behind = (p ∷ [], sym items, first_behind g.T.Served.ways p c.alone-group.result.seat.me.0 c.alone-group.ensures.same.1);
    }

pub gather-group-requires : goal.gather-group-requires
gather-group-requires g c =
    let id = c.args.self.table.shared.table_id in
    let p = c.in-Some-pop.pass in
    let left = c.pop-in-loop-pass.new.self.items in
    let items : c.loop-pass.passes.items ≡ left ++ p ∷ [] = c.in-Some-pop.ensures.items in
    let of = each_parts (λ (q : Pass g.row.T.Denot g.row.Q.Denot). q.seat.table_id ≡ id) left (p ∷ [])
    (subst (λ (z : List (Pass g.row.T.Denot g.row.Q.Denot)). EachPass (λ q. q.seat.table_id ≡ id) z) items c.loop-pass.invariant.lock) in
    record { locks = (c.loop-pass.invariant.id, of.1.0) }

pub loop-pass-preserved : goal.loop-pass-preserved
loop-pass-preserved g c =
    let id = c.args.self.table.shared.table_id in
    let p = c.in-Some-pop.pass in
    let left = c.pop-in-loop-pass.new.self.items in
    let items : c.loop-pass.passes.items ≡ left ++ p ∷ [] = c.in-Some-pop.ensures.items in
    let of = each_parts (λ (q : Pass g.row.T.Denot g.row.Q.Denot). q.seat.table_id ≡ id) left (p ∷ [])
    (subst (λ (z : List (Pass g.row.T.Denot g.row.Q.Denot)). EachPass (λ q. q.seat.table_id ≡ id) z) items c.loop-pass.invariant.lock) in
    let b = c.loop-pass.invariant.behind in
    let told = c.gather-group.ensures in
    record {
      id = told.same ∙ c.loop-pass.invariant.id;
      lock = of.0;
      behind = (
        p ∷ b.0,
        sym (append_assoc left (p ∷ []) b.0) ∙ (ap (λ (z : List (Pass g.row.T.Denot g.row.Q.Denot)). z ++ b.0) (sym items) ∙ b.1),
        one_behind g.T.Served.ways b.0 p c.loop-pass.group.seat.me.0 c.gather-group.result.seat.me.0 g.met.T.Served.lawful b.2 told.hands told.gathered,
      );
    }

pub close_group-requires-clause-all : goal.close_group-requires-clause-all
close_group-requires-clause-all g c =
    let b = c.loop-pass.invariant.behind in
    let empty : length c.loop-pass.passes.items ≡ 0 = search rules in
    let whole : b.0 ≡ c.args.passes.items = sym (ap (λ (z : List (Pass g.row.T.Denot g.row.Q.Denot)). z ++ b.0) (none_left c.loop-pass.passes.items empty)) ∙ b.1 in
    ap (λ hs. length hs) b.2.hands ∙ (hands_count b.0 ∙ (ap (λ (z : List (Pass g.row.T.Denot g.row.Q.Denot)). length z) whole ∙ c.requires.all))

pub returns : goal.returns
returns g c =
    let b = c.loop-pass.invariant.behind in
    let empty : length c.loop-pass.passes.items ≡ 0 = search rules in
    let whole : b.0 ≡ c.args.passes.items = sym (ap (λ (z : List (Pass g.row.T.Denot g.row.Q.Denot)). z ++ b.0) (none_left c.loop-pass.passes.items empty)) ∙ b.1 in
    let start = c.args.self.table.shared.key.value in
    record {
      ended = subst (λ (z : List (Pass g.row.T.Denot g.row.Q.Denot)). Ended g.T.Served.ways start z c.close_group.result) whole
          (all_ended g.T.Served.ways start c.close_group.result b.0 c.loop-pass.group.seat.me.0 g.met.T.Served.lawful b.2 c.close_group.ensures.closed);
    }
