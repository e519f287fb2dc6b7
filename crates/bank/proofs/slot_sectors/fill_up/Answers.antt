use Rattle.std.proofs.Common.{◌≡◌, ◌-◌, ◌++◌, ℕ, length, replicate, ◌∙◌, ap, arith}
use Rattle.bank.proofs.Slots.{length-further, further_none, further_more}
use Rattle.bank.proofs.slot_sectors.fill_up.Goals as goal

pub loop-i-init : goal.loop-i-init
loop-i-init c =
    let long = c.args.filled.now.ok.0 in
    record {
      from = omega (arith, c.len-i.ensures, long);
      upto = omega (arith, c.len-i.ensures, long);
      items = further_none c.args.filled.now.items _ (omega (arith, c.len-i.ensures, long));
      capacity = omega arith;
    }

pub push_reserved-requires : goal.push_reserved-requires
push_reserved-requires c =
    let inv = c.loop-i.invariant in
    let long = length-further c.loop-i._i c.args.filled.now.items c.loop-i.filled.items inv.items in
    omega (arith, long, inv.from, inv.capacity, c.requires, c.loop-i-test.true, c.loop-i.filled.ok.0)

pub loop-i-preserved : goal.loop-i-preserved
loop-i-preserved c =
    let inv = c.loop-i.invariant in
    record {
      from = omega (arith, inv.from);
      upto = omega (arith, inv.from, c.loop-i-test.true);
      items = further_more c.args.filled.now.items c.loop-i.filled.items c.push_reserved.new.self.items c.loop-i._i inv.from inv.items c.push_reserved.ensures.items;
      capacity = omega (arith, inv.capacity, c.push_reserved.ensures.capacity);
    }

pub returns-clause-items : goal.returns-clause-items
returns-clause-items c =
    let inv = c.loop-i.invariant in
    let same : c.loop-i._i - length c.args.filled.now.items ≡ c.args.count - length c.args.filled.now.items = omega (arith, inv.upto, c.loop-i-test.false) in
    inv.items ∙ ap (λ (n : ℕ). c.args.filled.now.items ++ replicate n (replicate 512 0)) same
