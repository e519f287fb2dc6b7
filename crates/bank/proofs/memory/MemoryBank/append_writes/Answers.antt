use Rattle.std.proofs.Common.{◌≡◌, ◌++◌, ◌*◌, ◌+◌, ◌-◌, ◌/◌, [], ◌∷◌, ℕ, List, length, take, drop, refl, ◌∙◌, ap, arith}
use Rattle.bank.specs.declared.bank.Operation.{Operation}
use Rattle.bank.specs.declared.bank.Operation.TheVariants.{Write}
use Rattle.bank.specs.Memory.{Memory}
use Rattle.bank.specs.Tape.{writes}
use Rattle.bank.proofs.Present.{append_step, writes_all}
use Rattle.bank.proofs.memory.MemoryBank.append_writes.Goals as goal

pub loop-i-preserved : goal.loop-i-preserved
loop-i-preserved c =
    let inv = c.loop-i.invariant in
    let count : ℕ = length c.args.from.now / 512 in
    let size : 512 * c.loop-i.i + 512 - 512 * c.loop-i.i ≡ 512 = omega arith in
    let tape : c.loop-i.self.tape ++ Write c.args.slot (c.args.at + c.loop-i.i) (take (512 * c.loop-i.i + 512 - 512 * c.loop-i.i) (drop (512 * c.loop-i.i) c.args.from.now)) ∷ [] ≡ c.args.self.now.tape ++ take (c.loop-i.i + 1) (writes c.args.slot c.args.at count c.args.from.now) =
    append_step c.args.self.now.tape c.loop-i.self.tape _ c.args.slot c.args.at count c.loop-i.i c.args.from.now _ c.loop-i-test.true (ap (λ (m : Memory). m.tape) inv) refl (ap (λ (n : ℕ). take n (drop (512 * c.loop-i.i) c.args.from.now)) size) in
    c.append_write.ensures ∙ (λ j. record { start = (inv j).start; tape = tape j; room = (inv j).room; faults = (inv j).faults; failing = (inv j).failing; calls = (inv j).calls })

pub returns : goal.returns
returns c =
    c.loop-i.invariant ∙ ap (λ (l : List Operation). record c.args.self.now { tape = c.args.self.now.tape ++ l }) (writes_all c.args.slot c.args.at (length c.args.from.now / 512) c.loop-i.i c.args.from.now c.loop-i-test.false)
