use Rattle.std.proofs.Common.{◌≡◌, inl, inr, ◌*◌, ◌+◌, ℕ, ap, arith}
use Rattle.reshape_begin_end.proofs.stripe_list_LossLaws.{none_lost}
use Rattle.reshape_window_rows.proofs.stripes.put_stripe.Goals as goal

pub returns-then-are_too_many-clause-lost : goal.returns-then-are_too_many-clause-lost
returns-then-are_too_many-clause-lost g c = none_lost c.args.shape.now c.args.members.now (g.B.Bank.faults_of c.args.bank.now) (g.B.Bank.faults_of c.args.bank.now) (λ s. omega arith)

pub returns-clause-full : goal.returns-clause-full
returns-clause-full g c = λ tail list copied told i low high own.
    let first : c.args.stripe * c.from-chunk.result ≡ c.args.stripe * c.args.shape.now.chunk = ap (λ (n : ℕ). c.args.stripe * n) c.from-chunk.ensures in
    c.copy_rows-lost.ensures.full tail list copied told (c.args.stripe * c.args.shape.now.chunk + i) (omega (arith, first, low)) (omega (arith, first, high)) own

pub returns-clause-others : goal.returns-clause-others
returns-clause-others g c = λ told row apart.
    let first : c.args.stripe * c.from-chunk.result ≡ c.args.stripe * c.args.shape.now.chunk = ap (λ (n : ℕ). c.args.stripe * n) c.from-chunk.ensures in
    let same = c.from-chunk.ensures in
    c.copy_rows-lost.ensures.others told row (elim apart [ inl below ↦ inl (omega (arith, first, below)) | inr above ↦ inr (omega (arith, first, same, above)) ])
