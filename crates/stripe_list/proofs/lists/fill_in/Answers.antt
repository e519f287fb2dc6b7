use Rattle.std.proofs.Common.{◌∙◌, arith}
use Rattle.stripe_list.proofs.LossLaws.{none_lost}
use Rattle.stripe_list.proofs.lists.fill_in.Goals as goal

pub returns-then-are_too_many-clause-lost : goal.returns-then-are_too_many-clause-lost
returns-then-are_too_many-clause-lost g c = none_lost c.args.shape.now c.args.members.now (g.B.Bank.faults_of c.args.bank.now) (g.B.Bank.faults_of c.args.bank.now) (λ s. omega arith)

pub returns-then-not-synced-clause-lost : goal.returns-then-not-synced-clause-lost
returns-then-not-synced-clause-lost g c = none_lost c.args.shape.now c.args.members.now (g.B.Bank.faults_of c.args.bank.now) (g.B.Bank.faults_of c.args.bank.now) (λ s. omega arith)

pub returns-in-Ok-clause-filled : goal.returns-in-Ok-clause-filled
returns-in-Ok-clause-filled g c = λ told. c.copy_sector.ensures.here ∙ c.in-Ok.ensures.sectors told c.args.at.role c.requires.role
