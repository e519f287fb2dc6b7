use Rattle.raid_layout.proofs.OnlyParity.{parity_only-is, parity_only-all}
use Rattle.raid_layout.proofs.parity_only.Goals as goal

pub returns-clause-value : goal.returns-clause-value
returns-clause-value c = parity_only-is c.args.shape.now c.requires.shape c.of.result.layout c.of.result.disks c.of.result.parities c.args.role
    (record { layout = c.of.ensures.layout; disks = c.of.ensures.disks; sum = c.of.ensures.data_disks }) c.requires.role c.has_only_parity.result c.has_only_parity.ensures

pub returns-clause-all : goal.returns-clause-all
returns-clause-all c = rw (returns-clause-value c) (parity_only-all c.args.shape.now c.requires.shape c.args.role c.requires.role)
