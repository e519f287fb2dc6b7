use Rattle.std.proofs.Common.{◌≡◌, ℕ, ◌+◌, ◌-◌, ◌≤◌, arith}
use Rattle.std.proofs.lemmas.Bool.Decides.{nat_tests}
use Rattle.raid_layout.specs.Layout.{data_role, is_symmetric}
use Rattle.raid_layout.proofs.Dealt.{IsFree, free, index, data_role-index, behind_parity}
use Rattle.raid_layout.proofs.ring.Ring.data_index.Goals as goal

-- the answer is the index of that role
found : (layout n k p r i : ℕ) → IsFree n k p r → i ≡ index (is_symmetric layout) n k p r → data_role layout n k p i ≡ r
found layout n k p r i free same = rw same (data_role-index layout n k p r free)

pub overflow_sub-result-then-is_symmetric-2 : goal.overflow_sub-result-then-is_symmetric-2
overflow_sub-result-then-is_symmetric-2 c =
    behind_parity _ _ _ _ (free c.args.self.now.some c.args.self.now.one_or_two c.args.self.now.has_data c.requires.p c.requires.role c.requires.not_p c.requires.not_q)
    c.if-self-behind.false c.if-role-p.false

pub overflow_sub-result-else-is_symmetric-2 : goal.overflow_sub-result-else-is_symmetric-2
overflow_sub-result-else-is_symmetric-2 c =
    let h : c.args.p + c.args.self.now.parities ≤ c.args.role =
    behind_parity _ _ _ _ (free c.args.self.now.some c.args.self.now.one_or_two c.args.self.now.has_data c.requires.p c.requires.role c.requires.not_p c.requires.not_q)
    c.if-self-behind.false c.if-role-p.false in
    omega (arith, h)

pub returns-then-self-behind-clause-role : goal.returns-then-self-behind-clause-role
returns-then-self-behind-clause-role c =
    found c.args.self.now.layout c.args.self.now.disks c.args.self.now.parities c.args.p c.args.role (c.args.role - (c.args.p + c.args.self.now.parities - c.args.self.now.disks))
    (free c.args.self.now.some c.args.self.now.one_or_two c.args.self.now.has_data c.requires.p c.requires.role c.requires.not_p c.requires.not_q)
    (grind (arith, nat_tests))

pub returns-then-is_symmetric-2-clause-role : goal.returns-then-is_symmetric-2-clause-role
returns-then-is_symmetric-2-clause-role c =
    found c.args.self.now.layout c.args.self.now.disks c.args.self.now.parities c.args.p c.args.role (c.args.role - (c.args.p + c.args.self.now.parities))
    (free c.args.self.now.some c.args.self.now.one_or_two c.args.self.now.has_data c.requires.p c.requires.role c.requires.not_p c.requires.not_q)
    (grind (arith, nat_tests))

pub returns-else-is_symmetric-2-clause-role : goal.returns-else-is_symmetric-2-clause-role
returns-else-is_symmetric-2-clause-role c =
    found c.args.self.now.layout c.args.self.now.disks c.args.self.now.parities c.args.p c.args.role (c.args.role - c.args.self.now.parities)
    (free c.args.self.now.some c.args.self.now.one_or_two c.args.self.now.has_data c.requires.p c.requires.role c.requires.not_p c.requires.not_q)
    (grind (arith, nat_tests))
