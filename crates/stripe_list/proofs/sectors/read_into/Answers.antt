use Rattle.std.proofs.Common.{◌≡◌, ℕ, length, List, sym, ◌∙◌, ap, arith, lit<}
use Rattle.std.proofs.lemmas.List.{take_all}
use Rattle.raid_layout.specs.raid_types_Sectors.{Sector}
use Rattle.stripe_row.specs.bank_Tape.{AreSectors}
use Rattle.stripe_row.proofs.RowBytes.{sector-put_here, sector-put_other, on_ok}
use Rattle.stripe_row.specs.Rows.{present}
use Rattle.stripe_list.proofs.sectors.read_into.Goals as goal

-- the one sector that was read
one_sector : (held : ℕ → Sector) (at : ℕ) (bytes : List ℕ) → length bytes ≡ 512 → AreSectors held at bytes → bytes ≡ held at
one_sector held at bytes size are =
    sym (take_all 512 bytes (omega (arith, size))) ∙ are 0 (rw size (lit< tt)) ∙ ap held (omega arith)

pub returns-clause-here : goal.returns-clause-here
returns-clause-here g c =
    let size : length c.read.new.into ≡ 512 = omega (arith, c.read.auto.into, c.requires.index) in
    on_ok c.read.result (λ is told. sector-put_here c.args.into.now c.read.new.into c.args.index c.requires.index size ∙ one_sector (present (g.B.Bank.given c.args.bank.now) (g.B.Bank.tape c.args.bank.now) c.args.slot) c.args.at c.read.new.into size (is told)) c.read.ensures.ok

pub returns-clause-others : goal.returns-clause-others
returns-clause-others g c = λ r ne. sector-put_other c.args.into.now c.read.new.into c.args.index r c.requires.index (omega (arith, c.read.auto.into, c.requires.index)) ne
