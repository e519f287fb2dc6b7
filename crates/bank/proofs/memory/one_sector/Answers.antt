use Rattle.std.proofs.Common.{◌≡◌, ◌<◌, List, ℕ, subst, sym, arith}
use Rattle.std.specs.Prelude.{slice_index}
use Rattle.bank.proofs.memory.one_sector.Goals as goal

pub returns-clause-whole : goal.returns-clause-whole
returns-clause-whole c =
    let same : c.copy_from_slice.new.self ≡ c.args.bytes.now = cc in
    record { whole = cc; bytes = λ at. subst (λ (l : List ℕ). slice_index l at < 256) (sym same) (omega (arith, c.type_inv.bytes at)) }
