use Rattle.std.proofs.Common.{inr, refl, sym, ◌∙◌, slice_index, arith}
use Rattle.array_create_assemble.specs.Looking.{lengths_scope}
use Rattle.array_found_laws.proofs.Elected.{elected-valid}
use Rattle.array_create_assemble.proofs.Judged.{backup-refused}
use Rattle.array_create_assemble.proofs.opening.judge.Goals as goal

pub backup_refusal-requires-clause-shapes : goal.backup_refusal-requires-clause-shapes
backup_refusal-requires-clause-shapes c =
    elected-valid (slice_index c.args.lengths.now) _ c.args.found.lost c.in-Ok.members c.in-Ok.ensures

pub returns-in-Some-clause-judged : goal.returns-in-Some-clause-judged
returns-in-Some-clause-judged c =
    inr (backup-refused (lengths_scope c.args.backup c.args.found.given c.args.lengths.now) _ c.args.found.lost c.in-Ok.members c.in-Some.refusal
    c.in-Ok.ensures (sym c.backup_refusal.ensures ∙ c.in-Some.is))

pub returns-in-None-clause-judged : goal.returns-in-None-clause-judged
returns-in-None-clause-judged c = record {
  elected = c.in-Ok.ensures;
  given = refl;
  backed = sym c.backup_refusal.ensures ∙ c.in-None.is;
}

pub returns-in-Err-clause-counted : goal.returns-in-Err-clause-counted
returns-in-Err-clause-counted c = λ s. let h = c.type_inv.lengths s in omega (arith, h)

pub returns-in-Some-clause-counted : goal.returns-in-Some-clause-counted
returns-in-Some-clause-counted c = λ s. let h = c.type_inv.lengths s in omega (arith, h)

pub returns-in-None-clause-counted : goal.returns-in-None-clause-counted
returns-in-None-clause-counted c = λ s. let h = c.type_inv.lengths s in omega (arith, h)
