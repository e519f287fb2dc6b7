use Rattle.std.proofs.Common.{◌≡◌, List, [], sym, ◌∙◌}
use Rattle.std.proofs.lemmas.List.{append-nil}
use Rattle.run_blocks.specs.bank_the_Operation.{Operation}
use Rattle.run_blocks.specs.array_members_Moving.{Grows}

-- where nothing was performed

pub grows-same : {tells : Type 0} {before after : List Operation} → after ≡ before → Grows tells before after
grows-same {before = before} same = record { more = λ told. ([], same ∙ sym (append-nil before)) }
