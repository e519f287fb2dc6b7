-- Reads leave nothing new of any slot, and the names that follow nothing new of slots without a part in the array.
use Rattle.std.proofs.Common.{◌≡◌, List, sym, subst}
use Rattle.sb_safe_updates.specs.bank_the_Operation.{Operation}
use Rattle.sb_safe_updates.specs.bank_Given.{Given}
use Rattle.sb_safe_updates.specs.bank_Tape.{Contents, disk}
use Rattle.sb_safe_updates.specs.sb_specs_the_Members.{Members}
use Rattle.sb_safe_updates.specs.array_members_Moving.{IsMoved}
use Rattle.sb_safe_updates.specs.array_members_Under.{IsRestKept}
use Rattle.sb_safe_updates.specs.Unused.{IsUnusedKept}
use Rattle.sb_safe_updates.proofs.Unused.{rest-unused, unused-then}

pub read-unused : (m : Members) (start : Contents) (before after : List Operation) → after ≡ before → IsUnusedKept m (disk start before) (disk start after)
read-unused m start before after same = subst (λ (l : List Operation). IsUnusedKept m (disk start before) (disk start l)) (sym same) (λ s k v unused may. may)

-- slots were lost in the reads, and then named
pub named-unused : (given given1 : Given) (old mid : Members) (before read after : List Operation) → read ≡ before → given1 ≡ given → IsMoved given old mid
    → IsRestKept mid (disk given1.start read) (disk given1.start after) → IsUnusedKept old (disk given.start before) (disk given.start after)
named-unused given given1 old mid before read after same at moved rest =
    unused-then given old mid (disk given.start before) (disk given.start read) (disk given.start after) moved (read-unused old given.start before read same)
    (rest-unused mid (disk given.start read) (disk given.start after) (subst (λ (b : Given). IsRestKept mid (disk b.start read) (disk b.start after)) at rest))
