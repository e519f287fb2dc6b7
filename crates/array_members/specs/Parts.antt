-- What contracts see of an array.
use Rattle.std.specs.Prelude.{ℕ, List, Option}
use Rattle.array_members.specs.declared.work.Work.{Work}
use Rattle.crash_role_laws.specs.history_the_Entry.{Entry}
use Rattle.crash_role_laws.specs.sb_specs_the_Members.{Members}

-- its bank; the uuid, slots, opening mark, last mark and entries of its epoch; the backup slot; what its members say; what is under way;
-- and how many steps there is room for
pub record Parts (B : Type 0) : Type 0 where
  pub bank : B
  pub uuid : List ℕ
  pub given : ℕ
  pub first : ℕ
  pub last : ℕ
  pub entries : List Entry
  pub backup : Option ℕ
  pub members : Members
  pub work : Work
  pub steps : ℕ
