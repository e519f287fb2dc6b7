use Rattle.std.proofs.Common.{inl, sym, subst, List}
use Rattle.sb_specs.specs.raid_types_Sectors.{Sector}
use Rattle.sb_specs.specs.sb_codec_the_Sb.{Sb}
use Rattle.sb_specs.specs.bank_Tape.{IsIn}
use Rattle.sb_specs.specs.Rounds.{first_newest, IsFirstRewriting}
use Rattle.sb_read_laws.proofs.RoundReads.{wider}
use Rattle.sb_read_laws.proofs.RoundsRead.{in-first-reads}
use Rattle.sb_read_laws.proofs.slots_read_while_recoveries_are_written.Goals as goal

pub returns : goal.returns
returns c = λ scope known left members change before live last d e mid ready caught stage others within image drawn.
    wider scope known members change before live mid.lost last image within (in-first-reads scope members change before live known left d ready e image
    (record {
      mid = mid;
      caught = caught;
      stage = subst (λ (n : Sb). IsFirstRewriting (first_newest members change before mid.lost n) change.gives members.own live mid.lost mid.disk e) (sym caught.newest)
          (record { stage = stage; order = inl (λ s v none held. subst (λ (l : List Sector). IsIn l v) (others s none) held) });
    }) drawn)
