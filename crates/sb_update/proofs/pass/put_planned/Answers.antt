use Rattle.std.proofs.Common.{◌≡◌, ◌∙◌, ap, subst, length, arith}
use Rattle.std.proofs.lemmas.List.{length-take-le}
use Rattle.sb_specs.specs.sb_codec_the_Sb.{Sb}
use Rattle.sb_specs.specs.sb_codec_Superblock.{sb_of, checksum}
use Rattle.sb_update.proofs.pass.put_planned.Goals as goal

pub put_sector-requires-clause-size : goal.put_sector-requires-clause-size
put_sector-requires-clause-size g c = ap length c.first_sector.ensures.first ∙ length-take-le 512 c.sectors_of-sectors.result (omega arith)

pub returns-clause-did : goal.returns-clause-did
returns-clause-did g c =
    let bytes = c.sectors_of-sectors.result in (
      c.first_sector.result.now,
      record {
        bytes = bytes;
        long = omega arith;
        small = c.first_sector.ensures.bytes;
        first = c.first_sector.ensures.first;
        valid = c.sectors_of-sectors.ensures.valid;
        fields = subst (λ (sb : Sb). sb_of bytes ≡ record sb { sb_csum = checksum bytes }) c.planned.ensures c.sectors_of-sectors.ensures.fields;
      },
      c.put_sector.ensures.did,
    )
