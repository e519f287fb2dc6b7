use Rattle.std.proofs.Common.{ℕ, Some, sym, ap, ◌∙◌, arith}
use Rattle.sb_specs.specs.sb_codec_the_Sb.{Sb}
use Rattle.sb_update.proofs.recording.own.stored.Goals as goal

pub returns : goal.returns
returns c =
    let fields = c.sectors_of-sectors.ensures.fields in
    record {
      bytes = c.sectors_of-sectors.result;
      long = omega arith;
      small = c.checksum_in.ensures.bytes;
      valid = c.sectors_of-sectors.ensures.valid;
      fields = fields;
      own = ap (λ (s : Sb). Some s) (c.with_checksum.ensures ∙ ap (λ (n : ℕ). record c.args.sb.now { sb_csum = n }) (c.checksum_in.ensures.checksum ∙ ap (λ (s : Sb). s.sb_csum) fields) ∙ sym fields);
    }
