use Rattle.std.proofs.Common.{length, map, sym, ◌∙◌, ap, subst}
use Rattle.bank.specs.Whole.{HasWholeSectors}
use Rattle.bank_file.specs.Images.{Files, given_of, tape_in}
use Rattle.bank_file.proofs.Tapes.{length-tape}
use Rattle.bank_file.proofs.Calls.{files_whole}
use Rattle.bank_file.proofs.file_bank.FileBankBank.ops.Goals as goal

pub returns-clause-count : goal.returns-clause-count
returns-clause-count g c told =
    sym (length-tape (map (λ image. g.D.Device.log image.device) c.self.inside.images.items) c.self.inside.ops) ∙ ap (λ (f : Files g.row.D.Denot). length (tape_in g.D.Device.log f)) c.self.view_is

pub returns-clause-whole : goal.returns-clause-whole
returns-clause-whole g c told = subst (λ (f : Files g.row.D.Denot). HasWholeSectors (given_of g.D.Device.start f) (tape_in g.D.Device.log f)) c.self.view_is
    (files_whole c.self.inside.images.items c.self.inside.ops g.D.Device.start g.D.Device.bytes g.D.Device.log c.self.invariant told)
