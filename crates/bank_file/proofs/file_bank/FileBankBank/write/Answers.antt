use Rattle.std.proofs.Common.{arith}
use Rattle.bank_file.proofs.Calls.{image_given, image_cause, image_written, image_did}
use Rattle.bank_file.proofs.file_bank.FileBankBank.write.Goals as goal

pub invariant_of-self : goal.invariant_of-self
invariant_of-self g c = image_written c.self.inside.images.items c.self.inside.ops c.args.slot c.index_mut.result.now c.write.new.self c.args.self.now c.self.view_is c.requires.known c.index_mut.ensures.value
    g.D.Device.start c.write.ensures.sectors c.write.ensures.start g.D.Device.bytes g.D.Device.log c.self.invariant c.write.new.number c.args.at c.args.from.now
    c.write.ensures.rises c.write.ensures.few c.requires.whole (λ i. omega (arith, c.type_inv.from i)) c.write.ensures.put c.write.ensures.logged

pub returns-clause-did : goal.returns-clause-did
returns-clause-did g c = image_did c.self.inside.images.items c.self.inside.ops c.args.slot c.index_mut.result.now c.write.new.self c.args.self.now c.self.view_is c.requires.known c.index_mut.ensures.value
    g.D.Device.start c.write.ensures.sectors c.write.ensures.start g.D.Device.bytes g.D.Device.log c.self.invariant c.write.new.number c.args.at c.args.from.now
    c.write.ensures.rises c.write.ensures.few c.requires.whole (λ i. omega (arith, c.type_inv.from i)) c.write.ensures.put c.write.ensures.logged c.write.result c.write.ensures.all

pub returns-clause-given : goal.returns-clause-given
returns-clause-given g c = image_given c.self.inside.images.items c.self.inside.ops c.args.slot c.index_mut.result.now c.write.new.self c.args.self.now c.self.view_is c.requires.known c.index_mut.ensures.value
    g.D.Device.start c.write.ensures.sectors c.write.ensures.start c.write.new.number

pub returns-clause-cause : goal.returns-clause-cause
returns-clause-cause g c = image_cause c.self.inside.images.items c.self.inside.ops c.args.slot c.index_mut.result.now c.write.new.self c.args.self.now c.self.view_is c.requires.known c.index_mut.ensures.value
    c.write.new.number c.write.result c.write.ensures.counted
