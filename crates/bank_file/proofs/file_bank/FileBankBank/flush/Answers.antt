use Rattle.bank_file.proofs.Calls.{image_given, image_cause, image_flush_kept, image_flush_did, image_flush_err}
use Rattle.bank_file.proofs.file_bank.FileBankBank.flush.Goals as goal

pub invariant_of-self : goal.invariant_of-self
invariant_of-self g c = image_flush_kept c.self.inside.images.items c.self.inside.ops c.args.slot c.index_mut.result.now c.flush.new.self c.args.self.now c.self.view_is c.requires c.index_mut.ensures.value
    g.D.Device.start c.flush.ensures.sectors c.flush.ensures.start g.D.Device.bytes g.D.Device.log c.self.invariant c.flush.new.number c.flush.result
    c.flush.ensures.done c.flush.ensures.stays c.flush.ensures.same c.flush.ensures.synced c.flush.ensures.kept

pub returns-clause-did : goal.returns-clause-did
returns-clause-did g c = image_flush_did c.self.inside.images.items c.self.inside.ops c.args.slot c.index_mut.result.now c.flush.new.self c.args.self.now c.self.view_is c.requires c.index_mut.ensures.value
    g.D.Device.start c.flush.ensures.sectors c.flush.ensures.start g.D.Device.bytes g.D.Device.log c.self.invariant c.flush.new.number c.flush.result
    c.flush.ensures.done c.flush.ensures.stays c.flush.ensures.same c.flush.ensures.synced c.flush.ensures.kept

pub returns-clause-err : goal.returns-clause-err
returns-clause-err g c = image_flush_err c.self.inside.images.items c.self.inside.ops c.args.slot c.index_mut.result.now c.flush.new.self c.args.self.now c.self.view_is c.requires c.index_mut.ensures.value
    g.D.Device.start c.flush.ensures.sectors c.flush.ensures.start g.D.Device.bytes g.D.Device.log c.self.invariant c.flush.new.number c.flush.result
    c.flush.ensures.done c.flush.ensures.stays c.flush.ensures.same c.flush.ensures.synced c.flush.ensures.kept

pub returns-clause-given : goal.returns-clause-given
returns-clause-given g c = image_given c.self.inside.images.items c.self.inside.ops c.args.slot c.index_mut.result.now c.flush.new.self c.args.self.now c.self.view_is c.requires c.index_mut.ensures.value
    g.D.Device.start c.flush.ensures.sectors c.flush.ensures.start c.flush.new.number

pub returns-clause-cause : goal.returns-clause-cause
returns-clause-cause g c = image_cause c.self.inside.images.items c.self.inside.ops c.args.slot c.index_mut.result.now c.flush.new.self c.args.self.now c.self.view_is c.requires c.index_mut.ensures.value
    c.flush.new.number c.flush.result c.flush.ensures.counted
