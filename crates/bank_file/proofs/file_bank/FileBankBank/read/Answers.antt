use Rattle.bank_file.proofs.Calls.{image_given, image_cause, image_kept, image_tape, image_read, on_ok}
use Rattle.bank_file.proofs.file_bank.FileBankBank.read.Goals as goal

pub invariant_of-self : goal.invariant_of-self
invariant_of-self g c = image_kept c.self.inside.images.items c.self.inside.ops c.args.slot c.index_mut.result.now c.read.new.self c.args.self.now c.self.view_is c.requires.known c.index_mut.ensures.value
    g.D.Device.start c.read.ensures.sectors c.read.ensures.start g.D.Device.bytes g.D.Device.log c.self.invariant c.read.ensures.same c.read.ensures.kept

pub returns-clause-ok : goal.returns-clause-ok
returns-clause-ok g c = on_ok c.read.result c.read.ensures.ok (image_read c.self.inside.images.items c.self.inside.ops c.args.slot c.index_mut.result.now c.read.new.self c.args.self.now c.self.view_is c.requires.known c.index_mut.ensures.value
    g.D.Device.start c.read.ensures.sectors c.read.ensures.start g.D.Device.bytes g.D.Device.log c.self.invariant c.args.at _ c.read.new.into c.read.auto.into)

pub returns-clause-tape : goal.returns-clause-tape
returns-clause-tape g c = image_tape c.self.inside.images.items c.self.inside.ops c.args.slot c.index_mut.result.now c.read.new.self c.args.self.now c.self.view_is c.requires.known c.index_mut.ensures.value
    g.D.Device.start c.read.ensures.sectors c.read.ensures.start g.D.Device.bytes g.D.Device.log c.self.invariant c.read.ensures.kept

pub returns-clause-given : goal.returns-clause-given
returns-clause-given g c = image_given c.self.inside.images.items c.self.inside.ops c.args.slot c.index_mut.result.now c.read.new.self c.args.self.now c.self.view_is c.requires.known c.index_mut.ensures.value
    g.D.Device.start c.read.ensures.sectors c.read.ensures.start c.self.inside.ops

pub returns-clause-cause : goal.returns-clause-cause
returns-clause-cause g c = image_cause c.self.inside.images.items c.self.inside.ops c.args.slot c.index_mut.result.now c.read.new.self c.args.self.now c.self.view_is c.requires.known c.index_mut.ensures.value
    c.self.inside.ops c.read.result c.read.ensures.counted
