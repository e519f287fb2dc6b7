-- Where each image is read as a view that is right, each that assembles is sound.
use Rattle.std.proofs.Common.{Option, sym, subst}
use Rattle.std.specs.Prelude.{IfSome}
use Rattle.crash_safety_laws.specs.bank_Tape.{IsDrawn}
use Rattle.crash_safety_laws.proofs.bank_Images.{image-drawn}
use Rattle.crash_safety_laws.specs.sb_specs_Reading.{Reading}
use Rattle.crash_safety_laws.specs.history_Opened.{IsSound}
use Rattle.crash_safety_laws.specs.history_Sound.{OpensFit}
use Rattle.crash_safety_laws.proofs.crash_views_SoundViews.{right-views-sound}
use Rattle.crash_reshape_laws.specs.LeftSound.{ViewsLeaveSound}

pub views-leave-sound : ViewsLeaveSound
views-leave-sound world given mark d in_time within premise seen c image assembles =
    let drawn : IsDrawn d c = λ s k. within s k (c s k) (image-drawn world.start world.tape mark c in_time image s k) in
    let by = seen c drawn in
    let read = by.1 in
    subst (λ (o : Option Reading). IfSome o (IsSound world.scope c)) (sym read.is)
    (right-views-sound (OpensFit world) world.scope given by.0 read.view d c read.found premise drawn read.is read.same read.right assembles)
