use Rattle.std.proofs.Common.{◌≡◌, ◌+◌, ◌/◌, true, false, Option, length, sym, ◌∙◌, subst}
use Rattle.array_reshaping_steps.specs.raid_types_Sectors.{sectors_of}
use Rattle.array_reshaping_steps.specs.raid_types_the_Span.{Span}
use Rattle.array_reshaping_steps.specs.sb_specs_Reading.{list_length}
use Rattle.array_reshaping_steps.specs.history_Stands.{covers}
use Rattle.array_reshaping_steps.specs.array_reshaping_state_Due.{unsure_in}
use Rattle.array_reshaping_steps.specs.stripe_region_resync_Resyncs.{relied_sector}
use Rattle.array_reshaping_steps.specs.array_specs_Parts.{visible_in}
use Rattle.array_reshaping_steps.specs.array_reshaping_laws_Writing.{TouchesUnsure}
use Rattle.array_reshaping_steps.proofs.array_reshaping_laws_BarredLaws.{sure-caused, sure-replied, sure-never, err-ok}
use Rattle.array_reshaping_io.proofs.writing.write.Goals as goal

-- ---- some sectors lie in an unsure window

pub bar_write-requires-clause-touches : goal.bar_write-requires-clause-touches
bar_write-requires-clause-touches g c =
    let met = c.meets.ensures.yes c.if-meets.true in
    subst (λ p. TouchesUnsure p.course.window c.args.at (c.args.at + length c.args.from.now / 512)) c.moving.view_is
    (met.0, met.1, met.2, subst (λ (s : Option Span). covers s met.0 ≡ true) c.uncertain_span.ensures met.3)

pub returns-then-meets-clause-dirty : goal.returns-then-meets-clause-dirty
returns-then-meets-clause-dirty g c = err-ok _ c.bar_write.result c.bar_write.ensures.refused

pub returns-then-meets-clause-closed : goal.returns-then-meets-clause-closed
returns-then-meets-clause-closed g c = err-ok _ c.bar_write.result c.bar_write.ensures.refused

-- ---- none does

pub write_sure-requires-clause-sure : goal.write_sure-requires-clause-sure
write_sure-requires-clause-sure g c =
    λ x low high.
    subst (λ p. covers (unsure_in p.course.window) x ≡ false) c.moving.view_is (subst (λ (s : Option Span). covers s x ≡ false) c.uncertain_span.ensures (c.meets.ensures.no c.if-meets.false x low high))

pub returns-clause-caused : goal.returns-clause-caused
returns-clause-caused g c =
    let old = c.args.moving.now in
    let to = c.args.at + length c.args.from.now / 512 in
    sure-caused old.course.window (visible_in old) (relied_sector old.parts.members.newest old.parts.work.resync) c.args.at to old.parts.members c.write_sure.new.moving.parts.members c.write_sure.result
    (λ touched.
    let no = subst (λ p. covers (unsure_in p.course.window) touched.0 ≡ false) c.moving.view_is
    (subst (λ (s : Option Span). covers s touched.0 ≡ false) c.uncertain_span.ensures (c.meets.ensures.no c.if-meets.false touched.0 touched.1 touched.2)) in
    let both : true ≡ false = sym touched.3 ∙ no in cc)
    c.write_sure.ensures.caused

pub returns-clause-answered : goal.returns-clause-answered
returns-clause-answered g c =
    let old = c.args.moving.now in
    let new = c.write_sure.new.moving in
    let to = c.args.at + length c.args.from.now / 512 in
    sure-replied old.course.window (list_length old.parts.members.newest) (visible_in old) (relied_sector old.parts.members.newest old.parts.work.resync) c.args.at to (sectors_of c.args.from.now) c.args.who old.parts.entries new.parts.entries
    old.parts.members new.parts.members c.write_sure.result c.write_sure.ensures.caused c.write_sure.ensures.answered

pub returns-clause-backup : goal.returns-clause-backup
returns-clause-backup g c =
    λ is.
    let old = c.args.moving.now in
    let to = c.args.at + length c.args.from.now / 512 in
    sure-never old.course.window (visible_in old) (relied_sector old.parts.members.newest old.parts.work.resync) c.args.at to old.parts.members c.write_sure.new.moving.parts.members c.write_sure.result
    c.write_sure.ensures.caused is

pub returns-then-meets-clause-active : goal.returns-then-meets-clause-active
returns-then-meets-clause-active g c = c.bar_write.ensures.active

pub returns-clause-active : goal.returns-clause-active
returns-clause-active g c = c.write_sure.ensures.active
