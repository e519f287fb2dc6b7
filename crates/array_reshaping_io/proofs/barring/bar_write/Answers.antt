use Rattle.std.proofs.Common.{◌≡◌, ◌+◌, ◌/◌, List, [], length, refl, sym, ◌∙◌, ap, subst, arith, append-nil, inl}
use Rattle.std.proofs.lemmas.List.Elements.{All-nil}
use Rattle.array_reshaping_steps.specs.raid_types_Sectors.{sectors_of}
use Rattle.array_reshaping_steps.proofs.raid_types_SectorLaws.{length-sectors_of}
use Rattle.array_reshaping_steps.specs.sb_specs_Reading.{list_length, is_reshaping}
use Rattle.array_reshaping_steps.specs.history_the_Entry.{Entry}
use Rattle.array_reshaping_steps.specs.history_Flat.{length_of, limit_of}
use Rattle.array_reshaping_steps.specs.history_Transfers.{last_end_from}
use Rattle.array_reshaping_steps.specs.array_members_Rebuilding.{Held}
use Rattle.array_reshaping_steps.proofs.array_members_MovedLaws.{grows-none, moved-same}
use Rattle.array_reshaping_steps.specs.array_call_specs_Calls.{IsLossBy, WasSpare}
use Rattle.array_reshaping_steps.specs.stripe_region_resync_Resyncs.{relied_sector}
use Rattle.array_reshaping_steps.specs.array_specs_Parts.{left_in}
use Rattle.array_reshaping_steps.proofs.array_specs_Called.{called}
use Rattle.array_reshaping_steps.specs.array_reshaping_laws_Writing.{IsRefusedAlone, TouchesUnsure}
use Rattle.array_reshaping_steps.proofs.array_reshaping_laws_Kept.{roomier}
use Rattle.array_reshaping_steps.proofs.array_reshaping_laws_WriteLaws.{called-roomed, roomed}
use Rattle.array_reshaping_steps.proofs.array_reshaping_laws_BarredLaws.{barred-entered, barred-replied}
use Rattle.array_reshaping_steps.specs.raid_types_the_Fault_TheVariants.{NoMemory}
use Rattle.array_reshaping_steps.proofs.array_reshaping_laws_FirstLaws.{first-short}
use Rattle.array_reshaping_steps.specs.array_members_Lacking.{HaveRolesFailed}
use Rattle.array_reshaping_steps.proofs.array_type_ReshapingCalls.{two-of-101}
use Rattle.array_reshaping_steps.proofs.array_type_Alike.{alike, goes-on}
use Rattle.array_reshaping_io.proofs.barring.bar_write.Goals as goal

-- ---- memory is short

pub invariant_of-moving : goal.invariant_of-moving
invariant_of-moving g c =
    goes-on (c.moving.invariant.moves (ap (λ p. is_reshaping p.parts.members.newest) c.moving.view_is ∙ c.requires.active)).0 (roomier (c.moving.invariant.moves (ap (λ p. is_reshaping p.parts.members.newest) c.moving.view_is ∙ c.requires.active)).1 c.make_room.ensures.items c.make_room.ensures.keeps)

pub returns-in-Err-clause-called : goal.returns-in-Err-clause-called
returns-in-Err-clause-called g c =
    let was = (alike c.moving.invariant) in
    let a = c.moving.inside in
    let given = g.B.Bank.given a.bank in
    let faults = g.B.Bank.faults_of a.bank in
    rw (← c.moving.view_is) (called (grows-none (λ t. refl)) (moved-same given given a.members a.members refl refl was.kept.members_are.placed was.kept.members_are.unlost)
    (λ t. ap (λ (l : List Entry). last_end_from a.epoch.first l) c.make_room.ensures.items ∙ (was.kept.recorded t).ended)
    (record { more = []; grown = c.make_room.ensures.items ∙ sym (append-nil a.epoch.entries.items); failed = All-nil (λ e. IsLossBy (Held a.members) (WasSpare a.members) faults faults e.event) })
    (λ slot. omega arith)
    (record { uuid = refl; given = refl; first = refl; backup = refl; work = refl; ahead = refl; limit = refl })
    (λ t. (was.kept.recorded t).begun))

-- ---- there is room

pub returns-clause-called : goal.returns-clause-called
returns-clause-called g c =
    rw (← c.moving.view_is) (called-roomed _ c.refuse_write.new.moving _ 2 c.make_room.ensures.items c.refuse_write.ensures.called)

pub returns-clause-entered : goal.returns-clause-entered
returns-clause-entered g c =
    let old = c.args.moving.now in
    let new = c.refuse_write.new.moving in
    barred-entered old.course.window c.args.at (c.args.at + length c.args.from.now / 512) (sectors_of c.args.from.now) c.args.who old.parts.entries c.make_room.new.self.items new.parts.entries
    (left_in new.parts.work new.parts.members new.course new.ahead) c.refuse_write.result (c.make_room.ensures.items ∙ ap (λ p. p.parts.entries) c.moving.view_is) c.refuse_write.ensures.alone

pub returns-clause-caused : goal.returns-clause-caused
returns-clause-caused g c = rw (← c.moving.view_is) c.refuse_write.ensures.caused

pub returns-clause-replied : goal.returns-clause-replied
returns-clause-replied g c =
    let old = c.args.moving.now in
    let new = c.refuse_write.new.moving in
    let at = c.args.at in
    let long = length-sectors_of c.args.from.now in
    let sized = subst (λ p. length_of (list_length p.parts.members.newest) p.parts.entries ≡ list_length p.parts.members.newest) c.moving.view_is (alike c.moving.invariant).sized in
    let limited = subst (λ p. limit_of p.parts.entries ≡ p.limit) c.moving.view_is (alike c.moving.invariant).limited in
    barred-replied old.course.window (list_length old.parts.members.newest) old.limit (relied_sector old.parts.members.newest old.parts.work.resync) at (at + length c.args.from.now / 512) (sectors_of c.args.from.now) c.args.who
    old.parts.entries new.parts.entries old.parts.members new.parts.members (left_in new.parts.work new.parts.members new.course new.ahead) (omega (arith, long)) c.requires.next sized limited c.refuse_write.result
    (subst (λ (l : List Entry). IsRefusedAlone c.args.who l new.parts.entries c.refuse_write.result) (c.make_room.ensures.items ∙ ap (λ p. p.parts.entries) c.moving.view_is) c.refuse_write.ensures.alone)
    (returns-clause-caused g c)

-- ---- which refusal is the first

pub returns-in-Err-clause-first : goal.returns-in-Err-clause-first
returns-in-Err-clause-first g c = first-short _ _ NoMemory refl

pub returns-clause-first : goal.returns-clause-first
returns-clause-first g c = rw (← c.moving.view_is) c.refuse_write.ensures.first

-- ---- by what stands above

pub invariant_of-moving-2 : goal.invariant_of-moving-2
invariant_of-moving-2 g c =
    goes-on (c.moving.invariant.moves (ap (λ p. is_reshaping p.parts.members.newest) c.moving.view_is ∙ c.requires.active)).0 (roomed c.make_room.ensures.items (two-of-101 c.in-Ok.ensures.ok) (c.moving.invariant.moves (ap (λ p. is_reshaping p.parts.members.newest) c.moving.view_is ∙ c.requires.active)).1)

pub returns-clause-backup : goal.returns-clause-backup
returns-clause-backup g c = rw (← c.moving.view_is) c.refuse_write.ensures.backup

pub refuse_write-requires-clause-touches : goal.refuse_write-requires-clause-touches
refuse_write-requires-clause-touches g c =
    subst (λ p. TouchesUnsure p.course.window c.args.at (c.args.at + length c.args.from.now / 512)) (sym c.moving.view_is) c.requires.touches

pub returns-in-Err-clause-unchanged : goal.returns-in-Err-clause-unchanged
returns-in-Err-clause-unchanged g c =
    let a = c.moving.inside in
    (λ i. record {
      parts = record { bank = a.bank; uuid = a.epoch.uuid; given = a.epoch.given; first = a.epoch.first; last = a.epoch.last; entries = c.make_room.ensures.items i; backup = a.backup; members = a.members; work = a.work; steps = a.steps };
      course = a.course;
      ahead = a.ahead;
      limit = a.limit;
    }) ∙ c.moving.view_is

pub returns-in-Err-clause-caused : goal.returns-in-Err-clause-caused
returns-in-Err-clause-caused g c = ap (λ p. p.parts.members) c.moving.view_is

pub returns-in-Err-clause-replied : goal.returns-in-Err-clause-replied
returns-in-Err-clause-replied g c = c.make_room.ensures.items ∙ ap (λ p. p.parts.entries) c.moving.view_is

pub returns-in-Err-clause-entered : goal.returns-in-Err-clause-entered
returns-in-Err-clause-entered g c = c.make_room.ensures.items ∙ ap (λ p. p.parts.entries) c.moving.view_is

pub returns-in-Err-clause-failed : goal.returns-in-Err-clause-failed
returns-in-Err-clause-failed g c =
    subst (λ p. HaveRolesFailed p.parts.members c.moving.inside.members (g.B.Bank.faults_of p.parts.bank) (g.B.Bank.faults_of c.moving.inside.bank)) c.moving.view_is (λ role slot held. inl held)

pub returns-in-Err-clause-active : goal.returns-in-Err-clause-active
returns-in-Err-clause-active g c = ap (λ p. is_reshaping p.parts.members.newest) c.moving.view_is ∙ c.requires.active

pub returns-clause-active : goal.returns-clause-active
returns-clause-active g c = c.refuse_write.ensures.active

pub refuse_write-requires-clause-active : goal.refuse_write-requires-clause-active
refuse_write-requires-clause-active g c = ap (λ p. is_reshaping p.parts.members.newest) c.moving.view_is ∙ c.requires.active
