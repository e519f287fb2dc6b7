use Rattle.std.proofs.Common.{◌≡◌, ◌≤◌, [], ◌∷◌, None, inl, refl, sym, ap, subst, arith, ◌∙◌}
use Rattle.array_fixed_io.specs.history_the_Event_TheVariants.{Refused}
use Rattle.array_fixed_io.specs.history_Plain.{entries_of}
use Rattle.array_fixed_io.specs.array_members_Lacking.{AreTooMany}
use Rattle.array_fixed_io.proofs.array_members_MovedLaws.{grows-none}
use Rattle.array_fixed_io.specs.array_call_specs_Calls.{IsUnmendable}
use Rattle.array_fixed_io.proofs.array_call_specs_LossLaws.{ended-behind, behind-alone}
use Rattle.array_fixed_io.proofs.array_call_specs_ReadyLaws.{scope-same}
use Rattle.array_fixed_io.specs.history_invariant_Recorded.{IsCallGoing}
use Rattle.array_fixed_io.specs.array_specs_Parts.{visible_size}
use Rattle.array_fixed_io.proofs.array_specs_Called.{alone-lossless}
use Rattle.array_fixed_io.proofs.array_specs_Lengths.{alone-keeps}
use Rattle.array_fixed_io.proofs.array_fixed_laws_Kept.{ready, rows-same}
use Rattle.array_fixed_io.proofs.array_fixed_laws_Going.{still-going}
use Rattle.array_fixed_io.proofs.array_fixed_laws_StepLaws.{shapes-same, stepped, step-refused, refused-going}
use Rattle.array_fixed_io.proofs.array_fixed_laws_PlainBehind.{step-here, here-plain}
use Rattle.array_fixed_io.proofs.array_type_Alike.{alike, stays-at-rest}
use Rattle.array_fixed_io.specs.sb_specs_Reading.{is_reshaping}
use Rattle.array_fixed_sync.proofs.refusing.refuse_step.Goals as goal

pub invariant_of-still : goal.invariant_of-still
invariant_of-still g c =
    stays-at-rest (c.still.invariant.rests (ap (λ p. is_reshaping p.parts.members.newest) c.still.view_is ∙ c.requires.still)).0 (
    let was = (c.still.invariant.rests (ap (λ p. is_reshaping p.parts.members.newest) c.still.view_is ∙ c.requires.still)).1 in
    let a = c.still.inside in
    let given = g.B.Bank.given a.bank in
    let goes : IsCallGoing a.epoch.entries.items c.args.who = subst (λ p. IsCallGoing p.parts.entries c.args.who) (sym c.still.view_is) c.requires.open in
    let some : 1 ≤ a.steps = subst (λ p. 1 ≤ p.parts.steps) (sym c.still.view_is) c.requires.room in
    let unmendable : IsUnmendable a.members c.args.refusal = subst (λ p. IsUnmendable p.parts.members c.args.refusal) (sym c.still.view_is) c.requires.why in
    let many : a.work.resync ≡ None → AreTooMany a.members c.args.refusal = subst (λ p. p.parts.work.resync ≡ None → AreTooMany p.parts.members c.args.refusal) (sym c.still.view_is) c.requires.synced in
    let why = step-refused given a.members was.kept.members_are.placed c.args.refusal a.work.resync unmendable many in
    let end = c.ops-end.result in
    ready (entries_of c.args.who end (Refused c.args.refusal ∷ [])) was (rows-same a.members.newest)
    (refused-going c.args.who end c.args.refusal was.kept goes c.requires.caller c.ops-end.ensures.count why)
    (here-plain was c.args.who end goes c.requires.caller c.ops-end.ensures.count (grows-none (λ t. refl)) c.args.refusal
    (step-here given a.members was.kept.members_are.placed (visible_size a.members a.limit) c.args.refusal a.work.resync unmendable many))
    (λ slot. omega arith) (alone-keeps c.args.who end (Refused c.args.refusal) (λ n. refl) (λ limit. refl))
    refl (scope-same given a.backup refl c.append_entry.ensures.uuid c.append_entry.ensures.given) c.append_entry.ensures.first refl c.append_entry.ensures.items
    (omega (arith, c.append_entry.ensures.room, was.room_left, some)))

pub returns-clause-entered : goal.returns-clause-entered
returns-clause-entered g c =
    rw (← c.still.view_is) (behind-alone c.args.who c.ops-end.result (Refused c.args.refusal) refl c.append_entry.ensures.items)

pub returns-clause-stepped : goal.returns-clause-stepped
returns-clause-stepped g c =
    let was = (alike c.still.invariant) in
    let a = c.still.inside in
    let faults = g.B.Bank.faults_of a.bank in
    let end = c.ops-end.result in
    rw (← c.still.view_is) (stepped (grows-none (λ t. refl)) (shapes-same a.members.newest)
    (ended-behind (g.B.Bank.tape a.bank) c.append_entry.new.epoch.first a.epoch.entries.items c.args.who end [] (Refused c.args.refusal) c.append_entry.ensures.items c.ops-end.ensures.count)
    (λ role slot held. inl held)
    (alone-lossless a.members faults faults a.epoch.entries.items a.epoch.entries.items c.append_entry.new.epoch.entries.items c.args.who end (Refused c.args.refusal) tt refl c.append_entry.ensures.items)
    (λ slot. omega arith)
    (record { uuid = c.append_entry.ensures.uuid; given = c.append_entry.ensures.given; first = c.append_entry.ensures.first; backup = refl; ahead = refl; limit = refl })
    (λ t. (was.kept.recorded t).begun))

pub returns-clause-open : goal.returns-clause-open
returns-clause-open g c =
    still-going c.args.who c.ops-end.result (Refused c.args.refusal ∷ []) c.requires.open (tt, tt) (ap (λ p. p.parts.entries) c.still.view_is) c.append_entry.ensures.items

pub returns-clause-still : goal.returns-clause-still
returns-clause-still g c = (ap (λ p. is_reshaping p.parts.members.newest) c.still.view_is ∙ c.requires.still)
