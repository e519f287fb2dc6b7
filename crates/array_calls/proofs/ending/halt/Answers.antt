use Rattle.std.proofs.Common.{◌≡◌, ℕ, List, [], ◌∷◌, ◌++◌, length, refl, sym, ◌∙◌, ap, subst, arith}
use Rattle.std.specs.Prelude.{vec_capacity}
use Rattle.array_type.specs.sb_specs_Reading.{Scope}
use Rattle.array_type.specs.history_the_Entry.{Entry}
use Rattle.array_type.specs.history_the_Event_TheVariants.{Halted}
use Rattle.array_type.specs.history_Flat.{next_number}
use Rattle.array_type.specs.history_Growing.{EndBy}
use Rattle.array_type.specs.history_Plain.{entries_of}
use Rattle.array_type.proofs.array_members_MovedLaws.{grows-none}
use Rattle.array_type.specs.array_call_specs_Kept.{scope_in}
use Rattle.array_type.proofs.array_call_specs_ReadyLaws.{scope-same}
use Rattle.array_type.proofs.history_invariant_Records.{begins-going}
use Rattle.array_type.specs.array_fixed_invariant_Still.{IsStill}
use Rattle.array_type.specs.array_specs_Parts.{still_left, left_in}
use Rattle.array_type.specs.array_fixed_laws_Ready.{IsReady}
use Rattle.array_type.proofs.array_specs_Lengths.{alone-keeps}
use Rattle.array_type.proofs.array_fixed_laws_Asking.{halted-stands, epoch-kept}
use Rattle.array_type.proofs.array_fixed_laws_Kept.{ready, plainly-more, rows-same}
use Rattle.array_type.proofs.array_fixed_laws_Plain.{plain-epoch}
use Rattle.array_type.proofs.array_fixed_laws_PlainBehind.{halted-plain}
use Rattle.array_type.specs.array_members_Numbers.{bears}
use Rattle.array_type.specs.array_reshaping_invariant_Moving.{IsMoving}
use Rattle.array_type.specs.array_reshaping_laws_Ready.{bytes_in}
use Rattle.array_type.proofs.array_reshaping_laws_Asking.{halted-moves, epoch-kept as r-epoch-kept}
use Rattle.array_type.proofs.array_specs_Called.{alone-lossless}
use Rattle.array_type.proofs.Rest.{on-both}
use Rattle.array_type.specs.sb_specs_Reading.{is_reshaping}
use Rattle.array_calls.proofs.ending.halt.Goals as goal

pub returns-clause-right : goal.returns-clause-right
returns-clause-right g c =
    on-both (is_reshaping c.array.inside.members.newest)
    (λ active. let a = c.array.inside in
    let epoch = c.append_entry.new.epoch in
    let given = g.B.Bank.given a.bank in
    let tape = g.B.Bank.tape a.bank in
    let buffer = bytes_in a.course.window a.window.items in
    let left = left_in a.work a.members a.course a.ahead in
    let number : c.args.who.number ≡ next_number c.args.who.caller a.epoch.entries.items = c.requires.next ∙ ap (λ p. next_number c.args.who.caller p.parts.entries) (sym c.array.view_is) in
    let kept = halted-moves c.args.who c.ops-end.result (c.array.invariant.moves active).1.kept number c.requires.caller c.ops-end.ensures.count in
    let same =
    subst (λ (l : List Entry). IsMoving g.B.Bank.tells given tape (scope_in given epoch.uuid epoch.given a.backup) epoch.first l a.members (bears a.work) a.work.resync a.course buffer left) (sym c.append_entry.ensures.items)
    (subst (λ (n : ℕ). IsMoving g.B.Bank.tells given tape (scope_in given epoch.uuid epoch.given a.backup) n (a.epoch.entries.items ++ entries_of c.args.who c.ops-end.result (Halted ∷ [])) a.members (bears a.work) a.work.resync a.course buffer left) (sym c.append_entry.ensures.first)
    (subst (λ (s : Scope). IsMoving g.B.Bank.tells given tape s a.epoch.first (a.epoch.entries.items ++ entries_of c.args.who c.ops-end.result (Halted ∷ [])) a.members (bears a.work) a.work.resync a.course buffer left)
    (sym (scope-same given a.backup refl c.append_entry.ensures.uuid c.append_entry.ensures.given)) kept)) in
    rw (← c.array.view_is) (λ t right. r-epoch-kept given tape a.backup epoch same t (c.append_entry.ensures.last ∙ c.ops-end.ensures.count t) right))
    (λ still. let a = c.array.inside in
    let epoch = c.append_entry.new.epoch in
    let given = g.B.Bank.given a.bank in
    let tape = g.B.Bank.tape a.bank in
    let left = still_left a.work a.members a.ahead in
    let number : c.args.who.number ≡ next_number c.args.who.caller a.epoch.entries.items = c.requires.next ∙ ap (λ p. next_number c.args.who.caller p.parts.entries) (sym c.array.view_is) in
    let kept = halted-stands c.args.who c.ops-end.result (c.array.invariant.rests still).1.kept number c.requires.caller c.ops-end.ensures.count in
    let same =
    subst (λ (l : List Entry). IsStill g.B.Bank.tells given tape (scope_in given epoch.uuid epoch.given a.backup) epoch.first l a.members a.work left) (sym c.append_entry.ensures.items)
    (subst (λ (n : ℕ). IsStill g.B.Bank.tells given tape (scope_in given epoch.uuid epoch.given a.backup) n (a.epoch.entries.items ++ entries_of c.args.who c.ops-end.result (Halted ∷ [])) a.members a.work left) (sym c.append_entry.ensures.first)
    (subst (λ (s : Scope). IsStill g.B.Bank.tells given tape s a.epoch.first (a.epoch.entries.items ++ entries_of c.args.who c.ops-end.result (Halted ∷ [])) a.members a.work left)
    (sym (scope-same given a.backup refl c.append_entry.ensures.uuid c.append_entry.ensures.given)) kept)) in
    rw (← c.array.view_is) (λ t right. epoch-kept given tape a.backup epoch same t (c.append_entry.ensures.last ∙ c.ops-end.ensures.count t) right))

pub returns-clause-listed : goal.returns-clause-listed
returns-clause-listed g c =
    λ when. rw (← c.array.view_is) (c.array.invariant.rests (ap (λ p. is_reshaping p.parts.members.newest) c.array.view_is ∙ when)).1.kept.listed

pub returns-clause-ends : goal.returns-clause-ends
returns-clause-ends g c =
    on-both (is_reshaping c.array.inside.members.newest)
    (λ active. let a = c.array.inside in
    let tape = g.B.Bank.tape a.bank in
    let number : c.args.who.number ≡ next_number c.args.who.caller a.epoch.entries.items = c.requires.next ∙ ap (λ p. next_number c.args.who.caller p.parts.entries) (sym c.array.view_is) in
    let kept = halted-moves c.args.who c.ops-end.result (c.array.invariant.moves active).1.kept number c.requires.caller c.ops-end.ensures.count in
    rw (← c.array.view_is) (λ t. subst (λ (l : List Entry). EndBy (length tape) l) (sym c.append_entry.ensures.items) (kept.recorded t).ends))
    (λ still. let a = c.array.inside in
    let tape = g.B.Bank.tape a.bank in
    let number : c.args.who.number ≡ next_number c.args.who.caller a.epoch.entries.items = c.requires.next ∙ ap (λ p. next_number c.args.who.caller p.parts.entries) (sym c.array.view_is) in
    let kept = halted-stands c.args.who c.ops-end.result (c.array.invariant.rests still).1.kept number c.requires.caller c.ops-end.ensures.count in
    rw (← c.array.view_is) (λ t. subst (λ (l : List Entry). EndBy (length tape) l) (sym c.append_entry.ensures.items) (kept.recorded t).ends))

pub returns-clause-plain : goal.returns-clause-plain
returns-clause-plain g c =
    λ when. let was = (c.array.invariant.rests (ap (λ p. is_reshaping p.parts.members.newest) c.array.view_is ∙ when)).1 in
    let a = c.array.inside in
    let epoch = c.append_entry.new.epoch in
    let given = g.B.Bank.given a.bank in
    let tape = g.B.Bank.tape a.bank in
    let end = c.ops-end.result in
    let number : c.args.who.number ≡ next_number c.args.who.caller a.epoch.entries.items = c.requires.next ∙ ap (λ p. next_number c.args.who.caller p.parts.entries) (sym c.array.view_is) in
    let ended : IsReady g.B.Bank.tells given tape (scope_in given epoch.uuid epoch.given a.backup) epoch.first epoch.entries.items a.members a.work a.ahead a.limit (g.B.Bank.faults_of a.bank) 0 1
    (vec_capacity a.rows) (length a.buffer.items) (vec_capacity a.far_rows) (length a.far_buffer.items) =
    ready (entries_of c.args.who end (Halted ∷ [])) was (rows-same a.members.newest) (halted-stands c.args.who end was.kept number c.requires.caller c.ops-end.ensures.count)
    (halted-plain was c.args.who end (begins-going a.epoch.entries.items c.args.who number) c.requires.caller c.ops-end.ensures.count (grows-none (λ t. refl)))
    (λ slot. omega arith) (alone-keeps c.args.who end Halted (λ n. refl) (λ limit. refl))
    refl (scope-same given a.backup refl c.append_entry.ensures.uuid c.append_entry.ensures.given) c.append_entry.ensures.first refl c.append_entry.ensures.items (omega arith) in
    rw (← c.array.view_is) (λ t keeps. plain-epoch given tape a.backup epoch a.members (ended.plain t keeps) (ended.plainly keeps.none))

pub returns-clause-plainly : goal.returns-clause-plainly
returns-clause-plainly g c =
    λ when. let was = (c.array.invariant.rests (ap (λ p. is_reshaping p.parts.members.newest) c.array.view_is ∙ when)).1 in
    let a = c.array.inside in
    let end = c.ops-end.result in
    let number : c.args.who.number ≡ next_number c.args.who.caller a.epoch.entries.items = c.requires.next ∙ ap (λ p. next_number c.args.who.caller p.parts.entries) (sym c.array.view_is) in
    let left = halted-plain was c.args.who end (begins-going a.epoch.entries.items c.args.who number) c.requires.caller c.ops-end.ensures.count (grows-none (λ t. refl)) in
    λ none. plainly-more a.epoch.entries.items (entries_of c.args.who end (Halted ∷ [])) c.append_entry.new.epoch.entries.items c.append_entry.ensures.items was.plainly left.plainly none

pub returns-clause-entered : goal.returns-clause-entered
returns-clause-entered g c =
    rw (← c.array.view_is) (record { end = c.ops-end.result; at_end = c.ops-end.ensures.count; is = c.append_entry.ensures.items })

pub returns-clause-last : goal.returns-clause-last
returns-clause-last g c =
    λ t. c.append_entry.ensures.last ∙ c.ops-end.ensures.count t ∙ ap (λ p. length (g.B.Bank.tape p.parts.bank)) c.array.view_is

pub returns-clause-losses : goal.returns-clause-losses
returns-clause-losses g c =
    let a = c.array.inside in
    let faults = g.B.Bank.faults_of a.bank in
    rw (← c.array.view_is) (alone-lossless a.members faults faults a.epoch.entries.items a.epoch.entries.items c.append_entry.new.epoch.entries.items c.args.who c.ops-end.result Halted tt refl c.append_entry.ensures.items)

pub returns-clause-bank : goal.returns-clause-bank
returns-clause-bank g c =
    ap (λ p. p.parts.bank) c.array.view_is

pub returns-clause-given : goal.returns-clause-given
returns-clause-given g c =
    c.append_entry.ensures.given ∙ ap (λ p. p.parts.given) c.array.view_is

pub returns-clause-first : goal.returns-clause-first
returns-clause-first g c =
    c.append_entry.ensures.first ∙ ap (λ p. p.parts.first) c.array.view_is

pub check_number-requires : goal.check_number-requires
check_number-requires g c =
    c.requires.next ∙ ap (λ p. next_number c.args.who.caller p.parts.entries) (sym c.array.view_is)
