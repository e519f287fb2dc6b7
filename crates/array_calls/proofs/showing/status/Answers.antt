use Rattle.std.proofs.Common.{◌≡◌, ◌∷◌, ◌++◌, [], List, length, refl, sym, ◌∙◌, ap, ap₂, subst, arith, ◌≤◌, ℕ, ◌<◌}
use Rattle.array_type.specs.raid_types_the_Status.{Status}
use Rattle.array_type.proofs.sb_specs_ValidFields.{few-roles}
use Rattle.array_type.specs.history_Flat.{next_number}
use Rattle.array_type.specs.history_Plain.{entries_of}
use Rattle.array_type.specs.history_the_Entry.{Entry}
use Rattle.array_type.specs.history_the_Event_TheVariants.{Shown}
use Rattle.array_type.proofs.array_call_specs_LossLaws.{ended-behind}
use Rattle.array_type.proofs.array_call_specs_ReadyLaws.{scope-same, list-same}
use Rattle.array_type.specs.array_specs_Parts.{still_left, RunningParts, left_in}
use Rattle.array_type.proofs.array_specs_Lengths.{alone-keeps}
use Rattle.array_type.proofs.array_fixed_laws_Kept.{ready, rows-same, roomier}
use Rattle.array_type.proofs.array_fixed_laws_Asking.{shown-stands}
use Rattle.array_type.proofs.array_members_MovedLaws.{grows-none}
use Rattle.array_type.proofs.history_invariant_Records.{begins-going}
use Rattle.array_type.proofs.array_fixed_laws_PlainBehind.{shown-plain}
use Rattle.array_type.specs.history_Transfers.{last_end_from}
use Rattle.array_type.specs.bank_Given.{Given}
use Rattle.array_type.specs.bank_the_Operation.{Operation}
use Rattle.array_type.specs.array_call_specs_Calls.{IsEndOf}
use Rattle.array_type.specs.array_call_specs_Kept.{scope_in}
use Rattle.array_type.specs.array_specs_Calls.{moving_world, IsSameReshape}
use Rattle.array_type.proofs.array_fixed_laws_StepLaws.{IsSameEpoch}
use Rattle.array_type.specs.sb_specs_Reading.{is_backward, shape_of, final_shape}
use Rattle.array_type.specs.sb_specs_the_Members.{Members}
use Rattle.array_type.proofs.Asked.{entries-alike}
use Rattle.array_type.proofs.array_reshaping_laws_Kept.{ready as r-ready, roomier as r-roomier, shapes-same}
use Rattle.array_type.proofs.array_reshaping_laws_Asking.{shown-moves}
use Rattle.array_calls.proofs.Shown.{shown-same, shown-alike, shown-at-rest, shown-in-reshape}
use Rattle.array_type.proofs.Rest.{on-both}
use Rattle.array_type.proofs.Alike.{alike, goes-on, stays-at-rest}
use Rattle.array_type.specs.sb_specs_Reading.{is_reshaping}
use Rattle.array_calls.proofs.showing.status.Goals as goal

-- the epoch goes on, with the same members on the same bank
still-same : {B : Type 0} {tells : Type 0} (given : Given) (tape : List Operation) {old new : RunningParts B} → IsSameEpoch old new → new.parts.members ≡ old.parts.members → (tells → old.parts.first ≤ length tape)
    → IsSameReshape tells old new (moving_world given tape old) (moving_world given tape new)
still-same given tape {old = old} epoch members begun = record {
  array = record {
    uuid = epoch.uuid;
    given = epoch.given;
    first = epoch.first;
    backup = epoch.backup;
    shape = ap (λ (m : Members). shape_of m.newest) members;
    size = ap (λ (m : Members). m.newest.size) members;
    list = list-same given (scope_in given old.parts.uuid old.parts.given old.parts.backup) old.parts.first refl
        (λ i. scope_in given (epoch.uuid i) (epoch.given i) (epoch.backup i)) epoch.first (grows-none (λ t. refl)) begun;
  };
  final = ap (λ (m : Members). final_shape m.newest) members;
  backward = ap (λ (m : Members). is_backward m.newest) members;
  ahead = epoch.ahead;
  limit = epoch.limit;
}

room-first : (room : ℕ) → 2 ≤ room → 0 < room
room-first room left = omega (arith, left)

pub invariant_of-array : goal.invariant_of-array
invariant_of-array g c =
    on-both (is_reshaping c.array.inside.members.newest)
    (λ active. goes-on (c.array.invariant.moves active).0 (r-roomier (c.array.invariant.moves active).1 c.make_room.ensures.items c.make_room.ensures.keeps))
    (λ still. stays-at-rest (c.array.invariant.rests still).0 (roomier (c.array.invariant.rests still).1 c.make_room.ensures.items c.make_room.ensures.keeps))

pub invariant_of-array-2 : goal.invariant_of-array-2
invariant_of-array-2 g c =
    on-both (is_reshaping c.array.inside.members.newest)
    (λ active. goes-on (c.array.invariant.moves active).0 (
    let was = (c.array.invariant.moves active).1 in
    let a = c.array.inside in
    let given = g.B.Bank.given a.bank in
    let number : c.args.who.number ≡ next_number c.args.who.caller a.epoch.entries.items = c.requires.next ∙ ap (λ p. next_number c.args.who.caller p.parts.entries) (sym c.array.view_is) in
    let steps : c.in-Ok.shown.left ≡ left_in a.work a.members a.course a.ahead = (shown-in-reshape (ap (λ p. is_reshaping p.parts.members.newest) (sym c.array.view_is) ∙ active) c.in-Ok.ensures).left ∙ ap (λ p. left_in p.parts.work p.parts.members p.course p.ahead) (sym c.array.view_is) in
    r-ready (entries_of c.args.who c.ops-end.result (Shown c.in-Ok.shown ∷ [])) was (grows-none (λ t. refl)) (shapes-same a.members.newest)
    (shown-moves c.args.who c.ops-end.result was.kept number c.requires.caller c.ops-end.ensures.count c.in-Ok.shown steps)
    refl (λ slot. omega arith) (alone-keeps c.args.who c.ops-end.result (Shown c.in-Ok.shown) (λ n. refl) (λ limit. refl)) (λ none whole. whole) refl (scope-same given a.backup refl c.append_entry.ensures.uuid c.append_entry.ensures.given) c.append_entry.ensures.first c.make_room.ensures.items c.append_entry.ensures.items
    (omega (arith, c.append_entry.ensures.room, c.in-Ok-make_room.ensures.ok))))
    (λ still. stays-at-rest (c.array.invariant.rests still).0 (
    let was = (c.array.invariant.rests still).1 in
    let a = c.array.inside in
    let given = g.B.Bank.given a.bank in
    let number : c.args.who.number ≡ next_number c.args.who.caller a.epoch.entries.items = c.requires.next ∙ ap (λ p. next_number c.args.who.caller p.parts.entries) (sym c.array.view_is) in
    let steps : c.in-Ok.shown.left ≡ still_left a.work a.members a.ahead = (shown-at-rest (ap (λ p. is_reshaping p.parts.members.newest) (sym c.array.view_is) ∙ still) c.in-Ok.ensures).left ∙ ap (λ p. still_left p.parts.work p.parts.members p.ahead) (sym c.array.view_is) in
    ready (entries_of c.args.who c.ops-end.result (Shown c.in-Ok.shown ∷ [])) was (rows-same a.members.newest)
    (shown-stands c.args.who c.ops-end.result was.kept number c.requires.caller c.ops-end.ensures.count c.in-Ok.shown steps)
    (shown-plain was c.args.who c.ops-end.result (begins-going a.epoch.entries.items c.args.who number) c.requires.caller c.ops-end.ensures.count (grows-none (λ t. refl)) c.in-Ok.shown steps
    ((shown-at-rest (ap (λ p. is_reshaping p.parts.members.newest) (sym c.array.view_is) ∙ still) c.in-Ok.ensures).spares ∙ ap (λ p. p.parts.members.spares) (sym c.array.view_is)))
    (λ slot. omega arith) (alone-keeps c.args.who c.ops-end.result (Shown c.in-Ok.shown) (λ n. refl) (λ limit. refl))
    refl (scope-same given a.backup refl c.append_entry.ensures.uuid c.append_entry.ensures.given) c.append_entry.ensures.first c.make_room.ensures.items c.append_entry.ensures.items
    (omega (arith, c.append_entry.ensures.room, c.in-Ok-make_room.ensures.ok))))

pub returns-clause-ended : goal.returns-clause-ended
returns-clause-ended g c =
    ended-behind (g.B.Bank.tape c.array.inside.bank) c.append_entry.new.epoch.first c.make_room.new.self.items c.args.who c.ops-end.result [] (Shown c.in-Ok.shown) c.append_entry.ensures.items c.ops-end.ensures.count

pub returns-clause-entered : goal.returns-clause-entered
returns-clause-entered g c =
    let same : c.in-Ok.shown ≡ c.in-Ok-told.status = shown-same c.args.array.now c.in-Ok.shown c.in-Ok-told.status c.in-Ok.ensures c.in-Ok-told.ensures in
    rw (← c.array.view_is) (record {
      end = c.ops-end.result;
      at_end = c.ops-end.ensures.count;
      is = c.append_entry.ensures.items ∙ ap₂ (λ (l : List Entry) (s : Status). l ++ entries_of c.args.who c.ops-end.result (Shown s ∷ [])) c.make_room.ensures.items same;
    })

pub returns-clause-few : goal.returns-clause-few
returns-clause-few g c =
    let told = shown-alike c.in-Ok-told.ensures in
    let are = (alike c.array.invariant).kept.members_are in
    let roles = told.roles ∙ ap (λ p. p.parts.members.roles) (sym c.array.view_is) in
    let spares = told.spares ∙ ap (λ p. p.parts.members.spares) (sym c.array.view_is) in
    let most = few-roles c.array.inside.members.newest are.placed.fit.valid in (
      omega (arith, ap length roles, are.placed.roles, most),
      omega (arith, ap length spares, are.spares),
    )

-- ---- nothing was done

pub returns-in-Err-make_room-clause-same : goal.returns-in-Err-make_room-clause-same
returns-in-Err-make_room-clause-same g c =
    rw (← c.array.view_is) (still-same (g.B.Bank.given c.array.inside.bank) (g.B.Bank.tape c.array.inside.bank) (record { uuid = refl; given = refl; first = refl; backup = refl; ahead = refl; limit = refl }) refl (λ t. ((alike c.array.invariant).kept.recorded t).begun))

pub returns-clause-same : goal.returns-clause-same
returns-clause-same g c =
    rw (← c.array.view_is) (still-same (g.B.Bank.given c.array.inside.bank) (g.B.Bank.tape c.array.inside.bank) (record { uuid = c.append_entry.ensures.uuid; given = c.append_entry.ensures.given; first = c.append_entry.ensures.first; backup = refl; ahead = refl; limit = refl }) refl (λ t. ((alike c.array.invariant).kept.recorded t).begun))

pub returns-in-Err-make_room-clause-unchanged : goal.returns-in-Err-make_room-clause-unchanged
returns-in-Err-make_room-clause-unchanged g c =
    entries-alike c.make_room.new.self.items c.array.view_is c.make_room.ensures.items

pub returns-in-Err-make_room-clause-ended : goal.returns-in-Err-make_room-clause-ended
returns-in-Err-make_room-clause-ended g c =
    λ t. ap (λ (l : List Entry). last_end_from c.array.inside.epoch.first l) c.make_room.ensures.items ∙ ((alike c.array.invariant).kept.recorded t).ended

pub returns-in-Err-make_room-clause-members : goal.returns-in-Err-make_room-clause-members
returns-in-Err-make_room-clause-members g c =
    ap (λ p. p.parts.members) c.array.view_is

pub returns-in-Err-make_room-clause-bank : goal.returns-in-Err-make_room-clause-bank
returns-in-Err-make_room-clause-bank g c =
    ap (λ p. p.parts.bank) c.array.view_is

pub returns-in-Err-make_room-clause-work : goal.returns-in-Err-make_room-clause-work
returns-in-Err-make_room-clause-work g c =
    ap (λ p. p.parts.work) c.array.view_is

pub check_number-requires : goal.check_number-requires
check_number-requires g c =
    c.requires.next ∙ ap (λ p. next_number c.args.who.caller p.parts.entries) (sym c.array.view_is) ∙ ap (λ (l : List Entry). next_number c.args.who.caller l) (sym c.make_room.ensures.items)

pub append_entry-requires-clause-number : goal.append_entry-requires-clause-number
append_entry-requires-clause-number g c =
    c.check_number.ensures

pub returns-in-Err-clause-ended : goal.returns-in-Err-clause-ended
returns-in-Err-clause-ended g c =
    subst (λ p. IsEndOf g.B.Bank.tells p.parts.first p.parts.entries (g.B.Bank.tape p.parts.bank)) c.array.view_is (λ t. ((alike c.array.invariant).kept.recorded t).ended)

pub returns-in-Err-told-clause-ended : goal.returns-in-Err-told-clause-ended
returns-in-Err-told-clause-ended g c =
    subst (λ p. IsEndOf g.B.Bank.tells p.parts.first p.parts.entries (g.B.Bank.tape p.parts.bank)) c.array.view_is (λ t. ((alike c.array.invariant).kept.recorded t).ended)

pub append_entry-requires-clause-room : goal.append_entry-requires-clause-room
append_entry-requires-clause-room g c =
    room-first c.make_room.new.self.room c.in-Ok-make_room.ensures.ok

-- ---- what stays

pub returns-clause-members : goal.returns-clause-members
returns-clause-members g c =
    ap (λ p. p.parts.members) c.array.view_is

pub returns-clause-bank : goal.returns-clause-bank
returns-clause-bank g c =
    ap (λ p. p.parts.bank) c.array.view_is

pub returns-clause-work : goal.returns-clause-work
returns-clause-work g c =
    ap (λ p. p.parts.work) c.array.view_is

pub returns-clause-course : goal.returns-clause-course
returns-clause-course g c =
    ap (λ p. p.course) c.array.view_is

pub returns-in-Err-make_room-clause-course : goal.returns-in-Err-make_room-clause-course
returns-in-Err-make_room-clause-course g c =
    ap (λ p. p.course) c.array.view_is

pub returns-clause-active : goal.returns-clause-active
returns-clause-active g c =
    ap (λ p. is_reshaping p.parts.members.newest) c.array.view_is

pub returns-in-Err-make_room-clause-active : goal.returns-in-Err-make_room-clause-active
returns-in-Err-make_room-clause-active g c =
    ap (λ p. is_reshaping p.parts.members.newest) c.array.view_is

pub returns-in-Err-clause-active : goal.returns-in-Err-clause-active
returns-in-Err-clause-active g c =
    refl

pub returns-in-Err-told-clause-active : goal.returns-in-Err-told-clause-active
returns-in-Err-told-clause-active g c =
    refl
