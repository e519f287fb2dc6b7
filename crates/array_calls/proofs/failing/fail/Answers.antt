use Rattle.std.proofs.Common.{◌≡◌, ◌++◌, ◌∷◌, [], List, refl, sym, ◌∙◌, ap, subst, arith, ℕ, append_assoc}
use Rattle.array_type.specs.raid_types_the_Refusal_TheVariants.{NoSuchRole}
use Rattle.array_type.specs.sb_specs_Reading.{list_length, is_clean, role_count}
use Rattle.array_type.proofs.sb_specs_ValidFields.{few-roles}
use Rattle.array_type.specs.history_the_Entry.{Entry}
use Rattle.array_type.specs.history_the_Event_TheVariants.{Refused, Lost, Failed}
use Rattle.array_type.specs.history_the_LostCause_TheVariants.{Command}
use Rattle.array_type.specs.history_Flat.{next_number}
use Rattle.array_type.specs.history_Plain.{entries_of}
use Rattle.array_type.proofs.array_members_Fit.{count-alike}
use Rattle.array_type.proofs.array_members_HeldRows.{vacant-moved}
use Rattle.array_type.proofs.array_members_LiveLeft.{holder-left}
use Rattle.array_type.proofs.array_members_MovedLaws.{grows-none, moved-same}
use Rattle.array_type.specs.history_append_Losing.{losses_of}
use Rattle.array_type.specs.array_call_specs_Kept.{scope_in}
use Rattle.array_type.proofs.array_call_specs_ReadyLaws.{scope-same}
use Rattle.array_type.proofs.array_call_specs_ReplyLaws.{fail_reply, no_role_reply}
use Rattle.array_type.proofs.array_call_specs_LossLaws.{losses-failed, ended-behind}
use Rattle.array_type.proofs.array_call_laws_FailedLaws.{placed-out, unlost-out, moved-out, out-vacant, clean-out, rise-out, named-out, out-only, out-spares}
use Rattle.array_type.proofs.history_invariant_Records.{begins-going}
use Rattle.array_type.proofs.array_fixed_invariant_Failing.{IsTakenOut, failed-stands}
use Rattle.array_type.specs.array_specs_Parts.{still_left, left_in}
use Rattle.array_type.proofs.array_specs_Called.{not_254, called, alone-lossless, risen-told}
use Rattle.array_type.proofs.array_specs_Lengths.{alone-keeps, behind-keeps}
use Rattle.array_type.proofs.array_specs_TakenOut.{behind-loss, moved-all, since-out, missing-out}
use Rattle.array_type.proofs.array_fixed_laws_Asking.{refused-alone}
use Rattle.array_type.proofs.array_fixed_laws_Kept.{ready, rows-same, rows-moved, roomier}
use Rattle.array_type.proofs.array_fixed_laws_PlainBehind.{here-plain}
use Rattle.array_type.proofs.array_fixed_laws_PlainAdds.{failed-plain}
use Rattle.array_type.specs.sb_specs_the_Members.{Members}
use Rattle.array_type.specs.array_call_specs_Calls.{HasRole}
use Rattle.array_type.proofs.Asked.{number-behind, same-known, entries-alike, undone-called}
use Rattle.array_type.specs.raid_types_the_Who.{Who}
use Rattle.array_type.specs.history_the_Event.{Event}
use Rattle.array_type.specs.array_members_Numbers.{bears}
use Rattle.array_type.proofs.history_append_PlainLaws.{one}
use Rattle.array_type.specs.history_invariant_Safe.{world_in}
use Rattle.array_type.specs.array_reshaping_invariant_Moving.{IsMoving}
use Rattle.array_type.proofs.array_reshaping_invariant_Failing.{failed-moves}
use Rattle.array_type.proofs.array_reshaping_invariant_Refusals.{quiet-refusal}
use Rattle.array_type.proofs.array_reshaping_invariant_Resting.{resting-moves}
use Rattle.array_type.specs.array_reshaping_laws_Ready.{bytes_in}
use Rattle.array_type.proofs.array_reshaping_laws_Kept.{ready as r-ready, shapes-same, shapes-moved, left-moved, behind-keeps as r-behind-keeps, takes-lost, lost-here}
use Rattle.array_type.proofs.array_reshaping_laws_TakenOut.{moved-all as r-moved-all, taken-out}
use Rattle.array_type.specs.stripe_row_Rows.{present}
use Rattle.array_type.proofs.array_reshaping_laws_WriteLaws.{roomed}
use Rattle.array_type.proofs.ReshapingCalls.{one-of-51, never-falls}
use Rattle.array_type.proofs.Rest.{on-both}
use Rattle.array_type.proofs.Alike.{alike, goes-on, stays-at-rest}
use Rattle.array_type.specs.sb_specs_Reading.{is_reshaping}
use Rattle.array_calls.proofs.failing.fail.Goals as goal

-- an event, and others of its call behind it
r-behind-loss : (old mid new : List Entry) (who : Who) (end : ℕ) (event : Event) (events : List Event) → mid ≡ old ++ entries_of who end (event ∷ []) → new ≡ mid ++ entries_of who end events → new ≡ old ++ entries_of who end (event ∷ events)
r-behind-loss old mid new who end event events is more = more ∙ ap (λ (l : List Entry). l ++ entries_of who end events) is ∙ append_assoc old (one who end event ∷ []) (entries_of who end events)

-- ---- what it asks of the functions that it calls

pub overflow_cast-count : goal.overflow_cast-count
overflow_cast-count g c =
    let placed = (alike c.array.invariant).kept.members_are.placed in
    let few = few-roles c.array.inside.members.newest placed.fit.valid in
    let n = placed.roles in
    let l = c.len-count.ensures in
    omega (arith, few, n, l)

pub lose_slot-requires-clause-slot : goal.lose_slot-requires-clause-slot
lose_slot-requires-clause-slot g c =
    ((alike c.array.invariant).kept.members_are.placed.holders c.args.role c.in-Some.slot c.in-Some.ensures.held).small

pub lose_slot-requires-clause-few : goal.lose_slot-requires-clause-few
lose_slot-requires-clause-few g c =
    let placed = (alike c.array.invariant).kept.members_are.placed in
    let few = few-roles c.array.inside.members.newest placed.fit.valid in
    let n = placed.roles in
    omega (arith, few, n)

pub lose_slot-requires-clause-small : goal.lose_slot-requires-clause-small
lose_slot-requires-clause-small g c =
    λ role slot held. ((alike c.array.invariant).kept.members_are.placed.holders role slot held).small

pub unassigned_roles-before-requires-clause-few : goal.unassigned_roles-before-requires-clause-few
unassigned_roles-before-requires-clause-few g c =
    let placed = (alike c.array.invariant).kept.members_are.placed in
    let few = few-roles c.array.inside.members.newest placed.fit.valid in
    let n = placed.roles in
    let l = c.len-count.ensures in
    omega (arith, few, n, l)

pub newly_unassigned-roles-requires-clause-few : goal.newly_unassigned-roles-requires-clause-few
newly_unassigned-roles-requires-clause-few g c =
    let placed = (alike c.array.invariant).kept.members_are.placed in
    let few = few-roles c.array.inside.members.newest placed.fit.valid in
    let n = placed.roles in
    let l = c.len-count.ensures in
    omega (arith, few, n, l)

pub record_missing-spares-requires : goal.record_missing-spares-requires
record_missing-spares-requires g c =
    let was = (alike c.array.invariant).kept.members_are in
    record {
      stands = record {
        slots = (alike c.array.invariant).kept.slots;
        placed = placed-out (g.B.Bank.given c.array.inside.bank) c.array.inside.members c.lose_slot.new.members c.lose_slot.result c.in-Some.slot c.args.role was.placed was.unlost
            c.lose_slot.ensures.members c.lose_slot.ensures.alone c.in-Some.ensures.held;
        unlost = unlost-out (g.B.Bank.given c.array.inside.bank) c.array.inside.members c.lose_slot.new.members c.lose_slot.result c.in-Some.slot c.args.role was.placed was.unlost
            c.lose_slot.ensures.members c.lose_slot.ensures.alone c.in-Some.ensures.held;
        free = (moved-out (g.B.Bank.given c.array.inside.bank) c.array.inside.members c.lose_slot.new.members c.lose_slot.result c.in-Some.slot c.args.role was.placed was.unlost
            c.lose_slot.ensures.members c.lose_slot.ensures.alone c.in-Some.ensures.held).free was.free;
      };
    }

-- ---- no slot holds the role

pub invariant_of-array-in_default : goal.invariant_of-array-in_default
invariant_of-array-in_default g c =
    on-both (is_reshaping c.array.inside.members.newest)
    (λ active. goes-on (c.array.invariant.moves active).0 (
    let was = (c.array.invariant.moves active).1 in
    let a = c.array.inside in
    let given = g.B.Bank.given a.bank in
    let tape = g.B.Bank.tape a.bank in
    let number : c.args.who.number ≡ next_number c.args.who.caller a.epoch.entries.items = c.requires.next ∙ ap (λ p. next_number c.args.who.caller p.parts.entries) (sym c.array.view_is) in
    r-ready (entries_of c.args.who c.ops-end.result (Refused (NoSuchRole c.args.role) ∷ []))
    was (grows-none (λ t. refl)) (shapes-same a.members.newest)
    (resting-moves g.B.Bank.tells given tape (scope_in given a.epoch.uuid a.epoch.given a.backup) a.epoch.first a.epoch.entries.items a.members (bears a.work) a.work.resync a.course
    (bytes_in a.course.window a.window.items) (left_in a.work a.members a.course a.ahead) c.args.who c.ops-end.result (Refused (NoSuchRole c.args.role))
    was.kept (begins-going a.epoch.entries.items c.args.who number) (not_254 c.args.who.caller c.requires.caller) c.ops-end.ensures.count (quiet-refusal (NoSuchRole c.args.role)) (λ told is. is) (λ t fills. tt))
    refl (never-falls _) (alone-keeps c.args.who c.ops-end.result (Refused (NoSuchRole c.args.role)) (λ n. refl) (λ limit. refl)) (λ none whole. whole) refl (scope-same given a.backup refl c.append_entry.ensures.uuid c.append_entry.ensures.given) c.append_entry.ensures.first c.make_room.ensures.items c.append_entry.ensures.items
    (omega (arith, c.append_entry.ensures.room, c.in-Ok.ensures.ok))))
    (λ still. stays-at-rest (c.array.invariant.rests still).0 (
    let was = (c.array.invariant.rests still).1 in
    let a = c.array.inside in
    let given = g.B.Bank.given a.bank in
    let number : c.args.who.number ≡ next_number c.args.who.caller a.epoch.entries.items = c.requires.next ∙ ap (λ p. next_number c.args.who.caller p.parts.entries) (sym c.array.view_is) in
    ready (entries_of c.args.who c.ops-end.result (Refused (NoSuchRole c.args.role) ∷ [])) was (rows-same a.members.newest)
    (refused-alone c.args.who c.ops-end.result was.kept number c.requires.caller c.ops-end.ensures.count (NoSuchRole c.args.role) (λ t right. tt))
    (here-plain was c.args.who c.ops-end.result (begins-going a.epoch.entries.items c.args.who number) c.requires.caller c.ops-end.ensures.count (grows-none (λ t. refl)) (NoSuchRole c.args.role) c.in_default.ensures.none)
    (λ slot. omega arith) (alone-keeps c.args.who c.ops-end.result (Refused (NoSuchRole c.args.role)) (λ n. refl) (λ limit. refl))
    refl (scope-same given a.backup refl c.append_entry.ensures.uuid c.append_entry.ensures.given) c.append_entry.ensures.first c.make_room.ensures.items c.append_entry.ensures.items
    (omega (arith, c.append_entry.ensures.room, c.in-Ok.ensures.ok))))

pub returns-in_default-clause-answered : goal.returns-in_default-clause-answered
returns-in_default-clause-answered g c =
    no_role_reply (list_length c.args.array.now.parts.members.newest) c.args.who c.args.array.now.parts.entries c.append_entry.new.epoch.entries.items c.ops-end.result c.args.role
    (c.append_entry.ensures.items ∙ ap (λ (l : List Entry). l ++ entries_of c.args.who c.ops-end.result (Refused (NoSuchRole c.args.role) ∷ [])) (c.make_room.ensures.items ∙ ap (λ p. p.parts.entries) c.array.view_is))
    c.requires.next

pub returns-in_default-clause-called : goal.returns-in_default-clause-called
returns-in_default-clause-called g c =
    let was = (alike c.array.invariant) in
    let a = c.array.inside in
    let given = g.B.Bank.given a.bank in
    let faults = g.B.Bank.faults_of a.bank in
    let end = c.ops-end.result in
    rw (← c.array.view_is) (called (grows-none (λ t. refl)) (moved-same given given a.members a.members refl refl was.kept.members_are.placed was.kept.members_are.unlost)
    (ended-behind (g.B.Bank.tape a.bank) c.append_entry.new.epoch.first c.make_room.new.self.items c.args.who end [] (Refused (NoSuchRole c.args.role)) c.append_entry.ensures.items c.ops-end.ensures.count)
    (alone-lossless a.members faults faults a.epoch.entries.items c.make_room.new.self.items c.append_entry.new.epoch.entries.items c.args.who end (Refused (NoSuchRole c.args.role)) tt c.make_room.ensures.items c.append_entry.ensures.items)
    (λ slot. omega arith)
    (record { uuid = c.append_entry.ensures.uuid; given = c.append_entry.ensures.given; first = c.append_entry.ensures.first; backup = refl; work = refl; ahead = refl; limit = refl })
    (λ t. (was.kept.recorded t).begun))

-- ---- a slot is taken out

pub invariant_of-array-2 : goal.invariant_of-array-2
invariant_of-array-2 g c =
    on-both (is_reshaping c.array.inside.members.newest)
    (λ active. goes-on (c.array.invariant.moves active).0 (
    let was = (c.array.invariant.moves active).1 in
    let here = was.kept.members_are in
    let a = c.array.inside in
    let given = g.B.Bank.given a.bank in
    let tape = g.B.Bank.tape a.bank in
    let tape' = g.B.Bank.tape c.record_missing-spares.new.bank in
    let number : c.args.who.number ≡ next_number c.args.who.caller a.epoch.entries.items = c.requires.next ∙ ap (λ p. next_number c.args.who.caller p.parts.entries) (sym c.array.view_is) in
    let role = c.args.role in
    let mid = c.lose_slot.new.members in
    let m = c.record_missing-spares.new.members in
    let did = c.record_missing-spares.ensures in
    let roles = c.newly_unassigned-roles.result in
    let spares = c.record_missing-spares.result in
    let end = c.ops-end-2.result in
    let scope = scope_in given a.epoch.uuid a.epoch.given a.backup in
    let buffer = bytes_in a.course.window a.window.items in
    let moved = r-moved-all given a.members mid m c.lose_slot.result c.in-Some.slot role here.placed here.unlost c.lose_slot.ensures.members c.lose_slot.ensures.alone c.in-Some.ensures.held did.keeps.moved in
    let out = taken-out given a.members mid m c.lose_slot.result c.in-Some.slot role here.placed here.unlost c.lose_slot.ensures.members c.lose_slot.ensures.alone c.in-Some.ensures.held did.keeps.moved
    c.len-count.result c.unassigned_roles-before.result roles spares (g.B.Bank.faults_of a.bank) (g.B.Bank.faults_of c.record_missing-spares.new.bank) did.keeps.failed (c.len-count.ensures ∙ here.placed.roles)
    c.unassigned_roles-before.ensures c.newly_unassigned-roles.ensures g.B.Bank.tells tape tape' did.clean did.keeps.rise did.others did.rest did.safe in
    let items = r-behind-loss c.make_room.new.self.items c.append_entry-2.new.epoch.entries.items c.append_after_losses.new.epoch.entries.items c.args.who end (Lost role Command) (losses_of roles spares ++ Failed role ∷ []) c.append_entry-2.ensures.items c.append_after_losses.ensures.items in
    r-ready (entries_of c.args.who end ((Lost role Command ∷ losses_of roles spares) ++ Failed role ∷ []))
    was did.keeps.bank.grows (shapes-moved given a.members m moved)
    (subst (λ (n : ℕ). IsMoving g.B.Bank.tells given tape' scope a.epoch.first (a.epoch.entries.items ++ entries_of c.args.who end ((Lost role Command ∷ losses_of roles spares) ++ Failed role ∷ [])) m (bears a.work) a.work.resync a.course buffer n)
    (sym (left-moved given a.members m a.work.resync a.course a.ahead moved))
    (failed-moves g.B.Bank.tells given tape tape' scope a.epoch.first a.epoch.entries.items a.members m (bears a.work) a.work.resync a.course buffer (left_in a.work a.members a.course a.ahead) c.args.who end role roles spares
    was.kept (holder-left given a.members role c.in-Some.slot here.placed here.unlost c.in-Some.ensures.held) (begins-going a.epoch.entries.items c.args.who number) (not_254 c.args.who.caller c.requires.caller) c.ops-end-2.ensures.count did.keeps.bank.grows out))
    refl did.keeps.bank.counts (record { long = (r-behind-keeps c.args.who end roles spares (Failed role) (λ n. refl) (λ limit. refl)).long; free = (r-behind-keeps c.args.who end roles spares (Failed role) (λ n. refl) (λ limit. refl)).free })
    (λ none whole. takes-lost (world_in given tape' scope a.epoch.first) role a.epoch.entries.items (entries_of c.args.who end ((Lost role Command ∷ losses_of roles spares) ++ Failed role ∷ [])) (lost-here role c.args.who end Command (losses_of roles spares ++ Failed role ∷ [])) none) did.keeps.bank.same (scope-same given a.backup did.keeps.bank.same (c.append_after_losses.ensures.uuid ∙ c.append_entry-2.ensures.uuid) (c.append_after_losses.ensures.given ∙ c.append_entry-2.ensures.given)) (c.append_after_losses.ensures.first ∙ c.append_entry-2.ensures.first)
    c.make_room.ensures.items items (omega (arith, c.append_after_losses.ensures.room, c.append_entry-2.ensures.room, c.in-Ok.ensures.ok))))
    (λ still. stays-at-rest (c.array.invariant.rests still).0 (
    let was = (c.array.invariant.rests still).1 in
    let here = was.kept.members_are in
    let a = c.array.inside in
    let given = g.B.Bank.given a.bank in
    let tape = g.B.Bank.tape a.bank in
    let tape' = g.B.Bank.tape c.record_missing-spares.new.bank in
    let number : c.args.who.number ≡ next_number c.args.who.caller a.epoch.entries.items = c.requires.next ∙ ap (λ p. next_number c.args.who.caller p.parts.entries) (sym c.array.view_is) in
    let role = c.args.role in
    let mid = c.lose_slot.new.members in
    let m = c.record_missing-spares.new.members in
    let did = c.record_missing-spares.ensures in
    let roles = c.newly_unassigned-roles.result in
    let spares = c.record_missing-spares.result in
    let end = c.ops-end-2.result in
    let scope = scope_in given a.epoch.uuid a.epoch.given a.backup in
    let lost = c.lose_slot.result in
    let is = c.lose_slot.ensures.members in
    let moved = moved-all given a.members mid m lost c.in-Some.slot role here.placed here.unlost is c.lose_slot.ensures.alone c.in-Some.ensures.held did.keeps.moved in
    let out : IsTakenOut g.B.Bank.tells given tape tape' a.members m role roles =
    record {
      moved = moved;
      since = missing-out given a.members mid m lost c.in-Some.slot role here.placed here.unlost is c.lose_slot.ensures.alone c.in-Some.ensures.held did.keeps.moved
          c.len-count.result c.unassigned_roles-before.result roles spares (g.B.Bank.faults_of a.bank) (g.B.Bank.faults_of c.record_missing-spares.new.bank) did.keeps.failed (c.len-count.ensures ∙ here.placed.roles)
          c.unassigned_roles-before.ensures c.newly_unassigned-roles.ensures;
      grows = did.keeps.bank.grows;
      clean = did.clean ∙ clean-out a.members mid lost is;
      rise = risen-told (rise-out a.members mid lost is m tape tape' did.keeps.rise);
      others = did.others;
      safe = named-out a.members mid lost is given m tape tape' did.safe;
    } in
    let items = behind-loss c.make_room.new.self.items c.append_entry-2.new.epoch.entries.items c.append_after_losses.new.epoch.entries.items c.args.who end (Lost role Command) (losses_of roles spares ++ Failed role ∷ []) c.append_entry-2.ensures.items c.append_after_losses.ensures.items in
    let quiet = behind-keeps c.args.who end roles spares (Failed role ∷ []) (alone-keeps c.args.who end (Failed role) (λ n. refl) (λ limit. refl)) in
    ready (entries_of c.args.who end ((Lost role Command ∷ losses_of roles spares) ++ Failed role ∷ [])) was (rows-moved given a.members m moved)
    (failed-stands g.B.Bank.tells given tape tape' scope a.epoch.first a.epoch.entries.items a.members m a.work (still_left a.work a.members a.ahead) (still_left a.work m a.ahead) c.args.who end role roles spares
    was.kept (holder-left given a.members role c.in-Some.slot here.placed here.unlost c.in-Some.ensures.held) (begins-going a.epoch.entries.items c.args.who number) (not_254 c.args.who.caller c.requires.caller) c.ops-end-2.ensures.count out)
    (failed-plain was c.args.who end (begins-going a.epoch.entries.items c.args.who number) c.requires.caller c.ops-end-2.ensures.count did.keeps.bank.grows moved role
    (out-only given a.members mid lost c.in-Some.slot role here.placed here.unlost is c.lose_slot.ensures.alone c.in-Some.ensures.held)
    (since-out given a.members mid m lost c.in-Some.slot role here.placed here.unlost is c.lose_slot.ensures.alone c.in-Some.ensures.held did.keeps.moved
    c.len-count.result c.unassigned_roles-before.result roles spares (g.B.Bank.faults_of a.bank) (g.B.Bank.faults_of c.record_missing-spares.new.bank) did.keeps.failed (c.len-count.ensures ∙ here.placed.roles)
    c.unassigned_roles-before.ensures c.newly_unassigned-roles.ensures)
    (vacant-moved did.keeps.moved role (out-vacant given a.members mid lost c.in-Some.slot role here.placed here.unlost is c.lose_slot.ensures.alone c.in-Some.ensures.held))
    (out-spares given a.members mid lost c.in-Some.slot role here.placed here.unlost is c.lose_slot.ensures.alone c.in-Some.ensures.held))
    did.keeps.bank.counts (record { long = λ n. quiet.long n; free = quiet.free })
    did.keeps.bank.same (scope-same given a.backup did.keeps.bank.same (c.append_after_losses.ensures.uuid ∙ c.append_entry-2.ensures.uuid) (c.append_after_losses.ensures.given ∙ c.append_entry-2.ensures.given)) (c.append_after_losses.ensures.first ∙ c.append_entry-2.ensures.first)
    c.make_room.ensures.items items (omega (arith, c.append_after_losses.ensures.room, c.append_entry-2.ensures.room, c.in-Ok.ensures.ok))))

pub returns-clause-answered : goal.returns-clause-answered
returns-clause-answered g c =
    let role = c.args.role in
    let roles = c.newly_unassigned-roles.result in
    let spares = c.record_missing-spares.result in
    let end = c.ops-end-2.result in
    let items = behind-loss c.make_room.new.self.items c.append_entry-2.new.epoch.entries.items c.append_after_losses.new.epoch.entries.items c.args.who end (Lost role Command) (losses_of roles spares ++ Failed role ∷ []) c.append_entry-2.ensures.items c.append_after_losses.ensures.items in
    fail_reply (list_length c.args.array.now.parts.members.newest) c.args.who c.args.array.now.parts.entries c.append_after_losses.new.epoch.entries.items end role roles spares
    (items ∙ ap (λ (l : List Entry). l ++ entries_of c.args.who end ((Lost role Command ∷ losses_of roles spares) ++ Failed role ∷ [])) (c.make_room.ensures.items ∙ ap (λ p. p.parts.entries) c.array.view_is))
    c.requires.next

pub returns-clause-called : goal.returns-clause-called
returns-clause-called g c =
    let was = (alike c.array.invariant) in
    let here = was.kept.members_are in
    let a = c.array.inside in
    let given = g.B.Bank.given a.bank in
    let role = c.args.role in
    let mid = c.lose_slot.new.members in
    let m = c.record_missing-spares.new.members in
    let did = c.record_missing-spares.ensures in
    let before = g.B.Bank.faults_of a.bank in
    let after = g.B.Bank.faults_of c.record_missing-spares.new.bank in
    let roles = c.newly_unassigned-roles.result in
    let spares = c.record_missing-spares.result in
    let end = c.ops-end-2.result in
    let moved = moved-all given a.members mid m c.lose_slot.result c.in-Some.slot role here.placed here.unlost c.lose_slot.ensures.members c.lose_slot.ensures.alone c.in-Some.ensures.held did.keeps.moved in
    let since = since-out given a.members mid m c.lose_slot.result c.in-Some.slot role here.placed here.unlost c.lose_slot.ensures.members c.lose_slot.ensures.alone c.in-Some.ensures.held did.keeps.moved
    c.len-count.result c.unassigned_roles-before.result roles spares before after did.keeps.failed (c.len-count.ensures ∙ here.placed.roles) c.unassigned_roles-before.ensures c.newly_unassigned-roles.ensures in
    let first = moved-out given a.members mid c.lose_slot.result c.in-Some.slot role here.placed here.unlost c.lose_slot.ensures.members c.lose_slot.ensures.alone c.in-Some.ensures.held in
    let items = behind-loss c.make_room.new.self.items c.append_entry-2.new.epoch.entries.items c.append_after_losses.new.epoch.entries.items c.args.who end (Lost role Command) (losses_of roles spares ++ Failed role ∷ []) c.append_entry-2.ensures.items c.append_after_losses.ensures.items in
    rw (← c.array.view_is) (called did.keeps.bank.grows moved
    (ended-behind (g.B.Bank.tape c.record_missing-spares.new.bank) c.append_after_losses.new.epoch.first c.make_room.new.self.items c.args.who end (Lost role Command ∷ losses_of roles spares) (Failed role) items c.ops-end-2.ensures.count)
    (losses-failed a.members mid m before after a.epoch.entries.items c.make_room.new.self.items c.append_after_losses.new.epoch.entries.items c.args.who end role c.in-Some.slot roles spares first.held first.fewer since c.in-Some.ensures.held c.make_room.ensures.items items)
    did.keeps.bank.counts
    (record { uuid = c.append_after_losses.ensures.uuid ∙ c.append_entry-2.ensures.uuid; given = c.append_after_losses.ensures.given ∙ c.append_entry-2.ensures.given; first = c.append_after_losses.ensures.first ∙ c.append_entry-2.ensures.first; backup = refl; work = refl; ahead = refl; limit = refl })
    (λ t. (was.kept.recorded t).begun))

pub returns-clause-others : goal.returns-clause-others
returns-clause-others g c =
    rw (← c.array.view_is) c.record_missing-spares.ensures.others

pub returns-clause-caused : goal.returns-clause-caused
returns-clause-caused g c =
    let here = (alike c.array.invariant).kept.members_are in
    let a = c.array.inside in
    let gone = out-vacant (g.B.Bank.given a.bank) a.members c.lose_slot.new.members c.lose_slot.result c.in-Some.slot c.args.role here.placed here.unlost c.lose_slot.ensures.members c.lose_slot.ensures.alone c.in-Some.ensures.held in
    rw (← c.array.view_is) (c.in-Some.ensures.some, vacant-moved c.record_missing-spares.ensures.keeps.moved c.args.role gone)

-- ---- what else the calls ask

pub check_number-requires : goal.check_number-requires
check_number-requires g c =
    c.requires.next ∙ ap (λ p. next_number c.args.who.caller p.parts.entries) (sym c.array.view_is) ∙ ap (λ (l : List Entry). next_number c.args.who.caller l) (sym c.make_room.ensures.items)

pub unassigned_roles-before-requires-clause-known : goal.unassigned_roles-before-requires-clause-known
unassigned_roles-before-requires-clause-known g c =
    let here = (alike c.array.invariant).kept.members_are in
    let out = placed-out (g.B.Bank.given c.array.inside.bank) c.array.inside.members c.lose_slot.new.members c.lose_slot.result c.in-Some.slot c.args.role here.placed here.unlost c.lose_slot.ensures.members c.lose_slot.ensures.alone c.in-Some.ensures.held in
    same-known c.len-count.ensures here.placed.roles (out.roles ∙ ap (λ (m : Members). role_count m.newest) c.lose_slot.ensures.members)

pub newly_unassigned-roles-requires-clause-known : goal.newly_unassigned-roles-requires-clause-known
newly_unassigned-roles-requires-clause-known g c =
    let here = (alike c.array.invariant).kept.members_are in
    let moved = moved-all (g.B.Bank.given c.array.inside.bank) c.array.inside.members c.lose_slot.new.members c.record_missing-spares.new.members c.lose_slot.result c.in-Some.slot c.args.role here.placed here.unlost c.lose_slot.ensures.members c.lose_slot.ensures.alone c.in-Some.ensures.held c.record_missing-spares.ensures.keeps.moved in
    same-known c.len-count.ensures here.placed.roles (moved.placed.roles ∙ count-alike c.array.inside.members.newest c.record_missing-spares.new.members.newest moved.reshape moved.shape moved.size)

pub append_after_losses-requires-clause-number : goal.append_after_losses-requires-clause-number
append_after_losses-requires-clause-number g c =
    number-behind _ _ c.append_entry-2.ensures.items c.check_number.ensures

-- ---- memory was short

pub invariant_of-array : goal.invariant_of-array
invariant_of-array g c =
    on-both (is_reshaping c.array.inside.members.newest)
    (λ active. goes-on (c.array.invariant.moves active).0 (roomed c.make_room.ensures.items (let had = (c.array.invariant.moves active).1.room_left in let keeps = c.make_room.ensures.keeps in omega (arith, had, keeps)) (c.array.invariant.moves active).1))
    (λ still. stays-at-rest (c.array.invariant.rests still).0 (roomier (c.array.invariant.rests still).1 c.make_room.ensures.items c.make_room.ensures.keeps))

pub returns-in-Err-clause-answered : goal.returns-in-Err-clause-answered
returns-in-Err-clause-answered g c =
    c.make_room.ensures.items ∙ ap (λ p. p.parts.entries) c.array.view_is

pub returns-in-Err-clause-unchanged : goal.returns-in-Err-clause-unchanged
returns-in-Err-clause-unchanged g c =
    entries-alike c.make_room.new.self.items c.array.view_is c.make_room.ensures.items

pub returns-in-Err-clause-called : goal.returns-in-Err-clause-called
returns-in-Err-clause-called g c =
    let kept = (alike c.array.invariant).kept in
    rw (← c.array.view_is) (undone-called kept.members_are.placed kept.members_are.unlost (λ t. (kept.recorded t).ended) (λ t. (kept.recorded t).begun) (entries-alike c.make_room.new.self.items refl c.make_room.ensures.items))

pub returns-in-Err-clause-caused : goal.returns-in-Err-clause-caused
returns-in-Err-clause-caused g c =
    ap (λ p. p.parts.members) c.array.view_is

-- ---- what is as it was

pub returns-in_default-clause-caused : goal.returns-in_default-clause-caused
returns-in_default-clause-caused g c =
    (refl, ap (λ p. p.parts.members) c.array.view_is, subst (λ p. HasRole p.parts.members c.args.role → ⊥) c.array.view_is c.in_default.ensures.none)

pub returns-clause-clean : goal.returns-clause-clean
returns-clause-clean g c =
    c.record_missing-spares.ensures.clean ∙ clean-out c.array.inside.members c.lose_slot.new.members c.lose_slot.result c.lose_slot.ensures.members ∙ ap (λ p. is_clean p.parts.members.newest) c.array.view_is

pub returns-clause-given : goal.returns-clause-given
returns-clause-given g c =
    c.record_missing-spares.ensures.keeps.bank.same ∙ ap (λ p. g.B.Bank.given p.parts.bank) c.array.view_is

pub slot_of-requires-clause-few : goal.slot_of-requires-clause-few
slot_of-requires-clause-few g c =
    let placed = (alike c.array.invariant).kept.members_are.placed in
    let few = few-roles c.array.inside.members.newest placed.fit.valid in
    let n = placed.roles in
    omega (arith, few, n)

pub returns-clause-course : goal.returns-clause-course
returns-clause-course g c =
    ap (λ p. p.course) c.array.view_is

pub append_entry-requires-2-clause-number : goal.append_entry-requires-2-clause-number
append_entry-requires-2-clause-number g c =
    c.check_number.ensures

pub append_entry-requires-clause-number : goal.append_entry-requires-clause-number
append_entry-requires-clause-number g c =
    c.check_number.ensures

pub append_entry-requires-2-clause-room : goal.append_entry-requires-2-clause-room
append_entry-requires-2-clause-room g c =
    one-of-51 c.in-Ok.ensures.ok

pub append_entry-requires-clause-room : goal.append_entry-requires-clause-room
append_entry-requires-clause-room g c =
    one-of-51 c.in-Ok.ensures.ok

pub returns-in_default-clause-course : goal.returns-in_default-clause-course
returns-in_default-clause-course g c =
    ap (λ p. p.course) c.array.view_is

pub returns-in_default-clause-clean : goal.returns-in_default-clause-clean
returns-in_default-clause-clean g c =
    ap (λ p. is_clean p.parts.members.newest) c.array.view_is

pub returns-in_default-clause-given : goal.returns-in_default-clause-given
returns-in_default-clause-given g c =
    ap (λ p. g.B.Bank.given p.parts.bank) c.array.view_is

pub returns-in_default-clause-others : goal.returns-in_default-clause-others
returns-in_default-clause-others g c =
    λ t s k ne. ap (λ p. present (g.B.Bank.given c.args.array.now.parts.bank) (g.B.Bank.tape p.parts.bank) s k) c.array.view_is

pub returns-in-Err-clause-active : goal.returns-in-Err-clause-active
returns-in-Err-clause-active g c =
    ap (λ p. is_reshaping p.parts.members.newest) c.array.view_is

pub returns-in_default-clause-active : goal.returns-in_default-clause-active
returns-in_default-clause-active g c =
    ap (λ p. is_reshaping p.parts.members.newest) c.array.view_is

pub returns-clause-active : goal.returns-clause-active
returns-clause-active g c =
    let here = (alike c.array.invariant).kept.members_are in
    let given = g.B.Bank.given c.array.inside.bank in
    let a = c.array.inside in
    let mid = c.lose_slot.new.members in
    let m = c.record_missing-spares.new.members in
    let role = c.args.role in
    let did = c.record_missing-spares.ensures in
    let moved = moved-all given a.members mid m c.lose_slot.result c.in-Some.slot role here.placed here.unlost c.lose_slot.ensures.members c.lose_slot.ensures.alone c.in-Some.ensures.held did.keeps.moved in
    moved.reshape.reshaping ∙ ap (λ p. is_reshaping p.parts.members.newest) c.array.view_is
