use Rattle.std.proofs.Common.{◌≡◌, inl, inr, ℕ, ◌+◌, ◌-◌, ◌*◌, ◌≤◌, ◌^◌, ◌==◌, Option, Some, None, List, [], ◌∷◌, ◌++◌, length, vec_capacity, refl, sym, ◌∙◌, ap, subst, arith}
use Rattle.std.specs.Prelude.{IfSome}
use Rattle.array_reshaping_steps.specs.raid_types_the_Refusal.{Refusal}
use Rattle.array_reshaping_steps.specs.raid_types_the_Refusal_TheVariants.{BackupFault}
use Rattle.array_reshaping_steps.specs.raid_types_the_Phase_TheVariants.{Reshape}
use Rattle.array_reshaping_steps.specs.bank_Given.{IsFaulted}
use Rattle.array_reshaping_steps.proofs.raid_layout_Limits.{limited}
use Rattle.array_reshaping_steps.specs.reshape_geometry_Geometry.{list_end}
use Rattle.array_reshaping_steps.specs.reshape_plan_Plans.{AreSound, phase_window}
use Rattle.array_reshaping_steps.specs.sb_specs_the_Members.{Members}
use Rattle.array_reshaping_steps.specs.sb_specs_Reading.{shape_of, list_length, is_reshaping}
use Rattle.array_reshaping_steps.proofs.sb_specs_ValidFields.{few-roles}
use Rattle.array_reshaping_steps.specs.history_the_Entry.{Entry}
use Rattle.array_reshaping_steps.specs.history_the_Event_TheVariants.{Step, Refused}
use Rattle.array_reshaping_steps.specs.history_the_StepKind_TheVariants.{Begun}
use Rattle.array_reshaping_steps.specs.history_Plain.{entries_of}
use Rattle.array_reshaping_steps.specs.history_Transfers.{last_end_from}
use Rattle.array_reshaping_steps.specs.crash_safety_laws_Safety.{IsRisen}
use Rattle.array_reshaping_steps.specs.crash_safety_laws_Steady.{KeepsSafe}
use Rattle.array_reshaping_steps.specs.reshape_sb_updates_Beginning.{goes_back}
use Rattle.array_reshaping_steps.specs.reshape_begin_end_Begun.{begun_plan}
use Rattle.array_reshaping_steps.specs.array_members_Status.{left_of}
use Rattle.array_reshaping_steps.proofs.array_members_MovedLaws.{grows-none}
use Rattle.array_reshaping_steps.specs.history_append_Losing.{losses_of}
use Rattle.array_reshaping_steps.specs.array_call_specs_Kept.{scope_in}
use Rattle.array_reshaping_steps.proofs.array_call_specs_LossLaws.{ended-behind}
use Rattle.array_reshaping_steps.proofs.array_call_specs_ReadyLaws.{scope-same}
use Rattle.array_reshaping_steps.specs.reshape_request_the_Window_TheVariants.{Closed}
use Rattle.array_reshaping_steps.specs.reshape_request_Left.{phases_of, grow_left}
use Rattle.array_reshaping_steps.specs.history_invariant_Recorded.{IsCallGoing}
use Rattle.array_reshaping_steps.specs.reshape_progress_Laws.{closed}
use Rattle.array_reshaping_steps.specs.array_specs_Parts.{left_in}
use Rattle.array_reshaping_steps.proofs.array_specs_Lengths.{alone-keeps}
use Rattle.array_reshaping_steps.specs.array_fixed_laws_Ready.{IsReady}
use Rattle.array_reshaping_steps.proofs.array_fixed_laws_Kept.{ready, rows-same}
use Rattle.array_reshaping_steps.proofs.array_fixed_laws_Plain.{turned-plain, turns-first}
use Rattle.array_reshaping_steps.proofs.array_reshaping_laws_Kept.{left_by}
use Rattle.array_reshaping_steps.proofs.history_laws_OneShapeGrowing.{call-ends}
use Rattle.array_transition.specs.Begun.{begun_length, HasKeptLength, IsBackupAt}
use Rattle.array_transition.proofs.Begun.{none-pending, plus-none, others-of, since-told, IsUpdated, next-sound, backup-here, begun-under, begun-left, begun-start, begun-losses, begun-ready}
use Rattle.array_transition.proofs.GivenBack.{ahead-told, fault-stands}
use Rattle.array_transition.proofs.Told.{grows-as, falls-as, unbegun-as, both-fall-as, back-as, refused-as, begun-as}
use Rattle.array_transition.proofs.Parted.{given-back, still-given, both-given, both-grow, none-fall, slot-below, room-for, has-one, unbegun-plain}
use Rattle.array_transition.proofs.Planned.{none-recovering, begin-live, lost-since}
use Rattle.array_transition.proofs.beginning.begin_reshape.Goals as goal

-- ---- why it doesn't begin

-- a plan was told

pub give_back-requires-clause-told : goal.give_back-requires-clause-told
give_back-requires-clause-told g c =
    let p = c.part_fixed-pieces.result in
    let next = subst (λ s. phases_of s.ahead ≡ Reshape c.args.to ∷ phases_of c.args.behind) c.part_fixed-pieces.ensures.same c.requires.next in
    ahead-told (phases_of p.ahead) (Reshape c.args.to) (phases_of c.args.behind) c.part_fixed-pieces.ensures.ready.ahead_told next

pub fail_backup-still-requires-clause-told : goal.fail_backup-still-requires-clause-told
fail_backup-still-requires-clause-told g c =
    let p = c.part_fixed-pieces.result in
    let next = subst (λ s. phases_of s.ahead ≡ Reshape c.args.to ∷ phases_of c.args.behind) c.part_fixed-pieces.ensures.same c.requires.next in
    ahead-told (phases_of p.ahead) (Reshape c.args.to) (phases_of c.args.behind) c.part_fixed-pieces.ensures.ready.ahead_told next

pub unbegun-requires-clause-few : goal.unbegun-requires-clause-few
unbegun-requires-clause-few g c =
    let members_are = c.part_fixed-pieces.ensures.ready.kept.members_are in
    let few = few-roles c.part_fixed-pieces.result.members.newest members_are.placed.fit.valid in
    let count = members_are.placed.roles in
    omega (arith, few, count)

pub unbegun-requires-clause-disks : goal.unbegun-requires-clause-disks
unbegun-requires-clause-disks g c =
    let p = c.part_fixed-pieces.result in
    let next = subst (λ s. phases_of s.ahead ≡ Reshape c.args.to ∷ phases_of c.args.behind) c.part_fixed-pieces.ensures.same c.requires.next in
    let sound = next-sound (shape_of p.members.newest) p.members.newest.size (phases_of p.ahead) (phases_of c.args.behind) c.args.to c.part_fixed-pieces.ensures.ready.planned next in
    (limited c.args.to sound.0.new_valid).most

pub returns-in-Some-clause-caused : goal.returns-in-Some-clause-caused
returns-in-Some-clause-caused g c =
    unbegun-as g.B.Bank.faults_of c.args.to c.in-Some.refusal c.args.still c.give_back.result _ c.part_fixed-pieces.ensures.same (inl (c.in-Some.ensures, c.give_back.ensures.bank))

pub returns-in-Some-clause-grows : goal.returns-in-Some-clause-grows
returns-in-Some-clause-grows g c =
    grows-as g.B.Bank.tape c.args.still _ (g.B.Bank.tape c.give_back.result.parts.bank) c.part_fixed-pieces.ensures.same (grows-none (λ t. ap g.B.Bank.tape c.give_back.ensures.bank))

-- ---- the backup was found failing

pub returns-then-not-contains-clause-caused : goal.returns-then-not-contains-clause-caused
returns-then-not-contains-clause-caused g c =
    let p = c.part_fixed-pieces.result in
    unbegun-as g.B.Bank.faults_of c.args.to BackupFault c.args.still c.fail_backup-still.result _ c.part_fixed-pieces.ensures.same (inr (
      c.in_default.ensures,
      refl,
      subst (λ (o : Option ℕ). IfSome o (λ slot. IsFaulted slot (g.B.Bank.faults_of p.bank) (g.B.Bank.faults_of c.fail_backup-still.result.parts.bank))) (sym c.in-Some-backup.is) c.fail_backup-still.ensures.failed,
    ))

pub returns-then-not-contains-clause-grows : goal.returns-then-not-contains-clause-grows
returns-then-not-contains-clause-grows g c =
    grows-as g.B.Bank.tape c.args.still _ (g.B.Bank.tape c.fail_backup-still.result.parts.bank) c.part_fixed-pieces.ensures.same (grows-none c.fail_backup-still.ensures.tape)

pub returns-then-not-contains-clause-never_falls : goal.returns-then-not-contains-clause-never_falls
returns-then-not-contains-clause-never_falls g c =
    falls-as g.B.Bank.faults_of c.args.still _ (g.B.Bank.faults_of c.fail_backup-still.result.parts.bank) c.part_fixed-pieces.ensures.same c.fail_backup-still.ensures.never_falls

-- ---- the backup failed

pub of_fixed-requires : goal.of_fixed-requires
of_fixed-requires g c =
    let p = c.part_fixed-pieces.result in
    let same = c.part_fixed-pieces.ensures.same in
    let was = c.part_fixed-pieces.ensures.ready in
    let are = was.kept.members_are in
    let given = g.B.Bank.given p.bank in
    let tape = g.B.Bank.tape p.bank in
    let bank = c.begin-begun.new.bank in
    let epoch = c.append_entry.new.epoch in
    let did = c.begin-begun.ensures in
    let refusal = c.in-Some-refusal.refusal in
    let is = c.in-Some-refusal.is in
    let backup = c.in-Some-backup.backup in
    let end = c.ops-end.result in
    let none = did.refused refusal is in
    let fault = (did.answer refusal is).0 in
    let can = c.in_default.ensures in
    let turned : HasKeptLength p.epoch.entries.items c.args.who = subst (λ s. HasKeptLength s.parts.entries c.args.who) same c.requires.open in
    let some : 1 ≤ p.steps = subst (λ s. 1 ≤ s.parts.steps) same c.requires.room in
    let next = subst (λ s. phases_of s.ahead ≡ Reshape c.args.to ∷ phases_of c.args.behind) same c.requires.next in
    let sound = next-sound (shape_of p.members.newest) p.members.newest.size (phases_of p.ahead) (phases_of c.args.behind) c.args.to was.planned next in
    let kept = fault-stands c.args.who end backup p.epoch.uuid was.kept (none-recovering given p.members are.placed can.0)
    (begin-live given p.members c.args.to are.placed are.unlost are.free are.still sound.0 sound.1 can) turned.goes c.requires.caller c.ops-end.ensures.count did.bank.grows
    (subst (λ (k : Members). IsRisen g.B.Bank.tells p.members k tape (g.B.Bank.tape bank)) none.members did.rise) c.in-Some-backup.is refl did.others
    (λ t world told live there array over. subst (λ (k : Members). KeepsSafe world given told k tape (g.B.Bank.tape bank)) none.members (did.kept refusal is t world told live there array over)) in
    record {
      ready = subst
          (λ (k : Members). IsReady g.B.Bank.tells (g.B.Bank.given bank) (g.B.Bank.tape bank) (scope_in (g.B.Bank.given bank) epoch.uuid epoch.given p.backup) epoch.first epoch.entries.items k p.work p.ahead p.limit
          (g.B.Bank.faults_of bank) (p.steps - 1) epoch.entries.room (vec_capacity p.rows) (length p.buffer.items) (vec_capacity p.far_rows) (length p.far_buffer.items)) (sym none.members)
          (ready (entries_of c.args.who end (Refused BackupFault ∷ [])) was (rows-same p.members.newest) kept
          (turned-plain (turns-first p.epoch.entries.items (entries_of c.args.who end (Refused BackupFault ∷ [])) (ahead-told (phases_of p.ahead) (Reshape c.args.to) (phases_of c.args.behind) was.ahead_told next))) did.bank.counts (alone-keeps c.args.who end (Refused BackupFault) (λ n. refl) (λ limit. refl))
          did.bank.same (scope-same given p.backup did.bank.same c.append_entry.ensures.uuid c.append_entry.ensures.given) c.append_entry.ensures.first refl
          (c.append_entry.ensures.items ∙ ap (λ (r : Refusal). p.epoch.entries.items ++ entries_of c.args.who end (Refused r ∷ [])) fault)
          (let had = was.room_left in let room = c.append_entry.ensures.room in omega (arith, had, room, some)));
    }

pub returns-in-Some-refusal-clause-refused : goal.returns-in-Some-refusal-clause-refused
returns-in-Some-refusal-clause-refused g c =
    let p = c.part_fixed-pieces.result in
    let end = c.ops-end.result in
    let refusal = c.in-Some-refusal.refusal in
    let some : 1 ≤ p.steps = subst (λ s. 1 ≤ s.parts.steps) c.part_fixed-pieces.ensures.same c.requires.room in
    back-as g.B.Bank.given g.B.Bank.tape c.args.who refusal c.args.still c.of_fixed.result _ _ c.part_fixed-pieces.ensures.same c.of_fixed.ensures.same (record {
      end = end;
      entered = c.append_entry.ensures.items;
      ended = ended-behind (g.B.Bank.tape c.begin-begun.new.bank) c.append_entry.new.epoch.first p.epoch.entries.items c.args.who end [] (Refused refusal) c.append_entry.ensures.items c.ops-end.ensures.count;
      members = (c.begin-begun.ensures.refused refusal c.in-Some-refusal.is).members;
      others = λ t slot k far which. c.begin-begun.ensures.others t slot k far (others-of p.backup c.in-Some-backup.backup slot k c.in-Some-backup.is which);
      course = refl;
      ahead = refl;
      steps = omega (arith, some);
      same = record { uuid = c.append_entry.ensures.uuid; given = c.append_entry.ensures.given; first = c.append_entry.ensures.first; backup = refl; work = refl; limit = refl };
    })

pub returns-in-Some-refusal-clause-caused : goal.returns-in-Some-refusal-clause-caused
returns-in-Some-refusal-clause-caused g c =
    let p = c.part_fixed-pieces.result in
    let refusal = c.in-Some-refusal.refusal in
    let is = c.in-Some-refusal.is in
    refused-as g.B.Bank.faults_of c.args.to refusal c.args.still c.of_fixed.result _ _ c.part_fixed-pieces.ensures.same c.of_fixed.ensures.same (inr (
      c.in_default.ensures,
      (c.begin-begun.ensures.answer refusal is).0,
      subst (λ (o : Option ℕ). IfSome o (λ slot. IsFaulted slot (g.B.Bank.faults_of p.bank) (g.B.Bank.faults_of c.begin-begun.new.bank))) (sym c.in-Some-backup.is) (c.begin-begun.ensures.refused refusal is).failed,
    ))

pub returns-in-Some-refusal-clause-never_falls : goal.returns-in-Some-refusal-clause-never_falls
returns-in-Some-refusal-clause-never_falls g c =
    both-fall-as g.B.Bank.faults_of c.args.still c.of_fixed.result _ _ c.part_fixed-pieces.ensures.same c.of_fixed.ensures.same c.begin-begun.ensures.bank.counts

-- ---- the steps that are left

pub told_of-told-requires-clause-reshape : goal.told_of-told-requires-clause-reshape
told_of-told-requires-clause-reshape g c =
    let p = c.part_fixed-pieces.result in
    let none = c.in_default-refusal.is in
    let next = subst (λ s. phases_of s.ahead ≡ Reshape c.args.to ∷ phases_of c.args.behind) c.part_fixed-pieces.ensures.same c.requires.next in
    let sound = next-sound (shape_of p.members.newest) p.members.newest.size (phases_of p.ahead) (phases_of c.args.behind) c.args.to c.part_fixed-pieces.ensures.ready.planned next in
    begun-under p.members.newest c.begin-begun.new.members.newest c.args.to (c.begin-begun.ensures.newest none) sound.0 (c.begin-begun.ensures.moved none).placed.fit.position

pub told_of-told-requires-clause-to : goal.told_of-told-requires-clause-to
told_of-told-requires-clause-to g c = (c.begin-begun.ensures.newest c.in_default-refusal.is).new

pub told_of-told-requires-clause-sound : goal.told_of-told-requires-clause-sound
told_of-told-requires-clause-sound g c =
    let p = c.part_fixed-pieces.result in
    let none = c.in_default-refusal.is in
    let next = subst (λ s. phases_of s.ahead ≡ Reshape c.args.to ∷ phases_of c.args.behind) c.part_fixed-pieces.ensures.same c.requires.next in
    let sound = next-sound (shape_of p.members.newest) p.members.newest.size (phases_of p.ahead) (phases_of c.args.behind) c.args.to c.part_fixed-pieces.ensures.ready.planned next in
    subst (λ (n : ℕ). AreSound c.args.to n (phases_of c.args.behind)) (sym (c.begin-begun.ensures.newest none).size) sound.2

pub told_of-told-requires-clause-fit : goal.told_of-told-requires-clause-fit
told_of-told-requires-clause-fit g c = (c.begin-begun.ensures.moved c.in_default-refusal.is).placed.fit

pub told_of-told-requires-clause-roles : goal.told_of-told-requires-clause-roles
told_of-told-requires-clause-roles g c = (c.begin-begun.ensures.moved c.in_default-refusal.is).placed.roles

-- ---- it has begun

pub of_reshaping-requires-clause-ready : goal.of_reshaping-requires-clause-ready
of_reshaping-requires-clause-ready g c =
    let p = c.part_fixed-pieces.result in
    let same = c.part_fixed-pieces.ensures.same in
    let given = g.B.Bank.given p.bank in
    let new = c.begin-begun.new.members in
    let did = c.begin-begun.ensures in
    let none = c.in_default-refusal.is in
    let backup = c.in-Some-backup.backup in
    let who = c.args.who in
    let to = c.args.to in
    let behind = c.args.behind in
    let end = c.ops-end.result in
    let roles = c.told_of-told.result.roles in
    let spares = c.begin-begun.result.spares in
    let was = subst
    (λ (o : Option ℕ). IsReady g.B.Bank.tells given (g.B.Bank.tape p.bank) (scope_in given p.epoch.uuid p.epoch.given o) p.epoch.first p.epoch.entries.items p.members p.work p.ahead p.limit
    (g.B.Bank.faults_of p.bank) p.steps p.epoch.entries.room (vec_capacity p.rows) (length p.buffer.items) (vec_capacity p.far_rows) (length p.far_buffer.items)) c.in-Some-backup.is c.part_fixed-pieces.ensures.ready in
    let turned : HasKeptLength p.epoch.entries.items who = subst (λ s. HasKeptLength s.parts.entries who) same c.requires.open in
    let some : 1 ≤ p.steps = subst (λ s. 1 ≤ s.parts.steps) same c.requires.room in
    let idle = subst (λ s. left_of s.parts.work s.parts.members ≡ 0) same c.requires.done in
    let next = subst (λ s. phases_of s.ahead ≡ Reshape to ∷ phases_of behind) same c.requires.next in
    let backed = subst (λ s. (slot : ℕ) × (s.parts.backup ≡ Some slot) × IsBackupAt (g.B.Bank.given s.parts.bank) s.parts.members to slot) same c.requires.backed in
    let wide = subst (λ s. 512 * phase_window (shape_of s.parts.members.newest) s.parts.members.newest.size (Reshape to) ≤ length c.args.window.items) same c.requires.wide in
    let update : IsUpdated g.B.Bank.tells given (g.B.Bank.tape p.bank) (g.B.Bank.tape c.begin-begun.new.bank) backup p.epoch.uuid to p.members new spares (g.B.Bank.faults_of p.bank) (g.B.Bank.faults_of c.begin-begun.new.bank) = record {
      begun = did.begun none;
      newest = did.newest none;
      moved = did.moved none;
      failed = did.failed none;
      free = did.free;
      plain = did.plain none;
      others = did.others;
      grows = did.bank.grows;
      rise = did.rise;
      safe = did.safe none;
      counts = did.bank.counts;
    } in
    let left_is : c.told_of-told.result.left ≡ left_by None new (closed 0) behind = c.told_of-told.ensures.left ∙ plus-none (grow_left new.newest Closed 0 (phases_of behind)) in
    let back_is : c.told_of-told.result.back ≡ goes_back (shape_of p.members.newest) to = c.told_of-told.ensures.back ∙ (did.newest none).backward in
    let size_is : c.told_of-told.result.size ≡ list_length new.newest = c.told_of-told.ensures.size in
    let spares_is : c.told_of-told.result.spares ≡ spares = c.told_of-told.ensures.spares in
    begun-ready p.epoch.uuid p.epoch.given backup p.ahead behind to who end roles spares was turned c.requires.caller idle next (goes_back (shape_of p.members.newest) to) refl
    (backup-here given p.members to p.backup backup backed c.in-Some-backup.is) (sym c.contains.ensures ∙ c.if-not-contains.false) c.in_default.ensures update c.ops-end.ensures.count c.check_sizes.ensures.own c.check_sizes.ensures.uuid
    c.told_of-told.ensures.roles
    c.args.window.items wide did.bank.same
    (scope-same given p.backup did.bank.same c.enter_begun.ensures.uuid c.enter_begun.ensures.given ∙ ap (λ (o : Option ℕ). scope_in given p.epoch.uuid p.epoch.given o) c.in-Some-backup.is) c.enter_begun.ensures.first refl
    (c.enter_begun.ensures.items ∙ (λ i. p.epoch.entries.items ++ entries_of who end (Step Begun (left_is i) ∷ begun_length (back_is i) (size_is i) ++ losses_of roles (spares_is i))))
    (let had = was.room_left in let room = c.enter_begun.ensures.room in omega (arith, had, room, some))

pub returns-clause-begun : goal.returns-clause-begun
returns-clause-begun g c =
    let p = c.part_fixed-pieces.result in
    let same = c.part_fixed-pieces.ensures.same in
    let was = c.part_fixed-pieces.ensures.ready in
    let are = was.kept.members_are in
    let given = g.B.Bank.given p.bank in
    let new = c.begin-begun.new.members in
    let did = c.begin-begun.ensures in
    let none = c.in_default-refusal.is in
    let who = c.args.who in
    let to = c.args.to in
    let behind = c.args.behind in
    let end = c.ops-end.result in
    let roles = c.told_of-told.result.roles in
    let spares = c.begin-begun.result.spares in
    let some : 1 ≤ p.steps = subst (λ s. 1 ≤ s.parts.steps) same c.requires.room in
    let idle = subst (λ s. left_of s.parts.work s.parts.members ≡ 0) same c.requires.done in
    let next = subst (λ s. phases_of s.ahead ≡ Reshape to ∷ phases_of behind) same c.requires.next in
    let sound = next-sound (shape_of p.members.newest) p.members.newest.size (phases_of p.ahead) (phases_of behind) to was.planned next in
    let left_is : c.told_of-told.result.left ≡ left_by None new (closed 0) behind = c.told_of-told.ensures.left ∙ plus-none (grow_left new.newest Closed 0 (phases_of behind)) in
    let synced = none-pending p.members p.work.resync _ _ idle in
    let left_in_is : c.told_of-told.result.left ≡ left_in p.work new (closed 0) behind = left_is ∙ ap (λ (o : Option ℕ). left_by o new (closed 0) behind) (sym synced) in
    let back_is : c.told_of-told.result.back ≡ goes_back (shape_of p.members.newest) to = c.told_of-told.ensures.back ∙ (did.newest none).backward in
    let size_is : c.told_of-told.result.size ≡ list_length new.newest = c.told_of-told.ensures.size in
    let spares_is : c.told_of-told.result.spares ≡ spares = c.told_of-told.ensures.spares in
    let items = c.enter_begun.ensures.items ∙ (λ i. p.epoch.entries.items ++ entries_of who end (Step Begun (left_in_is i) ∷ begun_length (back_is i) (size_is i) ++ losses_of roles (spares_is i))) in
    let since = lost-since given p.members to are.placed are.unlost are.free are.still sound.0 sound.1 c.in_default.ensures new roles spares (g.B.Bank.faults_of p.bank) (g.B.Bank.faults_of c.begin-begun.new.bank)
    (did.moved none) (did.failed none) c.told_of-told.ensures.roles in
    begun-as g.B.Bank.given g.B.Bank.tape g.B.Bank.faults_of who to behind c.args.still c.of_reshaping.result _ _ same c.of_reshaping.ensures.same (record {
      could = c.in_default.ensures;
      entered = record { roles = roles; spares = spares; end = end; roles_told = since-told new roles (did.moved none).placed.roles c.told_of-told.ensures.roles; spares_told = (did.failed none).told; spares_were = did.spares none; is = items };
      ended = λ t. ap (λ (l : List Entry). last_end_from c.enter_begun.new.epoch.first l) items
          ∙ call-ends c.enter_begun.new.epoch.first p.epoch.entries.items who end (Step Begun (left_in p.work new (closed 0) behind))
          (begun_length (goes_back (shape_of p.members.newest) to) (list_length new.newest) ++ losses_of roles spares) ∙ c.ops-end.ensures.count t;
      grows = did.bank.grows;
      left = ap (λ (o : Option ℕ). left_by o new (closed 0) behind + 1) synced ∙ begun-left p.members new p.work p.ahead behind to (did.newest none) are.still idle next;
      start = begun-start p.members.newest new.newest to (did.newest none);
      long = λ i. list_end ((did.newest none).old i) ((did.newest none).new i) ((did.newest none).size i);
      held = (did.moved none).held;
      spares = (did.moved none).fewer;
      kept = (did.failed none).roles;
      spares_kept = λ slot was. elim ((did.failed none).told slot was) [ inl still ↦ inl still | inr gone ↦ inr ((did.failed none).spares_are slot gone) ];
      losses = begun-losses (begun_plan p.members to) new (g.B.Bank.faults_of p.bank) (g.B.Bank.faults_of c.begin-begun.new.bank) p.epoch.entries.items p.epoch.entries.items c.enter_begun.new.epoch.entries.items who end
          (left_in p.work new (closed 0) behind) (list_length new.newest) roles spares (goes_back (shape_of p.members.newest) to) since refl items;
      never_falls = did.bank.counts;
      clean = ap (λ (n : ℕ). n == 2 ^ 64 - 1) (did.newest none).clean;
      others = λ t slot k far which. did.others t slot k far (others-of p.backup c.in-Some-backup.backup slot k c.in-Some-backup.is which);
      course = refl;
      ahead = refl;
      steps = omega (arith, some);
      same = record { uuid = c.enter_begun.ensures.uuid; given = c.enter_begun.ensures.given; first = c.enter_begun.ensures.first; backup = refl; work = refl; limit = refl };
    })

-- ---- what the calls ask for

pub unbegun-requires-clause-shape : goal.unbegun-requires-clause-shape
unbegun-requires-clause-shape g c = c.part_fixed-pieces.ensures.ready.kept.members_are.placed.fit.valid.old

pub unbegun-requires-clause-roles : goal.unbegun-requires-clause-roles
unbegun-requires-clause-roles g c = c.part_fixed-pieces.ensures.ready.kept.members_are.placed.roles

pub give_back-requires-clause-open : goal.give_back-requires-clause-open
give_back-requires-clause-open g c = subst (λ s. IsCallGoing s.parts.entries c.args.who) c.part_fixed-pieces.ensures.same c.requires.open.goes

pub give_back-requires-clause-room : goal.give_back-requires-clause-room
give_back-requires-clause-room g c = subst (λ s. 1 ≤ s.parts.steps) c.part_fixed-pieces.ensures.same c.requires.room

pub give_back-requires-clause-why : goal.give_back-requires-clause-why
give_back-requires-clause-why g c = unbegun-plain c.part_fixed-pieces.result.members c.args.to c.in-Some.refusal c.in-Some.ensures

pub unreachable-requires : goal.unreachable-requires
unreachable-requires g c =
    let backed = subst (λ s. (slot : ℕ) × (s.parts.backup ≡ Some slot) × IsBackupAt (g.B.Bank.given s.parts.bank) s.parts.members c.args.to slot) c.part_fixed-pieces.ensures.same c.requires.backed in
    c.in_default-backup.not-Some backed.0 backed.1

pub contains-requires : goal.contains-requires
contains-requires g c =
    let p = c.part_fixed-pieces.result in
    let backed = subst (λ s. (slot : ℕ) × (s.parts.backup ≡ Some slot) × IsBackupAt (g.B.Bank.given s.parts.bank) s.parts.members c.args.to slot) c.part_fixed-pieces.ensures.same c.requires.backed in
    slot-below c.in-Some-backup.backup (g.B.Bank.given p.bank).slots (backup-here (g.B.Bank.given p.bank) p.members c.args.to p.backup c.in-Some-backup.backup backed c.in-Some-backup.is).known c.part_fixed-pieces.ensures.ready.kept.slots

pub fail_backup-still-requires-clause-open : goal.fail_backup-still-requires-clause-open
fail_backup-still-requires-clause-open g c = subst (λ s. IsCallGoing s.parts.entries c.args.who) c.part_fixed-pieces.ensures.same c.requires.open.goes

pub fail_backup-still-requires-clause-room : goal.fail_backup-still-requires-clause-room
fail_backup-still-requires-clause-room g c = subst (λ s. 1 ≤ s.parts.steps) c.part_fixed-pieces.ensures.same c.requires.room

pub fail_backup-still-requires-clause-slot : goal.fail_backup-still-requires-clause-slot
fail_backup-still-requires-clause-slot g c =
    let p = c.part_fixed-pieces.result in
    let backed = subst (λ s. (slot : ℕ) × (s.parts.backup ≡ Some slot) × IsBackupAt (g.B.Bank.given s.parts.bank) s.parts.members c.args.to slot) c.part_fixed-pieces.ensures.same c.requires.backed in
    (backup-here (g.B.Bank.given p.bank) p.members c.args.to p.backup c.in-Some-backup.backup backed c.in-Some-backup.is).known

pub fail_backup-still-requires-clause-failing : goal.fail_backup-still-requires-clause-failing
fail_backup-still-requires-clause-failing g c = sym c.contains.ensures ∙ c.if-not-contains.true

pub overflow_sub-pieces : goal.overflow_sub-pieces
overflow_sub-pieces g c = subst (λ s. 1 ≤ s.parts.steps) c.part_fixed-pieces.ensures.same c.requires.room

pub check_going-requires : goal.check_going-requires
check_going-requires g c = subst (λ s. IsCallGoing s.parts.entries c.args.who) c.part_fixed-pieces.ensures.same c.requires.open.goes

pub begin-begun-requires-clause-placed : goal.begin-begun-requires-clause-placed
begin-begun-requires-clause-placed g c = c.part_fixed-pieces.ensures.ready.kept.members_are.placed

pub begin-begun-requires-clause-unlost : goal.begin-begun-requires-clause-unlost
begin-begun-requires-clause-unlost g c = c.part_fixed-pieces.ensures.ready.kept.members_are.unlost

pub begin-begun-requires-clause-free : goal.begin-begun-requires-clause-free
begin-begun-requires-clause-free g c = c.part_fixed-pieces.ensures.ready.kept.members_are.free

pub begin-begun-requires-clause-still : goal.begin-begun-requires-clause-still
begin-begun-requires-clause-still g c = c.part_fixed-pieces.ensures.ready.kept.members_are.still

pub begin-begun-requires-clause-in_force : goal.begin-begun-requires-clause-in_force
begin-begun-requires-clause-in_force g c =
    let p = c.part_fixed-pieces.result in
    let next = subst (λ s. phases_of s.ahead ≡ Reshape c.args.to ∷ phases_of c.args.behind) c.part_fixed-pieces.ensures.same c.requires.next in
    (next-sound (shape_of p.members.newest) p.members.newest.size (phases_of p.ahead) (phases_of c.args.behind) c.args.to c.part_fixed-pieces.ensures.ready.planned next).0

pub begin-begun-requires-clause-level : goal.begin-begun-requires-clause-level
begin-begun-requires-clause-level g c =
    let p = c.part_fixed-pieces.result in
    let next = subst (λ s. phases_of s.ahead ≡ Reshape c.args.to ∷ phases_of c.args.behind) c.part_fixed-pieces.ensures.same c.requires.next in
    (next-sound (shape_of p.members.newest) p.members.newest.size (phases_of p.ahead) (phases_of c.args.behind) c.args.to c.part_fixed-pieces.ensures.ready.planned next).1

pub begin-begun-requires-clause-spares : goal.begin-begun-requires-clause-spares
begin-begun-requires-clause-spares g c = c.in_default.ensures.1

pub begin-begun-requires-clause-slot : goal.begin-begun-requires-clause-slot
begin-begun-requires-clause-slot g c =
    let p = c.part_fixed-pieces.result in
    let backed = subst (λ s. (slot : ℕ) × (s.parts.backup ≡ Some slot) × IsBackupAt (g.B.Bank.given s.parts.bank) s.parts.members c.args.to slot) c.part_fixed-pieces.ensures.same c.requires.backed in
    (backup-here (g.B.Bank.given p.bank) p.members c.args.to p.backup c.in-Some-backup.backup backed c.in-Some-backup.is).known

pub begin-begun-requires-clause-within : goal.begin-begun-requires-clause-within
begin-begun-requires-clause-within g c =
    let p = c.part_fixed-pieces.result in
    let backed = subst (λ s. (slot : ℕ) × (s.parts.backup ≡ Some slot) × IsBackupAt (g.B.Bank.given s.parts.bank) s.parts.members c.args.to slot) c.part_fixed-pieces.ensures.same c.requires.backed in
    has-one (phase_window (shape_of p.members.newest) p.members.newest.size (Reshape c.args.to)) ((g.B.Bank.given p.bank).sectors c.in-Some-backup.backup)
    (backup-here (g.B.Bank.given p.bank) p.members c.args.to p.backup c.in-Some-backup.backup backed c.in-Some-backup.is).room

pub append_entry-requires-clause-room : goal.append_entry-requires-clause-room
append_entry-requires-clause-room g c =
    room-for 1 c.part_fixed-pieces.result.steps c.part_fixed-pieces.result.epoch.entries.room c.part_fixed-pieces.ensures.ready.room_left (subst (λ s. 1 ≤ s.parts.steps) c.part_fixed-pieces.ensures.same c.requires.room) (omega arith)

pub enter_begun-requires-clause-room : goal.enter_begun-requires-clause-room
enter_begun-requires-clause-room g c =
    room-for 50 c.part_fixed-pieces.result.steps c.part_fixed-pieces.result.epoch.entries.room c.part_fixed-pieces.ensures.ready.room_left (subst (λ s. 1 ≤ s.parts.steps) c.part_fixed-pieces.ensures.same c.requires.room) (omega arith)

-- ---- what is as it was

pub returns-in-Some-clause-refused : goal.returns-in-Some-clause-refused
returns-in-Some-clause-refused g c =
    given-back g.B.Bank.given g.B.Bank.tape (g.B.Bank.tape c.give_back.result.parts.bank) (g.B.Bank.tape c.part_fixed-pieces.result.bank) c.args.who c.in-Some.refusal c.args.still c.give_back.result _ c.part_fixed-pieces.ensures.same
    (ap g.B.Bank.tape c.give_back.ensures.bank) c.give_back.ensures.back

pub returns-in-Some-clause-never_falls : goal.returns-in-Some-clause-never_falls
returns-in-Some-clause-never_falls g c =
    falls-as g.B.Bank.faults_of c.args.still _ (g.B.Bank.faults_of c.give_back.result.parts.bank) c.part_fixed-pieces.ensures.same
    (none-fall g.B.Bank.faults_of c.part_fixed-pieces.result.bank c.give_back.result.parts.bank c.give_back.ensures.bank)

pub returns-in-Some-clause-left_given : goal.returns-in-Some-clause-left_given
returns-in-Some-clause-left_given g c =
    still-given g.B.Bank.given c.args.still _ (g.B.Bank.given c.give_back.result.parts.bank) c.part_fixed-pieces.ensures.same (ap g.B.Bank.given c.give_back.ensures.bank)

pub returns-then-not-contains-clause-refused : goal.returns-then-not-contains-clause-refused
returns-then-not-contains-clause-refused g c =
    given-back g.B.Bank.given g.B.Bank.tape (g.B.Bank.tape c.fail_backup-still.result.parts.bank) (g.B.Bank.tape c.fail_backup-still.result.parts.bank) c.args.who BackupFault c.args.still c.fail_backup-still.result _ c.part_fixed-pieces.ensures.same
    refl c.fail_backup-still.ensures.back

pub returns-then-not-contains-clause-left_given : goal.returns-then-not-contains-clause-left_given
returns-then-not-contains-clause-left_given g c =
    still-given g.B.Bank.given c.args.still _ (g.B.Bank.given c.fail_backup-still.result.parts.bank) c.part_fixed-pieces.ensures.same c.fail_backup-still.ensures.given

pub returns-in-Some-refusal-clause-grows : goal.returns-in-Some-refusal-clause-grows
returns-in-Some-refusal-clause-grows g c =
    both-grow g.B.Bank.tape c.args.still c.of_fixed.result _ _ c.part_fixed-pieces.ensures.same c.of_fixed.ensures.same c.begin-begun.ensures.bank.grows

pub returns-in-Some-refusal-clause-left_given : goal.returns-in-Some-refusal-clause-left_given
returns-in-Some-refusal-clause-left_given g c =
    both-given g.B.Bank.given c.args.still c.of_fixed.result _ _ c.part_fixed-pieces.ensures.same c.of_fixed.ensures.same c.begin-begun.ensures.bank.same

pub returns-clause-given : goal.returns-clause-given
returns-clause-given g c =
    both-given g.B.Bank.given c.args.still c.of_reshaping.result _ _ c.part_fixed-pieces.ensures.same c.of_reshaping.ensures.same c.begin-begun.ensures.bank.same

-- ---- whether a reshape is active

pub returns-in-Some-clause-left_still : goal.returns-in-Some-clause-left_still
returns-in-Some-clause-left_still g c = c.give_back.ensures.still

pub returns-then-not-contains-clause-left_still : goal.returns-then-not-contains-clause-left_still
returns-then-not-contains-clause-left_still g c = c.fail_backup-still.ensures.still

pub returns-in-Some-refusal-clause-left_still : goal.returns-in-Some-refusal-clause-left_still
returns-in-Some-refusal-clause-left_still g c =
    ap (λ s. is_reshaping s.parts.members.newest) c.of_fixed.ensures.same
    ∙ (ap (λ (m : Members). is_reshaping m.newest) (c.begin-begun.ensures.refused c.in-Some-refusal.refusal c.in-Some-refusal.is).members ∙ c.part_fixed-pieces.ensures.ready.kept.members_are.still)

pub returns-clause-active : goal.returns-clause-active
returns-clause-active g c = ap (λ s. is_reshaping s.parts.members.newest) c.of_reshaping.ensures.same ∙ (c.begin-begun.ensures.newest c.in_default-refusal.is).active
