use Rattle.std.proofs.Common.{◌≡◌, ◌≤◌, List, None, [], ◌∷◌, ◌++◌, length, refl, sym, ◌∙◌, ap, subst, arith}
use Rattle.std.specs.Prelude.{option_map, if◌then◌else◌}
use Rattle.array_reply_specs.specs.bank_Given.{sizes}
use Rattle.array_reply_specs.specs.raid_types_the_Shape.{Shape}
use Rattle.array_reply_specs.specs.raid_types_the_Phase.{Phase}
use Rattle.array_transition.specs.reshape_plan_Plans.{AreSound, phases, phases_steps, largest_window, last_shape}
use Rattle.array_transition.specs.sb_specs_Reading.{is_reshaping, shape_of, final_shape}
use Rattle.array_reply_specs.specs.history_the_Entry.{Entry}
use Rattle.array_reply_specs.specs.history_the_Event_TheVariants.{Planned}
use Rattle.array_transition.specs.history_Fits.{phases_left}
use Rattle.array_reply_specs.specs.history_Flat.{next_number}
use Rattle.array_transition.specs.history_Plain.{entries_of}
use Rattle.array_transition.specs.history_World.{World}
use Rattle.array_reply_specs.specs.array_call_specs_Kept.{scope_in, world_in}
use Rattle.array_reply_specs.proofs.array_call_specs_LossLaws.{ended-behind}
use Rattle.array_reply_specs.proofs.array_call_specs_ReadyLaws.{scope-same}
use Rattle.array_transition.specs.reshape_request_Asked.{asked_of, grow_refusal}
use Rattle.array_transition.specs.reshape_request_Left.{phases_of}
use Rattle.array_transition.proofs.reshape_request_FirstLaws.{unrefused-plan}
use Rattle.array_reply_specs.specs.history_invariant_laws_Reliable.{IsReliable}
use Rattle.array_transition.specs.array_specs_Parts.{visible_size}
use Rattle.array_transition.specs.array_specs_Plans.{GoTo}
use Rattle.array_transition.proofs.array_call_specs_DegradedLaws.{within-count}
use Rattle.array_grow.specs.Planned.{asked_in, HasWideBackup}
use Rattle.array_grow.proofs.Idle.{planned-whole, planned-idle, some-steps}
use Rattle.array_grow.proofs.Fitting.{told-by, plan-fits, phases-told}
use Rattle.array_grow.proofs.Kept.{planned-ready, wide-backup}
use Rattle.array_grow.proofs.PlanLaws.{planned-goes}
use Rattle.array_grow.proofs.Told.{reply-as, end-as, left-as, planned-as, goes-as}
use Rattle.array_grow.proofs.planning.enter_plan.Goals as goal

pub plan_of-plan-requires-clause-taken : goal.plan_of-plan-requires-clause-taken
plan_of-plan-requires-clause-taken g c =
    let taken = subst (λ s. grow_refusal (asked_in (g.B.Bank.given s.parts.bank) s) c.args.wish ≡ None) c.part_fixed-pieces.ensures.same c.requires.taken in
    let p = c.part_fixed-pieces.result in
    unrefused-plan (asked_of p.members p.work.resync (length (phases_of p.ahead)) (visible_size p.members p.limit) (option_map (sizes (g.B.Bank.given p.bank)).sectors p.backup)) c.args.wish taken

pub of_fixed-requires : goal.of_fixed-requires
of_fixed-requires g c =
    let was = c.part_fixed-pieces.ensures.ready in
    let p = c.part_fixed-pieces.result in
    let same = c.part_fixed-pieces.ensures.same in
    let given = g.B.Bank.given p.bank in
    let who = c.args.who in
    let end = c.ops-end.result in
    let wish = c.args.wish in
    let plan = c.plan_of-plan in
    let a = asked_of p.members p.work.resync (length (phases_of p.ahead)) (visible_size p.members p.limit) (option_map (sizes given).sectors p.backup) in
    let number = subst (λ s. who.number ≡ next_number who.caller s.parts.entries) same c.requires.next in
    let some : 1 ≤ p.steps = subst (λ s. 1 ≤ s.parts.steps) same c.requires.room in
    let taken = subst (λ s. grow_refusal (asked_in (g.B.Bank.given s.parts.bank) s) wish ≡ None) same c.requires.taken in
    let ahead : phases_of c.all_left-pieces.result ≡ phases (shape_of p.members.newest) wish = c.all_left-pieces.ensures ∙ plan.ensures.phases in
    let steps : plan.result.steps ≡ phases_steps (shape_of p.members.newest) p.members.newest.size (phases_of c.all_left-pieces.result) =
    plan.ensures.steps ∙ ap (phases_steps (shape_of p.members.newest) p.members.newest.size) (sym ahead) in
    let idle = planned-idle a wish p.work refl (λ role. within-count given p.members was.kept.members_are.placed role) taken in
    record {
      ready = planned-ready who end wish plan.result.steps was number c.requires.caller c.ops-end.ensures.count
          (subst (AreSound (shape_of p.members.newest) p.members.newest.size) (sym ahead) plan.ensures.sound) (omega (arith, idle, steps))
          (scope-same given p.backup refl c.append_entry.ensures.uuid c.append_entry.ensures.given) c.append_entry.ensures.first c.append_entry.ensures.items
          (let had = was.room_left in let room = c.append_entry.ensures.room in omega (arith, had, room, some));
    }

pub returns-clause-reply : goal.returns-clause-reply
returns-clause-reply g c =
    let was = c.part_fixed-pieces.ensures.ready in
    let p = c.part_fixed-pieces.result in
    let same = c.part_fixed-pieces.ensures.same in
    let given = g.B.Bank.given p.bank in
    let tape = g.B.Bank.tape p.bank in
    let who = c.args.who in
    let end = c.ops-end.result in
    let wish = c.args.wish in
    let a = asked_of p.members p.work.resync (length (phases_of p.ahead)) (visible_size p.members p.limit) (option_map (sizes given).sectors p.backup) in
    let number = subst (λ s. who.number ≡ next_number who.caller s.parts.entries) same c.requires.next in
    let taken = subst (λ s. grow_refusal (asked_in (g.B.Bank.given s.parts.bank) s) wish ≡ None) same c.requires.taken in
    reply-as g.B.Bank.given g.B.Bank.tape wish who (Planned c.plan_of-plan.result.steps wish) c.args.still c.of_fixed.result _ _ same c.of_fixed.ensures.same (record {
      end = end;
      at_end = c.ops-end.ensures.count;
      is = c.append_entry.ensures.items;
      fits = λ t right ahead read. plan-fits (world_in given tape (scope_in given p.epoch.uuid p.epoch.given p.backup) p.epoch.first) p.epoch.entries.items who end a wish c.plan_of-plan.result.steps number (c.ops-end.ensures.count t)
          (told-by (length (phases_of p.ahead)) end was.kept was.limited t right (c.ops-end.ensures.count t) ahead read) taken c.plan_of-plan.ensures.steps;
    })

pub returns-clause-ended : goal.returns-clause-ended
returns-clause-ended g c =
    let p = c.part_fixed-pieces.result in
    end-as g.B.Bank.tape c.of_fixed.result _ c.of_fixed.ensures.same
    (ended-behind (g.B.Bank.tape p.bank) c.append_entry.new.epoch.first p.epoch.entries.items c.args.who c.ops-end.result [] (Planned c.plan_of-plan.result.steps c.args.wish) c.append_entry.ensures.items c.ops-end.ensures.count)

pub returns-clause-left : goal.returns-clause-left
returns-clause-left g c =
    let was = c.part_fixed-pieces.ensures.ready in
    let p = c.part_fixed-pieces.result in
    let given = g.B.Bank.given p.bank in
    let wish = c.args.wish in
    let plan = c.plan_of-plan in
    let a = asked_of p.members p.work.resync (length (phases_of p.ahead)) (visible_size p.members p.limit) (option_map (sizes given).sectors p.backup) in
    let taken = subst (λ s. grow_refusal (asked_in (g.B.Bank.given s.parts.bank) s) wish ≡ None) c.part_fixed-pieces.ensures.same c.requires.taken in
    let ahead : phases_of c.all_left-pieces.result ≡ phases (shape_of p.members.newest) wish = c.all_left-pieces.ensures ∙ plan.ensures.phases in
    let steps : plan.result.steps ≡ phases_steps (shape_of p.members.newest) p.members.newest.size (phases_of c.all_left-pieces.result) =
    plan.ensures.steps ∙ ap (phases_steps (shape_of p.members.newest) p.members.newest.size) (sym ahead) in
    let idle = planned-idle a wish p.work refl (λ role. within-count given p.members was.kept.members_are.placed role) taken in
    left-as plan.result.steps c.of_fixed.result _ c.of_fixed.ensures.same (omega (arith, idle, steps))

pub returns-clause-planned : goal.returns-clause-planned
returns-clause-planned g c =
    let was = c.part_fixed-pieces.ensures.ready in
    let p = c.part_fixed-pieces.result in
    let given = g.B.Bank.given p.bank in
    let tape = g.B.Bank.tape p.bank in
    let who = c.args.who in
    let end = c.ops-end.result in
    let wish = c.args.wish in
    let plan = c.plan_of-plan in
    let shape = shape_of p.members.newest in
    let a = asked_of p.members p.work.resync (length (phases_of p.ahead)) (visible_size p.members p.limit) (option_map (sizes given).sectors p.backup) in
    let taken = subst (λ s. grow_refusal (asked_in (g.B.Bank.given s.parts.bank) s) wish ≡ None) c.part_fixed-pieces.ensures.same c.requires.taken in
    let ahead : phases_of c.all_left-pieces.result ≡ phases shape wish = c.all_left-pieces.ensures ∙ plan.ensures.phases in
    let scope_is = scope-same given p.backup refl c.append_entry.ensures.uuid c.append_entry.ensures.given in
    let world_is : ◌≡◌ {A = World} (world_in given tape (scope_in given c.append_entry.new.epoch.uuid c.append_entry.new.epoch.given p.backup) c.append_entry.new.epoch.first) (world_in given tape (scope_in given p.epoch.uuid p.epoch.given p.backup) p.epoch.first) =
    λ i. world_in given tape (scope_is i) (c.append_entry.ensures.first i) in
    let items = c.append_entry.ensures.items in
    planned-as g.B.Bank.given g.B.Bank.tape wish plan.result.steps c.of_fixed.result _ c.of_fixed.ensures.same (record {
      ahead = ahead;
      left_is = plan.ensures.steps ∙ ap (phases_steps shape p.members.newest.size) (sym ahead);
      some = let more = some-steps shape p.members.newest.size (phases shape wish) _ plan.result.first plan.ensures.phases in let is = plan.ensures.steps in omega (arith, more, is);
      idle = planned-idle a wish p.work refl (λ role. within-count given p.members was.kept.members_are.placed role) taken;
      whole = planned-whole a wish taken;
      sound = subst (AreSound shape p.members.newest.size) (sym ahead) plan.ensures.sound;
      backed = subst (λ (l : List Phase). HasWideBackup given p.backup (largest_window shape p.members.newest.size l)) (sym ahead) (wide-backup given p.backup a wish refl taken);
      told = λ t right. (λ i. phases_left (world_is i) (items i))
          ∙ phases-told who end wish plan.result.steps was.kept (planned-whole a wish taken) c.ops-end.ensures.count t (subst (λ (w : World). IsReliable w (p.epoch.entries.items ++ entries_of who end (Planned plan.result.steps wish ∷ []))) world_is
          (subst (λ (l : List Entry). IsReliable (world_in given tape (scope_in given c.append_entry.new.epoch.uuid c.append_entry.new.epoch.given p.backup) c.append_entry.new.epoch.first) l) items right))
          ∙ ap (λ (l : List Phase). length l) (sym ahead);
    })

pub returns-clause-goes : goal.returns-clause-goes
returns-clause-goes g c =
    let was = c.part_fixed-pieces.ensures.ready in
    let p = c.part_fixed-pieces.result in
    let given = g.B.Bank.given p.bank in
    let tape = g.B.Bank.tape p.bank in
    let who = c.args.who in
    let end = c.ops-end.result in
    let wish = c.args.wish in
    let plan = c.plan_of-plan in
    let shape = shape_of p.members.newest in
    let a = asked_of p.members p.work.resync (length (phases_of p.ahead)) (visible_size p.members p.limit) (option_map (sizes given).sectors p.backup) in
    let taken = subst (λ s. grow_refusal (asked_in (g.B.Bank.given s.parts.bank) s) wish ≡ None) c.part_fixed-pieces.ensures.same c.requires.taken in
    let ahead : phases_of c.all_left-pieces.result ≡ phases shape wish = c.all_left-pieces.ensures ∙ plan.ensures.phases in
    let scope_is = scope-same given p.backup refl c.append_entry.ensures.uuid c.append_entry.ensures.given in
    let world_is : ◌≡◌ {A = World} (world_in given tape (scope_in given c.append_entry.new.epoch.uuid c.append_entry.new.epoch.given p.backup) c.append_entry.new.epoch.first) (world_in given tape (scope_in given p.epoch.uuid p.epoch.given p.backup) p.epoch.first) =
    λ i. world_in given tape (scope_is i) (c.append_entry.ensures.first i) in
    let aim_is : last_shape (if is_reshaping p.members.newest then final_shape p.members.newest else shape) (phases_of c.all_left-pieces.result) ≡ last_shape shape (phases_of c.all_left-pieces.result) =
    λ i. last_shape (if was.kept.members_are.still i then final_shape p.members.newest else shape) (phases_of c.all_left-pieces.result) in
    goes-as g.B.Bank.given g.B.Bank.tape c.args.still c.of_fixed.result _ _ c.part_fixed-pieces.ensures.same c.of_fixed.ensures.same (λ none t right.
    subst (λ (s : Shape). GoTo (world_in given tape (scope_in given c.append_entry.new.epoch.uuid c.append_entry.new.epoch.given p.backup) c.append_entry.new.epoch.first) s c.append_entry.new.epoch.entries.items) (sym aim_is)
    (subst (λ (w : World). GoTo w (last_shape shape (phases_of c.all_left-pieces.result)) c.append_entry.new.epoch.entries.items) (sym world_is)
    (subst (λ (l : List Entry). GoTo (world_in given tape (scope_in given p.epoch.uuid p.epoch.given p.backup) p.epoch.first) (last_shape shape (phases_of c.all_left-pieces.result)) l) (sym c.append_entry.ensures.items)
    (planned-goes who end wish plan.result.steps (phases_of c.all_left-pieces.result) was.kept (planned-whole a wish taken) c.ops-end.ensures.count ahead none t
    (subst (λ (w : World). IsReliable w (p.epoch.entries.items ++ entries_of who end (Planned plan.result.steps wish ∷ []))) world_is
    (subst (λ (l : List Entry). IsReliable (world_in given tape (scope_in given c.append_entry.new.epoch.uuid c.append_entry.new.epoch.given p.backup) c.append_entry.new.epoch.first) l) c.append_entry.ensures.items right))))))

pub returns-clause-still : goal.returns-clause-still
returns-clause-still g c = ap (λ s. is_reshaping s.parts.members.newest) c.of_fixed.ensures.same ∙ c.part_fixed-pieces.ensures.ready.kept.members_are.still
