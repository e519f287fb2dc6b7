use Rattle.std.proofs.Common.{◌≡◌, ℕ, ◌≤◌, ◌-◌, Option, List, ◌∷◌, ◌++◌, length, vec_capacity, refl, sym, ◌∙◌, ap, subst, arith}
use Rattle.std.specs.Prelude.{IfSome}
use Rattle.reshape_sb_takeover.proofs.raid_layout_Limits.{limited}
use Rattle.array_fixed_sync.specs.reshape_plan_Plans.{AreSound}
use Rattle.array_fixed_sync.specs.sb_specs_Reading.{shape_of, is_reshaping}
use Rattle.array_fixed_sync.proofs.sb_specs_ValidFields.{few-roles}
use Rattle.array_fixed_sync.specs.history_the_Entry.{Entry}
use Rattle.array_fixed_sync.specs.history_the_Event_TheVariants.{Step}
use Rattle.array_fixed_sync.specs.history_the_StepKind_TheVariants.{TakenOver}
use Rattle.array_fixed_sync.specs.history_Plain.{entries_of}
use Rattle.array_fixed_sync.specs.history_Transfers.{last_end_from}
use Rattle.array_fixed_sync.specs.array_members_the_Work.{Work}
use Rattle.array_fixed_sync.specs.array_members_Status.{left_of, stripes_of}
use Rattle.array_fixed_sync.proofs.array_members_Fit.{fit-short}
use Rattle.array_takeover_laws.specs.history_append_Losing.{losses_of}
use Rattle.array_fixed_sync.specs.array_call_specs_Calls.{AreStepsFewer}
use Rattle.array_fixed_sync.specs.array_call_specs_Kept.{scope_in}
use Rattle.array_fixed_sync.proofs.array_call_specs_ReadyLaws.{scope-same}
use Rattle.array_fixed_sync.specs.reshape_request_Left.{phases_of}
use Rattle.array_fixed_sync.specs.history_invariant_Recorded.{IsCallGoing}
use Rattle.array_fixed_sync.specs.history_invariant_Safe.{world_in}
use Rattle.array_fixed_sync.specs.array_specs_Calls.{moving_world}
use Rattle.array_fixed_sync.specs.array_specs_Parts.{still_left}
use Rattle.array_fixed_sync.specs.array_specs_Plans.{ArePlansKept}
use Rattle.array_fixed_sync.specs.array_fixed_laws_Ready.{IsReady}
use Rattle.array_fixed_sync.proofs.array_fixed_laws_Closing.{LeadTo}
use Rattle.array_fixed_sync.proofs.history_laws_OneShapeGrowing.{call-ends}
use Rattle.array_takeover.specs.TakenOver.{IsTakeoverNext, work_then}
use Rattle.array_takeover.proofs.Chosen.{sound-next, can-take, told-ahead}
use Rattle.array_takeover.proofs.Parted.{untaken-as, untouched-as, both-given, taken-as, room-for}
use Rattle.array_takeover.proofs.TakenReady.{IsUpdated, synced-then, taken-ready, taken-longer, taken-fewer, taken-losses, taken-told}
use Rattle.array_takeover.proofs.taking.take_over.Goals as goal

-- ---- why it isn't done

-- a plan was told

pub give_back-requires-clause-told : goal.give_back-requires-clause-told
give_back-requires-clause-told g c =
    let p = c.part_fixed-pieces.result in
    let next = subst (λ s. IsTakeoverNext (phases_of s.ahead) c.args.to (phases_of c.args.behind)) c.part_fixed-pieces.ensures.same c.requires.next in
    told-ahead (phases_of p.ahead) (phases_of c.args.behind) c.args.to c.part_fixed-pieces.ensures.ready.ahead_told next

pub give_back-requires-clause-why : goal.give_back-requires-clause-why
give_back-requires-clause-why g c = (c.args.to, c.in-Err.ensures.refused)

pub returns-in-Err-clause-caused : goal.returns-in-Err-clause-caused
returns-in-Err-clause-caused g c = untaken-as c.args.to c.in-Err.refusal c.args.still _ c.part_fixed-pieces.ensures.same c.in-Err.ensures.refused

-- ---- what is asked of the update

pub take_over-spares-requires-clause-valid : goal.take_over-spares-requires-clause-valid
take_over-spares-requires-clause-valid g c =
    let p = c.part_fixed-pieces.result in
    let next = subst (λ s. IsTakeoverNext (phases_of s.ahead) c.args.to (phases_of c.args.behind)) c.part_fixed-pieces.ensures.same c.requires.next in
    (sound-next (shape_of p.members.newest) c.args.to p.members.newest.size (phases_of p.ahead) (phases_of c.args.behind) c.part_fixed-pieces.ensures.ready.planned next).valid

pub take_over-spares-requires-clause-can : goal.take_over-spares-requires-clause-can
take_over-spares-requires-clause-can g c =
    let p = c.part_fixed-pieces.result in
    let next = subst (λ s. IsTakeoverNext (phases_of s.ahead) c.args.to (phases_of c.args.behind)) c.part_fixed-pieces.ensures.same c.requires.next in
    can-take p.members c.args.to c.in-Ok.slot (sound-next (shape_of p.members.newest) c.args.to p.members.newest.size (phases_of p.ahead) (phases_of c.args.behind) c.part_fixed-pieces.ensures.ready.planned next).way c.in-Ok.ensures.chosen

-- ---- the steps that are left

pub mark_unbuilt-requires-clause-least : goal.mark_unbuilt-requires-clause-least
mark_unbuilt-requires-clause-least g c =
    let p = c.part_fixed-pieces.result in
    let next = subst (λ s. IsTakeoverNext (phases_of s.ahead) c.args.to (phases_of c.args.behind)) c.part_fixed-pieces.ensures.same c.requires.next in
    let least = (limited c.args.to (sound-next (shape_of p.members.newest) c.args.to p.members.newest.size (phases_of p.ahead) (phases_of c.args.behind) c.part_fixed-pieces.ensures.ready.planned next).valid).least in
    omega (arith, least)

pub mark_unbuilt-requires-clause-most : goal.mark_unbuilt-requires-clause-most
mark_unbuilt-requires-clause-most g c =
    let p = c.part_fixed-pieces.result in
    let next = subst (λ s. IsTakeoverNext (phases_of s.ahead) c.args.to (phases_of c.args.behind)) c.part_fixed-pieces.ensures.same c.requires.next in
    (limited c.args.to (sound-next (shape_of p.members.newest) c.args.to p.members.newest.size (phases_of p.ahead) (phases_of c.args.behind) c.part_fixed-pieces.ensures.ready.planned next).valid).most

pub told_of-told-requires-clause-size : goal.told_of-told-requires-clause-size
told_of-told-requires-clause-size g c = fit-short c.take_over-spares.new.members.newest c.take_over-spares.ensures.moved.placed.fit

pub told_of-told-requires-clause-progress : goal.told_of-told-requires-clause-progress
told_of-told-requires-clause-progress g c =
    let p = c.part_fixed-pieces.result in
    let idle = subst (λ s. left_of s.parts.work s.parts.members ≡ 0) c.part_fixed-pieces.ensures.same c.requires.done in
    let none = ap (λ (w : Work). w.resync) c.mark_unbuilt.ensures.work ∙ synced-then c.args.to p.members p.work idle in
    subst (λ (o : Option ℕ). IfSome o (λ mended. mended ≤ stripes_of c.take_over-spares.new.members)) (sym none) tt

pub told_of-told-requires-clause-sound : goal.told_of-told-requires-clause-sound
told_of-told-requires-clause-sound g c =
    let p = c.part_fixed-pieces.result in
    let next = subst (λ s. IsTakeoverNext (phases_of s.ahead) c.args.to (phases_of c.args.behind)) c.part_fixed-pieces.ensures.same c.requires.next in
    subst (λ (n : ℕ). AreSound c.args.to n (phases_of c.args.behind)) (sym c.take_over-spares.ensures.newest.size)
    (sound-next (shape_of p.members.newest) c.args.to p.members.newest.size (phases_of p.ahead) (phases_of c.args.behind) c.part_fixed-pieces.ensures.ready.planned next).rest

-- ---- it is taken over

pub of_fixed-requires : goal.of_fixed-requires
of_fixed-requires g c =
    let p = c.part_fixed-pieces.result in
    let same = c.part_fixed-pieces.ensures.same in
    let was = c.part_fixed-pieces.ensures.ready in
    let given = g.B.Bank.given p.bank in
    let tape = g.B.Bank.tape p.bank in
    let bank = c.take_over-spares.new.bank in
    let new = c.take_over-spares.new.members in
    let did = c.take_over-spares.ensures in
    let epoch = c.enter_taken.new.epoch in
    let who = c.args.who in
    let to = c.args.to in
    let behind = c.args.behind in
    let end = c.ops-end.result in
    let roles = c.told_of-told.result.roles in
    let spares = c.take_over-spares.result in
    let goes = subst (λ s. IsCallGoing s.parts.entries who) same c.requires.open in
    let some : 1 ≤ p.steps = subst (λ s. 1 ≤ s.parts.steps) same c.requires.room in
    let idle = subst (λ s. left_of s.parts.work s.parts.members ≡ 0) same c.requires.done in
    let next = subst (λ s. IsTakeoverNext (phases_of s.ahead) to (phases_of behind)) same c.requires.next in
    let lead : LeadTo g.B.Bank.tells (world_in given tape (scope_in given p.epoch.uuid p.epoch.given p.backup) p.epoch.first) p.epoch.entries.items p.members p.ahead =
    subst (λ s. ArePlansKept g.B.Bank.tells (moving_world (g.B.Bank.given s.parts.bank) (g.B.Bank.tape s.parts.bank) s) s) same c.requires.plans in
    let update : IsUpdated g.B.Bank.tells given tape (g.B.Bank.tape bank) to c.in-Ok.slot p.members new spares (g.B.Bank.faults_of p.bank) (g.B.Bank.faults_of bank) = record {
      newest = did.newest;
      plan = did.plan;
      moved = did.moved;
      failed = did.failed;
      free = did.free;
      others = did.others;
      grows = did.bank.grows;
      rise = did.rise;
      safe = did.safe;
      counts = did.bank.counts;
    } in
    let left_is : c.told_of-told.result.left ≡ still_left (work_then to p.work) new behind = c.told_of-told.ensures.left ∙ ap (λ (w : Work). still_left w new behind) c.mark_unbuilt.ensures.work in
    let spares_is : c.told_of-told.result.spares ≡ spares = c.told_of-told.ensures.spares in
    record {
      ready = subst
          (λ (w : Work). IsReady g.B.Bank.tells (g.B.Bank.given bank) (g.B.Bank.tape bank) (scope_in (g.B.Bank.given bank) epoch.uuid epoch.given p.backup) epoch.first epoch.entries.items new w behind p.limit
          (g.B.Bank.faults_of bank) (p.steps - 1) epoch.entries.room (vec_capacity p.rows) (length p.buffer.items) (vec_capacity p.far_rows) (length p.far_buffer.items)) (sym c.mark_unbuilt.ensures.work)
          (taken-ready p.ahead behind to c.in-Ok.slot who end roles spares was goes c.requires.caller idle next lead c.in-Ok.ensures.whole c.in-Ok.ensures.chosen update c.ops-end.ensures.count c.mark_unbuilt.ensures.long c.told_of-told.ensures.roles
          did.bank.same (scope-same given p.backup did.bank.same c.enter_taken.ensures.uuid c.enter_taken.ensures.given) c.enter_taken.ensures.first refl
          (c.enter_taken.ensures.items ∙ (λ i. p.epoch.entries.items ++ entries_of who end (Step TakenOver (left_is i) ∷ losses_of roles (spares_is i))))
          (let had = was.room_left in let room = c.enter_taken.ensures.room in omega (arith, had, room, some)));
    }

pub returns-clause-taken : goal.returns-clause-taken
returns-clause-taken g c =
    let p = c.part_fixed-pieces.result in
    let same = c.part_fixed-pieces.ensures.same in
    let was = c.part_fixed-pieces.ensures.ready in
    let given = g.B.Bank.given p.bank in
    let tape = g.B.Bank.tape p.bank in
    let bank = c.take_over-spares.new.bank in
    let new = c.take_over-spares.new.members in
    let did = c.take_over-spares.ensures in
    let who = c.args.who in
    let to = c.args.to in
    let behind = c.args.behind in
    let end = c.ops-end.result in
    let roles = c.told_of-told.result.roles in
    let spares = c.take_over-spares.result in
    let goes = subst (λ s. IsCallGoing s.parts.entries who) same c.requires.open in
    let some : 1 ≤ p.steps = subst (λ s. 1 ≤ s.parts.steps) same c.requires.room in
    let idle = subst (λ s. left_of s.parts.work s.parts.members ≡ 0) same c.requires.done in
    let next = subst (λ s. IsTakeoverNext (phases_of s.ahead) to (phases_of behind)) same c.requires.next in
    let lead : LeadTo g.B.Bank.tells (world_in given tape (scope_in given p.epoch.uuid p.epoch.given p.backup) p.epoch.first) p.epoch.entries.items p.members p.ahead =
    subst (λ s. ArePlansKept g.B.Bank.tells (moving_world (g.B.Bank.given s.parts.bank) (g.B.Bank.tape s.parts.bank) s) s) same c.requires.plans in
    let update : IsUpdated g.B.Bank.tells given tape (g.B.Bank.tape bank) to c.in-Ok.slot p.members new spares (g.B.Bank.faults_of p.bank) (g.B.Bank.faults_of bank) = record {
      newest = did.newest;
      plan = did.plan;
      moved = did.moved;
      failed = did.failed;
      free = did.free;
      others = did.others;
      grows = did.bank.grows;
      rise = did.rise;
      safe = did.safe;
      counts = did.bank.counts;
    } in
    let left_is : c.told_of-told.result.left ≡ still_left (work_then to p.work) new behind = c.told_of-told.ensures.left ∙ ap (λ (w : Work). still_left w new behind) c.mark_unbuilt.ensures.work in
    let spares_is : c.told_of-told.result.spares ≡ spares = c.told_of-told.ensures.spares in
    let entered = c.enter_taken.ensures.items ∙ (λ i. p.epoch.entries.items ++ entries_of who end (Step TakenOver (c.told_of-told.ensures.left i) ∷ losses_of roles (spares_is i))) in
    let items = c.enter_taken.ensures.items ∙ (λ i. p.epoch.entries.items ++ entries_of who end (Step TakenOver (left_is i) ∷ losses_of roles (spares_is i))) in
    taken-as g.B.Bank.given g.B.Bank.tape g.B.Bank.faults_of who to behind c.args.still c.of_fixed.result _ _ same c.of_fixed.ensures.same (record {
      whole = c.in-Ok.ensures.whole;
      slot = c.in-Ok.slot;
      chosen = c.in-Ok.ensures.chosen;
      entered = record {
        roles = roles;
        spares = spares;
        end = end;
        roles_told = taken-told p.ahead behind to c.in-Ok.slot who end roles spares was goes c.requires.caller idle next lead c.in-Ok.ensures.whole c.in-Ok.ensures.chosen update c.ops-end.ensures.count c.mark_unbuilt.ensures.long
            c.told_of-told.ensures.roles;
        spares_told = did.failed.told;
        spares_were = did.spares;
        is = entered;
      };
      ended = λ t. ap (λ (l : List Entry). last_end_from c.enter_taken.new.epoch.first l) items
          ∙ call-ends c.enter_taken.new.epoch.first p.epoch.entries.items who end (Step TakenOver (still_left (work_then to p.work) new behind)) (losses_of roles spares) ∙ c.ops-end.ensures.count t;
      grows = did.bank.grows;
      left = subst (λ (w : Work). AreStepsFewer p.epoch.entries.items c.enter_taken.new.epoch.entries.items (still_left p.work p.members p.ahead) (still_left w new behind)) (sym c.mark_unbuilt.ensures.work)
          (taken-fewer p.ahead behind to c.in-Ok.slot who end roles spares was goes c.requires.caller idle next lead c.in-Ok.ensures.whole c.in-Ok.ensures.chosen update c.ops-end.ensures.count c.mark_unbuilt.ensures.long
          c.told_of-told.ensures.roles refl items);
      newest = did.newest;
      long = taken-longer p.ahead behind to c.in-Ok.slot who end roles spares was goes c.requires.caller idle next lead c.in-Ok.ensures.whole c.in-Ok.ensures.chosen update c.ops-end.ensures.count c.mark_unbuilt.ensures.long
          c.told_of-told.ensures.roles;
      held = did.moved.held;
      spares = did.moved.fewer;
      kept = did.failed.roles;
      losses = taken-losses p.ahead behind to c.in-Ok.slot who end roles spares was goes c.requires.caller idle next lead c.in-Ok.ensures.whole c.in-Ok.ensures.chosen update c.ops-end.ensures.count c.mark_unbuilt.ensures.long
          c.told_of-told.ensures.roles refl items;
      never_falls = did.bank.counts;
      others = did.others;
      course = refl;
      ahead = refl;
      steps = omega (arith, some);
      work = c.mark_unbuilt.ensures.work;
      same = record { uuid = c.enter_taken.ensures.uuid; given = c.enter_taken.ensures.given; first = c.enter_taken.ensures.first; backup = refl; limit = refl };
    })

-- ---- what the calls ask for

pub taken_slot-requires-clause-roles : goal.taken_slot-requires-clause-roles
taken_slot-requires-clause-roles g c = c.part_fixed-pieces.ensures.ready.kept.members_are.placed.roles

pub taken_slot-requires-clause-few : goal.taken_slot-requires-clause-few
taken_slot-requires-clause-few g c =
    subst (λ (n : ℕ). n ≤ 16) (sym c.part_fixed-pieces.ensures.ready.kept.members_are.placed.roles) (few-roles c.part_fixed-pieces.result.members.newest c.part_fixed-pieces.ensures.ready.kept.members_are.placed.fit.valid)

pub give_back-requires-clause-open : goal.give_back-requires-clause-open
give_back-requires-clause-open g c = subst (λ s. IsCallGoing s.parts.entries c.args.who) c.part_fixed-pieces.ensures.same c.requires.open

pub give_back-requires-clause-room : goal.give_back-requires-clause-room
give_back-requires-clause-room g c = subst (λ s. 1 ≤ s.parts.steps) c.part_fixed-pieces.ensures.same c.requires.room

pub overflow_sub-pieces : goal.overflow_sub-pieces
overflow_sub-pieces g c = subst (λ s. 1 ≤ s.parts.steps) c.part_fixed-pieces.ensures.same c.requires.room

pub check_going-requires : goal.check_going-requires
check_going-requires g c = subst (λ s. IsCallGoing s.parts.entries c.args.who) c.part_fixed-pieces.ensures.same c.requires.open

pub take_over-spares-requires-clause-stands : goal.take_over-spares-requires-clause-stands
take_over-spares-requires-clause-stands g c =
    record {
      slots = c.part_fixed-pieces.ensures.ready.kept.slots;
      placed = c.part_fixed-pieces.ensures.ready.kept.members_are.placed;
      unlost = c.part_fixed-pieces.ensures.ready.kept.members_are.unlost;
      free = c.part_fixed-pieces.ensures.ready.kept.members_are.free;
    }

pub take_over-spares-requires-clause-still : goal.take_over-spares-requires-clause-still
take_over-spares-requires-clause-still g c = c.part_fixed-pieces.ensures.ready.kept.members_are.still

pub told_of-told-requires-clause-fit : goal.told_of-told-requires-clause-fit
told_of-told-requires-clause-fit g c = c.take_over-spares.ensures.moved.placed.fit

pub enter_taken-requires-clause-room : goal.enter_taken-requires-clause-room
enter_taken-requires-clause-room g c =
    room-for 49 c.part_fixed-pieces.result.steps c.part_fixed-pieces.result.epoch.entries.room c.part_fixed-pieces.ensures.ready.room_left (subst (λ s. 1 ≤ s.parts.steps) c.part_fixed-pieces.ensures.same c.requires.room) (omega arith)

-- ---- what is as it was

pub returns-in-Err-clause-refused : goal.returns-in-Err-clause-refused
returns-in-Err-clause-refused g c =
    untouched-as g.B.Bank.tape c.args.who c.in-Err.refusal c.args.still c.give_back.result _ c.part_fixed-pieces.ensures.same c.give_back.ensures.back

pub returns-clause-given : goal.returns-clause-given
returns-clause-given g c =
    both-given g.B.Bank.given c.args.still c.of_fixed.result _ _ c.part_fixed-pieces.ensures.same c.of_fixed.ensures.same c.take_over-spares.ensures.bank.same

pub told_of-told-requires-clause-shape : goal.told_of-told-requires-clause-shape
told_of-told-requires-clause-shape g c = c.take_over-spares.ensures.newest.shape

-- ---- whether a reshape is active

pub returns-in-Err-clause-left_still : goal.returns-in-Err-clause-left_still
returns-in-Err-clause-left_still g c = c.give_back.ensures.still

pub returns-clause-still : goal.returns-clause-still
returns-clause-still g c = ap (λ s. is_reshaping s.parts.members.newest) c.of_fixed.ensures.same ∙ c.take_over-spares.ensures.newest.still
