use Rattle.std.proofs.Common.{◌≡◌, ◌≤◌, Some, [], ◌∷◌, length, refl, subst, arith, ap, ◌∙◌}
use Rattle.std.specs.Prelude.{option_map}
use Rattle.array_reply_specs.specs.bank_Given.{sizes}
use Rattle.array_reply_specs.specs.history_the_Event_TheVariants.{Refused}
use Rattle.array_reply_specs.specs.history_Flat.{next_number}
use Rattle.array_reply_specs.specs.history_OneShape.{opening_in}
use Rattle.array_transition.specs.history_Plain.{entries_of}
use Rattle.array_transition.proofs.array_members_MovedLaws.{grows-none}
use Rattle.array_reply_specs.specs.array_call_specs_Kept.{scope_in, world_in}
use Rattle.array_reply_specs.proofs.array_call_specs_LossLaws.{ended-behind}
use Rattle.array_reply_specs.proofs.array_call_specs_ReadyLaws.{scope-same}
use Rattle.array_transition.specs.reshape_request_Asked.{asked_of, grow_refusal}
use Rattle.array_transition.specs.reshape_request_Left.{phases_of}
use Rattle.array_transition.proofs.history_invariant_Records.{begins-going}
use Rattle.array_transition.specs.array_specs_Parts.{visible_size}
use Rattle.array_transition.proofs.array_specs_Lengths.{alone-keeps}
use Rattle.array_transition.proofs.array_fixed_laws_Kept.{ready, rows-same}
use Rattle.array_transition.proofs.array_fixed_laws_PlainBehind.{refused-plain}
use Rattle.array_transition.proofs.array_fixed_laws_StepLaws.{refused-going}
use Rattle.array_grow.specs.Planned.{asked_in}
use Rattle.array_grow.proofs.Idle.{grow-plain, grow-shaped, grow-plainly}
use Rattle.array_grow.proofs.Fitting.{told-by, first-of, refusal-fits}
use Rattle.array_grow.proofs.Told.{reply-as, end-as}
use Rattle.array_grow.proofs.Parted.{before-as, both-limit, both-ahead}
use Rattle.array_transition.proofs.Parted.{room-for}
use Rattle.array_transition.specs.sb_specs_Reading.{is_reshaping}
use Rattle.array_grow.proofs.planning.enter_refusal.Goals as goal

pub of_fixed-requires : goal.of_fixed-requires
of_fixed-requires g c =
    let was = c.part_fixed-pieces.ensures.ready in
    let p = c.part_fixed-pieces.result in
    let same = c.part_fixed-pieces.ensures.same in
    let given = g.B.Bank.given p.bank in
    let who = c.args.who in
    let end = c.ops-end.result in
    let refusal = c.args.refusal in
    let wish = c.args.wish.now in
    let a = asked_of p.members p.work.resync (length (phases_of p.ahead)) (visible_size p.members p.limit) (option_map (sizes given).sectors p.backup) in
    let number = subst (λ s. who.number ≡ next_number who.caller s.parts.entries) same c.requires.next in
    let some : 1 ≤ p.steps = subst (λ s. 1 ≤ s.parts.steps) same c.requires.room in
    let why = subst (λ s. grow_refusal (asked_in (g.B.Bank.given s.parts.bank) s) wish ≡ Some refusal) same c.requires.why in
    record {
      ready = ready {scope' = scope_in given c.append_entry.new.epoch.uuid c.append_entry.new.epoch.given p.backup} (entries_of who end (Refused refusal ∷ [])) was (rows-same p.members.newest)
          (refused-going who end refusal was.kept (begins-going p.epoch.entries.items who number) c.requires.caller c.ops-end.ensures.count
          (grow-plain a wish p.work.resync p.members refusal (first-of a wish refusal why).holds))
          (refused-plain was who end (begins-going p.epoch.entries.items who number) c.requires.caller c.ops-end.ensures.count (grows-none (λ t. refl)) refusal
          (λ t kept. grow-shaped (opening_in (world_in given (g.B.Bank.tape p.bank) (scope_in given p.epoch.uuid p.epoch.given p.backup) p.epoch.first)) p.epoch.entries.items a wish refusal (first-of a wish refusal why).holds)
          (grow-plainly a wish refusal (first-of a wish refusal why).holds))
          (λ slot. omega arith) (alone-keeps who end (Refused refusal) (λ n. refl) (λ limit. refl)) refl (scope-same given p.backup refl c.append_entry.ensures.uuid c.append_entry.ensures.given) c.append_entry.ensures.first refl c.append_entry.ensures.items
          (let had = was.room_left in let room = c.append_entry.ensures.room in omega (arith, had, room, some));
    }

pub returns-clause-reply : goal.returns-clause-reply
returns-clause-reply g c =
    let was = c.part_fixed-pieces.ensures.ready in
    let p = c.part_fixed-pieces.result in
    let same = c.part_fixed-pieces.ensures.same in
    let given = g.B.Bank.given p.bank in
    let tape = g.B.Bank.tape p.bank in
    let who = c.args.who in
    let end = c.ops-end.result in
    let refusal = c.args.refusal in
    let wish = c.args.wish.now in
    let a = asked_of p.members p.work.resync (length (phases_of p.ahead)) (visible_size p.members p.limit) (option_map (sizes given).sectors p.backup) in
    let number = subst (λ s. who.number ≡ next_number who.caller s.parts.entries) same c.requires.next in
    let why = subst (λ s. grow_refusal (asked_in (g.B.Bank.given s.parts.bank) s) wish ≡ Some refusal) same c.requires.why in
    reply-as g.B.Bank.given g.B.Bank.tape wish who (Refused refusal) c.args.still c.of_fixed.result _ _ same c.of_fixed.ensures.same (record {
      end = end;
      at_end = c.ops-end.ensures.count;
      is = c.append_entry.ensures.items;
      fits = λ t right ahead read. refusal-fits (world_in given tape (scope_in given p.epoch.uuid p.epoch.given p.backup) p.epoch.first) p.epoch.entries.items who end a wish refusal number (c.ops-end.ensures.count t)
          (told-by (length (phases_of p.ahead)) end was.kept was.limited t right (c.ops-end.ensures.count t) ahead read) why;
    })

pub overflow_sub-pieces : goal.overflow_sub-pieces
overflow_sub-pieces g c = subst (λ s. 1 ≤ s.parts.steps) c.part_fixed-pieces.ensures.same c.requires.room

pub check_number-requires : goal.check_number-requires
check_number-requires g c =
    subst (λ s. c.args.who.number ≡ next_number c.args.who.caller s.parts.entries) c.part_fixed-pieces.ensures.same c.requires.next

pub append_entry-requires-clause-room : goal.append_entry-requires-clause-room
append_entry-requires-clause-room g c =
    room-for 1 c.part_fixed-pieces.result.steps c.part_fixed-pieces.result.epoch.entries.room c.part_fixed-pieces.ensures.ready.room_left (subst (λ s. 1 ≤ s.parts.steps) c.part_fixed-pieces.ensures.same c.requires.room) (omega arith)

pub returns-clause-as_before : goal.returns-clause-as_before
returns-clause-as_before g c =
    before-as c.args.still c.of_fixed.result _ _ c.part_fixed-pieces.ensures.same c.of_fixed.ensures.same
    (record { bank = refl; uuid = c.append_entry.ensures.uuid; given = c.append_entry.ensures.given; first = c.append_entry.ensures.first; backup = refl; members = refl; work = refl; course = refl })

pub returns-clause-limit : goal.returns-clause-limit
returns-clause-limit g c = both-limit c.args.still c.of_fixed.result _ _ c.part_fixed-pieces.ensures.same c.of_fixed.ensures.same refl

pub returns-clause-ahead : goal.returns-clause-ahead
returns-clause-ahead g c = both-ahead c.args.still c.of_fixed.result _ _ c.part_fixed-pieces.ensures.same c.of_fixed.ensures.same refl

pub returns-clause-ended : goal.returns-clause-ended
returns-clause-ended g c =
    let p = c.part_fixed-pieces.result in
    end-as g.B.Bank.tape c.of_fixed.result _ c.of_fixed.ensures.same
    (ended-behind (g.B.Bank.tape p.bank) c.append_entry.new.epoch.first p.epoch.entries.items c.args.who c.ops-end.result [] (Refused c.args.refusal) c.append_entry.ensures.items c.ops-end.ensures.count)

pub returns-clause-still : goal.returns-clause-still
returns-clause-still g c = ap (λ s. is_reshaping s.parts.members.newest) c.of_fixed.ensures.same ∙ c.part_fixed-pieces.ensures.ready.kept.members_are.still
