use Rattle.std.proofs.Common.{◌≡◌, [], ◌∷◌, ◌++◌, List, refl, ◌∙◌, ap, subst, arith}
use Rattle.array_reply_specs.specs.raid_types_the_Refusal_TheVariants.{Busy}
use Rattle.array_reply_specs.specs.raid_types_the_BusyKind_TheVariants.{Reshape}
use Rattle.array_transition.specs.sb_specs_Reading.{list_length, is_reshaping}
use Rattle.array_reply_specs.specs.history_the_Entry.{Entry}
use Rattle.array_reply_specs.specs.history_the_Event_TheVariants.{Refused}
use Rattle.array_reply_specs.specs.history_Flat.{next_number}
use Rattle.array_transition.specs.history_Plain.{entries_of}
use Rattle.array_transition.proofs.array_members_MovedLaws.{grows-none}
use Rattle.array_reply_specs.specs.array_call_specs_Kept.{scope_in, world_in}
use Rattle.array_reply_specs.proofs.array_call_specs_LossLaws.{ended-behind}
use Rattle.array_reply_specs.proofs.array_call_specs_ReadyLaws.{scope-same}
use Rattle.array_transition.proofs.array_reshaping_laws_Kept.{ready, roomier, shapes-same}
use Rattle.array_transition.proofs.array_specs_VisibleLaws.{visible-is}
use Rattle.array_transition.proofs.array_specs_Lengths.{alone-keeps}
use Rattle.array_grow.proofs.Busy.{busy-fits, busy-moves}
use Rattle.array_grow.proofs.Told.{replied-as, end-as, visible-as}
use Rattle.array_grow.proofs.refusing.enter_busy.Goals as goal

pub of_reshaping-moving-requires-clause-ready : goal.of_reshaping-moving-requires-clause-ready
of_reshaping-moving-requires-clause-ready g c = roomier c.part_reshaping-pieces.ensures.ready c.make_room.ensures.items c.make_room.ensures.keeps

pub of_reshaping-moving-requires-2-clause-ready : goal.of_reshaping-moving-requires-2-clause-ready
of_reshaping-moving-requires-2-clause-ready g c =
    let was = c.part_reshaping-pieces.ensures.ready in
    let p = c.part_reshaping-pieces.result.0 in
    let given = g.B.Bank.given p.bank in
    let who = c.args.who in
    let end = c.ops-end.result in
    let number = subst (λ s. who.number ≡ next_number who.caller s.parts.entries) c.part_reshaping-pieces.ensures.same c.requires.next in
    ready (entries_of who end (Refused (Busy Reshape) ∷ [])) was (grows-none (λ t. refl)) (shapes-same p.members.newest)
    (busy-moves who end was.kept number c.requires.caller c.ops-end.ensures.count)
    refl (λ slot. omega arith) (alone-keeps who end (Refused (Busy Reshape)) (λ n. refl) (λ limit. refl)) (λ none whole. whole) refl (scope-same given p.backup refl c.append_entry.ensures.uuid c.append_entry.ensures.given) c.append_entry.ensures.first c.make_room.ensures.items c.append_entry.ensures.items
    (omega (arith, c.append_entry.ensures.room, c.in-Ok.ensures.ok))

pub returns-clause-reply : goal.returns-clause-reply
returns-clause-reply g c request may =
    let was = c.part_reshaping-pieces.ensures.ready in
    let p = c.part_reshaping-pieces.result.0 in
    let given = g.B.Bank.given p.bank in
    let tape = g.B.Bank.tape p.bank in
    let who = c.args.who in
    let end = c.ops-end.result in
    let number = subst (λ s. who.number ≡ next_number who.caller s.parts.entries) c.part_reshaping-pieces.ensures.same c.requires.next in
    replied-as g.B.Bank.given g.B.Bank.tape request who (Refused (Busy Reshape)) c.args.moving c.of_reshaping-moving-2.result _ _ c.part_reshaping-pieces.ensures.same c.of_reshaping-moving-2.ensures.same (record {
      end = end;
      at_end = c.ops-end.ensures.count;
      is = c.append_entry.ensures.items ∙ ap (λ (l : List Entry). l ++ entries_of who end (Refused (Busy Reshape) ∷ [])) c.make_room.ensures.items;
      fits = λ t right ahead read. busy-fits (world_in given tape (scope_in given p.epoch.uuid p.epoch.given p.backup) p.epoch.first) p.epoch.entries.items who end request p.members may number (c.ops-end.ensures.count t)
          was.kept.members_are.active read;
    })

pub returns-clause-ended : goal.returns-clause-ended
returns-clause-ended g c =
    let p = c.part_reshaping-pieces.result.0 in
    end-as g.B.Bank.tape c.of_reshaping-moving-2.result _ c.of_reshaping-moving-2.ensures.same
    (ended-behind (g.B.Bank.tape p.bank) c.append_entry.new.epoch.first c.make_room.new.self.items c.args.who c.ops-end.result [] (Refused (Busy Reshape)) c.append_entry.ensures.items c.ops-end.ensures.count)

pub returns-clause-visible : goal.returns-clause-visible
returns-clause-visible g c =
    let was = c.part_reshaping-pieces.ensures.ready in
    let p = c.part_reshaping-pieces.result.0 in
    visible-as c.args.moving _ c.part_reshaping-pieces.ensures.same (visible-is (list_length p.members.newest) (list_length p.members.newest) p.limit p.epoch.entries.items was.sized was.limited)

pub returns-in-Err-clause-visible : goal.returns-in-Err-clause-visible
returns-in-Err-clause-visible g c =
    let was = c.part_reshaping-pieces.ensures.ready in
    let p = c.part_reshaping-pieces.result.0 in
    visible-as c.args.moving _ c.part_reshaping-pieces.ensures.same (visible-is (list_length p.members.newest) (list_length p.members.newest) p.limit p.epoch.entries.items was.sized was.limited)

pub returns-clause-active : goal.returns-clause-active
returns-clause-active g c = ap (λ s. is_reshaping s.parts.members.newest) c.of_reshaping-moving-2.ensures.same ∙ c.part_reshaping-pieces.ensures.ready.kept.members_are.active

pub returns-in-Err-clause-active : goal.returns-in-Err-clause-active
returns-in-Err-clause-active g c = ap (λ s. is_reshaping s.parts.members.newest) c.of_reshaping-moving.ensures.same ∙ c.part_reshaping-pieces.ensures.ready.kept.members_are.active
