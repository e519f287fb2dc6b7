use Rattle.std.proofs.Common.{◌≡◌, ℕ, ◌+◌, ◌*◌, ◌<◌, ◌≤◌, List, Option, sym, subst, arith}
use Rattle.array_type.specs.bank_the_Operation.{Operation}
use Rattle.array_type.specs.bank_Given.{Given}
use Rattle.array_type.specs.sb_specs_the_Members.{Members}
use Rattle.array_type.specs.sb_specs_Reading.{Scope}
use Rattle.array_type.specs.history_the_Entry.{Entry}
use Rattle.array_type.specs.array_members_the_Work.{Work}
use Rattle.array_type.specs.reshape_request_the_PhasesLeft.{PhasesLeft}
use Rattle.array_type.specs.array_fixed_laws_Ready.{IsReady}
use Rattle.array_type.proofs.array_fixed_laws_Kept.{roomier}
use Rattle.array_type.proofs.Asked.{entries-alike}
use Rattle.array_type.proofs.array_reshaping_laws_Kept.{roomier as r-roomier}
use Rattle.array_calls.proofs.AnswerLaws.{with-steps}
use Rattle.array_type.proofs.Rest.{on-both}
use Rattle.array_type.proofs.Alike.{goes-on, stays-at-rest}
use Rattle.array_type.specs.sb_specs_Reading.{is_reshaping}
use Rattle.array_calls.proofs.rooms.make_room.Goals as goal

-- it is ready for as many steps as there is room for
for-steps : {tells : Type 0} {given : Given} {tape : List Operation} {scope : Scope} {first : ℕ} {entries entries' : List Entry} {members : Members}
    {work : Work} {ahead : PhasesLeft} {limit : Option ℕ} {steps steps' room room' rows buffer far_rows far_buffer : ℕ} {faults : ℕ → ℕ}
    → IsReady tells given tape scope first entries members work ahead limit faults steps room rows buffer far_rows far_buffer → entries' ≡ entries → 50 * steps' < room'
    → IsReady tells given tape scope first entries' members work ahead limit faults steps' room' rows buffer far_rows far_buffer
for-steps {tells = tells} {given = given} {tape = tape} {scope = scope} {first = first} {members = members} {work = work} {ahead = ahead} {limit = limit} {steps' = steps'} {room' = room'}
    {rows = rows} {buffer = buffer} {far_rows = far_rows} {far_buffer = far_buffer} {faults = faults} was same more =
    subst (λ (l : List Entry). IsReady tells given tape scope first l members work ahead limit faults steps' room' rows buffer far_rows far_buffer) (sym same) (record {
      kept = was.kept;
      sized = was.sized;
      limited = was.limited;
      planned = was.planned;
      failed = was.failed;
      room_left = more;
      rows_fit = was.rows_fit;
      buffer_fits = was.buffer_fits;
      far_rows_fit = was.far_rows_fit;
      far_buffer_fits = was.far_buffer_fits;
      plain = was.plain;
      plainly = was.plainly;
      ahead_told = was.ahead_told;
    })

enough-room : (steps : ℕ) {n m room : ℕ} → n ≡ steps * 50 → m ≡ n + 1 → m ≤ room → 50 * steps < room
enough-room steps product one most = omega (arith, product, one, most)

pub invariant_of-array : goal.invariant_of-array
invariant_of-array g c =
    on-both (is_reshaping c.array.inside.members.newest)
    (λ active. goes-on (c.array.invariant.moves active).0 (r-roomier (c.array.invariant.moves active).1 c.make_room.ensures.items c.make_room.ensures.keeps))
    (λ still. stays-at-rest (c.array.invariant.rests still).0 (roomier (c.array.invariant.rests still).1 c.make_room.ensures.items c.make_room.ensures.keeps))

pub returns-in-Err-clause-unchanged : goal.returns-in-Err-clause-unchanged
returns-in-Err-clause-unchanged g c =
    entries-alike c.make_room.new.self.items c.array.view_is c.make_room.ensures.items

pub invariant_of-array-2 : goal.invariant_of-array-2
invariant_of-array-2 g c =
    on-both (is_reshaping c.array.inside.members.newest)
    (λ active. goes-on (c.array.invariant.moves active).0 (with-steps (c.array.invariant.moves active).1 c.make_room.ensures.items (enough-room c.args.steps c.in-Some.ensures.1 c.in-Some-checked_add.ensures.1 c.in-Ok.ensures.ok)))
    (λ still. stays-at-rest (c.array.invariant.rests still).0 (for-steps (c.array.invariant.rests still).1 c.make_room.ensures.items (enough-room c.args.steps c.in-Some.ensures.1 c.in-Some-checked_add.ensures.1 c.in-Ok.ensures.ok)))
