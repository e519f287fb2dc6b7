use Rattle.std.proofs.Common.{◌≡◌, ℕ, Some, None, sym, ◌∙◌, subst, ap}
use Rattle.array_reply_specs.specs.history_the_Event_TheVariants.{Planned, Refused}
use Rattle.array_transition.specs.reshape_request_Asked.{grow_refusal}
use Rattle.array_transition.specs.array_specs_Calls.{moving_world}
use Rattle.array_grow.specs.Planned.{asked_in, IsGrowReply}
use Rattle.array_grow.proofs.Told.{asked-as, asked-room, none-open, none-open-room}
use Rattle.array_grow.proofs.Parted.{number-room, one-step, reply-room, before-room, limit-room, ahead-room, entries-same, ahead-same, before-same, limit-same}
use Rattle.array_transition.specs.sb_specs_Reading.{is_reshaping}
use Rattle.array_grow.proofs.planning.plan_grow.Goals as goal

pub enter_plan-still-requires-clause-taken : goal.enter_plan-still-requires-clause-taken
enter_plan-still-requires-clause-taken g c =
    let none : grow_refusal (asked_in (g.B.Bank.given c.args.still.parts.bank) c.args.still) c.args.wish ≡ None = sym c.judge-still.ensures.first ∙ c.in_default.is in
    asked-room g.B.Bank.given c.args.wish None 1 c.make_room-2.new.array c.window_for-still.result.0 c.in-Ok-make_room.ensures.room
    (asked-as g.B.Bank.given c.args.wish None c.window_for-still.result.0 c.judge-still.result.0 c.window_for-still.ensures.same
    (asked-as g.B.Bank.given c.args.wish None c.judge-still.result.0 c.args.still c.judge-still.ensures.same none))

pub returns-clause-goes : goal.returns-clause-goes
returns-clause-goes g c none =
    c.enter_plan-still.ensures.goes (none-open-room 1 c.make_room-2.new.array c.window_for-still.result.0 c.in-Ok-make_room.ensures.room
    (none-open c.window_for-still.result.0 c.judge-still.result.0 c.window_for-still.ensures.same (none-open c.judge-still.result.0 c.args.still c.judge-still.ensures.same none)))

pub enter_refusal-still-requires-clause-why : goal.enter_refusal-still-requires-clause-why
enter_refusal-still-requires-clause-why g c =
    let why : grow_refusal (asked_in (g.B.Bank.given c.args.still.parts.bank) c.args.still) c.args.wish ≡ Some c.in-Some.refusal = sym c.judge-still.ensures.first ∙ c.in-Some.is in
    asked-room g.B.Bank.given c.args.wish (Some c.in-Some.refusal) 1 c.make_room.new.array c.judge-still.result.0 c.in-Ok.ensures.room
    (asked-as g.B.Bank.given c.args.wish (Some c.in-Some.refusal) c.judge-still.result.0 c.args.still c.judge-still.ensures.same why)

-- ---- what the calls ask for

pub enter_refusal-still-requires-clause-next : goal.enter_refusal-still-requires-clause-next
enter_refusal-still-requires-clause-next g c =
    number-room c.args.who 1 c.args.still c.judge-still.result.0 c.make_room.new.array c.judge-still.ensures.same c.in-Ok.ensures.room c.requires.next

pub enter_refusal-still-requires-clause-room : goal.enter_refusal-still-requires-clause-room
enter_refusal-still-requires-clause-room g c = one-step c.judge-still.result.0 c.make_room.new.array c.in-Ok.ensures.room

pub window_for-still-requires : goal.window_for-still-requires
window_for-still-requires g c =
    record {
      taken = asked-as g.B.Bank.given c.args.wish None c.judge-still.result.0 c.args.still c.judge-still.ensures.same (sym c.judge-still.ensures.first ∙ c.in_default.is);
      still = c.judge-still.ensures.still;
    }

pub enter_plan-still-requires-clause-next : goal.enter_plan-still-requires-clause-next
enter_plan-still-requires-clause-next g c =
    number-room c.args.who 1 c.args.still c.window_for-still.result.0 c.make_room-2.new.array (c.window_for-still.ensures.same ∙ c.judge-still.ensures.same) c.in-Ok-make_room.ensures.room c.requires.next

pub enter_plan-still-requires-clause-room : goal.enter_plan-still-requires-clause-room
enter_plan-still-requires-clause-room g c = one-step c.window_for-still.result.0 c.make_room-2.new.array c.in-Ok-make_room.ensures.room

-- ---- it is refused

pub returns-in-Some-clause-answered : goal.returns-in-Some-clause-answered
returns-in-Some-clause-answered g c =
    reply-room g.B.Bank.given g.B.Bank.tape c.args.wish c.args.who (Refused c.in-Some.refusal) 1 c.args.still c.judge-still.result.0 c.make_room.new.array c.enter_refusal-still.result c.judge-still.ensures.same c.in-Ok.ensures.room c.enter_refusal-still.ensures.reply

pub returns-in-Some-clause-judged : goal.returns-in-Some-clause-judged
returns-in-Some-clause-judged g c = sym c.judge-still.ensures.first ∙ c.in-Some.is

pub returns-in-Some-clause-as_before : goal.returns-in-Some-clause-as_before
returns-in-Some-clause-as_before g c =
    before-room 1 c.args.still c.judge-still.result.0 c.make_room.new.array c.enter_refusal-still.result c.judge-still.ensures.same c.in-Ok.ensures.room c.enter_refusal-still.ensures.as_before

pub returns-in-Some-clause-limit : goal.returns-in-Some-clause-limit
returns-in-Some-clause-limit g c =
    limit-room 1 c.args.still c.judge-still.result.0 c.make_room.new.array c.enter_refusal-still.result c.judge-still.ensures.same c.in-Ok.ensures.room c.enter_refusal-still.ensures.limit

pub returns-in-Some-clause-refused : goal.returns-in-Some-clause-refused
returns-in-Some-clause-refused g c =
    ahead-room 1 c.args.still c.judge-still.result.0 c.make_room.new.array c.enter_refusal-still.result c.judge-still.ensures.same c.in-Ok.ensures.room c.enter_refusal-still.ensures.ahead

-- ---- it is planned

pub returns-clause-answered : goal.returns-clause-answered
returns-clause-answered g c =
    subst (λ (n : ℕ). IsGrowReply g.B.Bank.tells (moving_world (g.B.Bank.given c.args.still.parts.bank) (g.B.Bank.tape c.args.still.parts.bank) c.args.still) (asked_in (g.B.Bank.given c.args.still.parts.bank) c.args.still) c.args.wish c.args.who
    c.args.still.parts.entries c.enter_plan-still.result.0.parts.entries (Planned n c.args.wish)) c.enter_plan-still.ensures.left
    (reply-room g.B.Bank.given g.B.Bank.tape c.args.wish c.args.who (Planned c.enter_plan-still.result.1 c.args.wish) 1 c.args.still c.window_for-still.result.0 c.make_room-2.new.array c.enter_plan-still.result.0 (c.window_for-still.ensures.same ∙ c.judge-still.ensures.same) c.in-Ok-make_room.ensures.room c.enter_plan-still.ensures.reply)

pub returns-clause-judged : goal.returns-clause-judged
returns-clause-judged g c = sym c.judge-still.ensures.first ∙ c.in_default.is

pub returns-clause-as_before : goal.returns-clause-as_before
returns-clause-as_before g c =
    before-room 1 c.args.still c.window_for-still.result.0 c.make_room-2.new.array c.enter_plan-still.result.0 (c.window_for-still.ensures.same ∙ c.judge-still.ensures.same) c.in-Ok-make_room.ensures.room c.enter_plan-still.ensures.as_before

pub returns-clause-limit : goal.returns-clause-limit
returns-clause-limit g c =
    limit-room 1 c.args.still c.window_for-still.result.0 c.make_room-2.new.array c.enter_plan-still.result.0 (c.window_for-still.ensures.same ∙ c.judge-still.ensures.same) c.in-Ok-make_room.ensures.room c.enter_plan-still.ensures.limit

-- ---- memory was short

pub returns-in-Err-clause-answered : goal.returns-in-Err-clause-answered
returns-in-Err-clause-answered g c = entries-same c.args.still c.make_room.new.array (c.in-Err.ensures.unchanged ∙ c.judge-still.ensures.same)

pub returns-in-Err-clause-unchanged : goal.returns-in-Err-clause-unchanged
returns-in-Err-clause-unchanged g c = c.in-Err.ensures.unchanged ∙ c.judge-still.ensures.same

pub returns-in-Err-clause-refused : goal.returns-in-Err-clause-refused
returns-in-Err-clause-refused g c = ahead-same c.args.still c.make_room.new.array (c.in-Err.ensures.unchanged ∙ c.judge-still.ensures.same)

pub returns-in-Err-clause-as_before : goal.returns-in-Err-clause-as_before
returns-in-Err-clause-as_before g c = before-same c.args.still c.make_room.new.array (c.in-Err.ensures.unchanged ∙ c.judge-still.ensures.same)

pub returns-in-Err-clause-limit : goal.returns-in-Err-clause-limit
returns-in-Err-clause-limit g c = limit-same c.args.still c.make_room.new.array (c.in-Err.ensures.unchanged ∙ c.judge-still.ensures.same)

pub returns-in-Err-made-clause-as_before : goal.returns-in-Err-made-clause-as_before
returns-in-Err-made-clause-as_before g c = before-same c.args.still c.window_for-still.result.0 (c.window_for-still.ensures.same ∙ c.judge-still.ensures.same)

pub returns-in-Err-made-clause-limit : goal.returns-in-Err-made-clause-limit
returns-in-Err-made-clause-limit g c = limit-same c.args.still c.window_for-still.result.0 (c.window_for-still.ensures.same ∙ c.judge-still.ensures.same)

pub returns-in-Err-make_room-clause-answered : goal.returns-in-Err-make_room-clause-answered
returns-in-Err-make_room-clause-answered g c =
    entries-same c.args.still c.make_room-2.new.array (c.in-Err-make_room.ensures.unchanged ∙ c.window_for-still.ensures.same ∙ c.judge-still.ensures.same)

pub returns-in-Err-make_room-clause-unchanged : goal.returns-in-Err-make_room-clause-unchanged
returns-in-Err-make_room-clause-unchanged g c = c.in-Err-make_room.ensures.unchanged ∙ c.window_for-still.ensures.same ∙ c.judge-still.ensures.same

pub returns-in-Err-make_room-clause-refused : goal.returns-in-Err-make_room-clause-refused
returns-in-Err-make_room-clause-refused g c =
    ahead-same c.args.still c.make_room-2.new.array (c.in-Err-make_room.ensures.unchanged ∙ c.window_for-still.ensures.same ∙ c.judge-still.ensures.same)

pub returns-in-Err-make_room-clause-as_before : goal.returns-in-Err-make_room-clause-as_before
returns-in-Err-make_room-clause-as_before g c =
    before-same c.args.still c.make_room-2.new.array (c.in-Err-make_room.ensures.unchanged ∙ c.window_for-still.ensures.same ∙ c.judge-still.ensures.same)

pub returns-in-Err-make_room-clause-limit : goal.returns-in-Err-make_room-clause-limit
returns-in-Err-make_room-clause-limit g c =
    limit-same c.args.still c.make_room-2.new.array (c.in-Err-make_room.ensures.unchanged ∙ c.window_for-still.ensures.same ∙ c.judge-still.ensures.same)

-- ---- no reshape is active

pub enter_refusal-still-requires-clause-still : goal.enter_refusal-still-requires-clause-still
enter_refusal-still-requires-clause-still g c = ap (λ s. is_reshaping s.parts.members.newest) c.in-Ok.ensures.room ∙ c.judge-still.ensures.still

pub enter_plan-still-requires-clause-still : goal.enter_plan-still-requires-clause-still
enter_plan-still-requires-clause-still g c = ap (λ s. is_reshaping s.parts.members.newest) c.in-Ok-make_room.ensures.room ∙ c.window_for-still.ensures.still

pub returns-in-Some-clause-still : goal.returns-in-Some-clause-still
returns-in-Some-clause-still g c = c.enter_refusal-still.ensures.still

pub returns-in-Err-clause-still : goal.returns-in-Err-clause-still
returns-in-Err-clause-still g c = ap (λ s. is_reshaping s.parts.members.newest) c.in-Err.ensures.unchanged ∙ c.judge-still.ensures.still

pub returns-in-Err-made-clause-still : goal.returns-in-Err-made-clause-still
returns-in-Err-made-clause-still g c = c.window_for-still.ensures.still

pub returns-in-Err-make_room-clause-still : goal.returns-in-Err-make_room-clause-still
returns-in-Err-make_room-clause-still g c = ap (λ s. is_reshaping s.parts.members.newest) c.in-Err-make_room.ensures.unchanged ∙ c.window_for-still.ensures.still

pub returns-clause-still : goal.returns-clause-still
returns-clause-still g c = c.enter_plan-still.ensures.still
