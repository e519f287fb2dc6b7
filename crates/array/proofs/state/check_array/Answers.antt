use Rattle.std.proofs.Common.{◌≡◌, true, false, sym, ◌∙◌}
use Rattle.array_takeover.specs.sb_specs_Reading.{is_reshaping}
use Rattle.array_takeover.specs.history_Legal.{told_left}
use Rattle.array_grow.specs.array_call_specs_Kept.{scope_in}
use Rattle.array_grow.specs.array_specs_Parts.{left_in, still_left}
use Rattle.array_grow.proofs.array_reshaping_laws_ResyncLaws.{left-some}
use Rattle.array_grow.proofs.Stored.{stored-by}
use Rattle.array_grow.proofs.array_type_Rest.{on-both}
use Rattle.array_grow.proofs.array_type_Alike.{alike}
use Rattle.array.proofs.Checked.{some-of, left-by, aside-moving, window-next}
use Rattle.array.proofs.state.check_array.Goals as goal

pub returns-clause-within : goal.returns-clause-within
returns-clause-within g c =
    let a = c.array.inside in
    rw (← c.array.view_is) (on-both (is_reshaping a.members.newest)
    (λ active.
    let was = (c.array.invariant.moves active).1 in
    record {
      begun = λ t. (was.kept.recorded t).begun;
      ends = λ t. (was.kept.recorded t).ends;
      sized = was.sized;
      limited = was.limited;
      told = left-by (told_left a.epoch.entries.items) (is_reshaping a.members.newest) true (left_in a.work a.members a.course a.ahead) (still_left a.work a.members a.ahead) was.kept.members_are.active was.kept.left_told;
      stored = λ t.
          let m = was.kept.members_are in
          stored-by _ _ _ m.placed m.unlost m.free (λ active. window-next a.members.newest a.course.window was.kept.course_is.window) (was.kept.gone t) (was.kept.recorded t) (λ relied. was.kept.safe t relied.fills relied.room);
    })
    (λ still.
    let was = (c.array.invariant.rests still).1 in
    record {
      begun = λ t. (was.kept.recorded t).begun;
      ends = λ t. (was.kept.recorded t).ends;
      sized = was.sized;
      limited = was.limited;
      told = left-by (told_left a.epoch.entries.items) (is_reshaping a.members.newest) false (left_in a.work a.members a.course a.ahead) (still_left a.work a.members a.ahead) was.kept.members_are.still was.kept.left_told;
      stored = λ t.
          let m = was.kept.members_are in
          stored-by _ _ _ m.placed m.unlost m.free (λ active. absurd (let clash : true ≡ false = sym active ∙ m.still in cc)) (was.kept.gone t) (was.kept.recorded t) (λ relied. was.kept.safe t relied.fills relied.room);
    }))

pub returns-clause-placed : goal.returns-clause-placed
returns-clause-placed g c = rw (← c.array.view_is) (alike c.array.invariant).kept.members_are.placed

pub returns-clause-rest : goal.returns-clause-rest
returns-clause-rest g c = rw (← c.array.view_is) (λ still. record { still = still; course = (c.array.invariant.rests still).0 })

pub returns-clause-backed : goal.returns-clause-backed
returns-clause-backed g c = rw (← c.array.view_is) (λ active. (c.array.invariant.moves active).0)

pub returns-clause-some : goal.returns-clause-some
returns-clause-some g c =
    let a = c.array.inside in
    rw (← c.array.view_is) (λ active.
    let was = (c.array.invariant.moves active).1 in
    some-of _ (left-some a.members a.work a.course a.ahead active was.kept.course_is))

pub returns-clause-aside : goal.returns-clause-aside
returns-clause-aside g c =
    let a = c.array.inside in
    let given = g.B.Bank.given a.bank in
    rw (← c.array.view_is) (λ active. aside-moving (scope_in given a.epoch.uuid a.epoch.given a.backup) given a.members (c.array.invariant.moves active).1.kept.members_are)
