use Rattle.std.proofs.Common.{◌<◌, ◌≤◌, ◌-◌}
use Rattle.reshape_progress.specs.raid_types_the_Span.{Span}
use Rattle.reshape_progress.specs.sb_specs_Reading.{list_length}
use Rattle.reshape_progress.specs.history_Stands.{reach_of}
use Rattle.reshape_progress.proofs.crash_views_Headers.{window-filled}
use Rattle.reshape_progress.proofs.crash_views_Stands.{window-inside}
use Rattle.reshape_progress.specs.reshape_window_steps_Zeroing.{IsThrough}
use Rattle.array_reshaping_state.proofs.ReshapeLaws.{under-way-of, of-window, no-window, window-reach, through-of}
use Rattle.array_reshaping_state.proofs.reshape.next_window_of.Goals as goal

pub next_window-requires : goal.next_window-requires
next_window-requires c = under-way-of c.args.members.now.newest c.requires.fit c.requires.active

pub returns-clause-filled : goal.returns-clause-filled
returns-clause-filled c =
    let newest = c.args.members.now.newest in
    of-window newest (λ (span : Span). span.lo < span.hi) (window-filled newest c.requires.fit) c.next_window.result c.next_window.ensures

pub returns-clause-inside : goal.returns-clause-inside
returns-clause-inside c =
    let newest = c.args.members.now.newest in
    of-window newest (λ (span : Span). span.hi ≤ list_length newest) (window-inside newest c.requires.fit) c.next_window.result c.next_window.ensures

pub returns-clause-reach : goal.returns-clause-reach
returns-clause-reach c =
    let newest = c.args.members.now.newest in
    of-window newest (λ (span : Span). span.hi - span.lo ≤ reach_of newest) (window-reach newest c.requires.fit) c.next_window.result c.next_window.ensures

pub returns-clause-through : goal.returns-clause-through
returns-clause-through c =
    let newest = c.args.members.now.newest in
    no-window newest (IsThrough newest) (through-of newest c.requires.fit c.requires.active) c.next_window.result c.next_window.ensures
