use Rattle.std.proofs.Common.{◌≡◌, ℕ, ◌+◌, ◌-◌, ◌<◌, List, ◌∙◌, ap, arith}
use Rattle.stripe_region_read.specs.raid_parity_Rows.{sector_of}
use Rattle.reshape_window_io.proofs.Beside.{sector-taken}
use Rattle.reshape_window_io.proofs.fetching.fill_window.Goals as goal

pub returns-then-part : goal.returns-then-part
returns-then-part c = λ list has i lt. absurd (let none = c.if-part.true in omega (arith, none, lt))

pub returns : goal.returns
returns c = λ list has i lt.
    let span = c.args.span.now in
    let part = c.args.part.now in
    let some : part.lo < part.hi = omega (arith, lt) in
    let inside = c.requires.inside some in
    let begins = inside.0 in
    let ends = inside.1 in
    let room = c.requires.buffer in
    let a : ℕ = part.lo - span.lo in
    let b : ℕ = part.hi - span.lo in
    let at : a + i ≡ part.lo + i - span.lo = omega (arith, begins) in
    ap (λ (l : List ℕ). sector_of l i) c.copy_from_slice.ensures.after
    ∙ sector-taken c.args.buffer.now a b i (omega (arith, room, ends, begins)) (omega (arith, lt, begins))
    ∙ ap (sector_of c.args.buffer.now) at
    ∙ has (part.lo + i) (omega (arith, begins), omega (arith, lt, ends))
