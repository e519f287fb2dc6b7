use Rattle.std.proofs.Common.{sym, ◌∙◌, true, false}
use Rattle.reshape_plan.proofs.Judged.{layout_bad, chunk_bad, by_disks}
use Rattle.reshape_plan.proofs.plans.bad_field.Goals as goal

pub returns-then-not-is_layout : goal.returns-then-not-is_layout
returns-then-not-is_layout c =
    let level = sym c.is_level.ensures ∙ c.if-not-is_level.false in
    layout_bad c.args.now.now c.args.level c.args.to.now c.requires.valid level (c.requires.levelled level) (sym c.is_layout.ensures ∙ c.if-not-is_layout.true)

pub returns-then-not-is_chunk : goal.returns-then-not-is_chunk
returns-then-not-is_chunk c =
    let level = sym c.is_level.ensures ∙ c.if-not-is_level.false in
    chunk_bad c.args.now.now c.args.level c.args.to.now c.requires.valid level (c.requires.levelled level) (sym c.is_layout.ensures ∙ c.if-not-is_layout.false) (sym c.is_chunk.ensures ∙ c.if-not-is_chunk.true)

pub returns-then-has_bad_disks : goal.returns-then-has_bad_disks
returns-then-has_bad_disks c =
    let level = sym c.is_level.ensures ∙ c.if-not-is_level.false in
    sym (by_disks c.args.now.now c.args.level c.args.to.now c.requires.valid level (c.requires.levelled level) (sym c.is_layout.ensures ∙ c.if-not-is_layout.false) (sym c.is_chunk.ensures ∙ c.if-not-is_chunk.false) true (sym c.has_bad_disks.ensures ∙ c.if-has_bad_disks.true))

pub returns-else-has_bad_disks : goal.returns-else-has_bad_disks
returns-else-has_bad_disks c =
    let level = sym c.is_level.ensures ∙ c.if-not-is_level.false in
    sym (by_disks c.args.now.now c.args.level c.args.to.now c.requires.valid level (c.requires.levelled level) (sym c.is_layout.ensures ∙ c.if-not-is_layout.false) (sym c.is_chunk.ensures ∙ c.if-not-is_chunk.false) false (sym c.has_bad_disks.ensures ∙ c.if-has_bad_disks.false))
