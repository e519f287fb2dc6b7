use Rattle.std.proofs.Common.{◌≡◌, ◌+◌, ◌-◌, ◌*◌, ◌≤◌, ℕ, length, inl, inr, sym, ◌∙◌, subst, arith}
use Rattle.std.proofs.lemmas.Bool.{cases_eq}
use borrow.Rule.Slice.PartMut.{put_mid}
use Rattle.raid_layout.proofs.Limits.{limited}
use Rattle.reshape_begin_end.specs.stripe_list_Buffers.{buffered}
use Rattle.reshape_begin_end.specs.stripe_list_Full.{full_sector}
use Rattle.reshape_begin_end.proofs.stripe_list_PartBytes.{sector-part_here, sector-part_other}
use Rattle.reshape_window_rows.specs.Copies.{IsOwnRow}
use Rattle.reshape_window_rows.proofs.runs.make_rows.Goals as goal

pub loop-i-preserved : goal.loop-i-preserved
loop-i-preserved c =
    let was = c.loop-i.invariant in
    let did = c.make_row.ensures in
    let shape = c.args.shape.now in
    let n = 512 * shape.disks in
    let i = c.loop-i.i in
    let rows = c.loop-i.rows in
    let part = c.make_row.new.into in
    let few : shape.disks ≤ 16 = (limited shape c.requires.shape).most in
    let within : 8192 * i + n ≤ length rows = omega (arith, c.loop-i.auto.rows, c.requires.room, few, c.loop-i-test.true) in
    let size : length part ≡ n = omega (arith, c.make_row.auto.into, within) in
    let buffer = put_mid (8192 * i) (8192 * i + n - 8192 * i) rows part in
    record {
      full = λ tail list copied j lt own role low. elim (cases_eq j i) [
        | inl same ↦ subst (λ (k : ℕ). buffered buffer k role ≡ full_sector shape list (c.args.from + k) role) (sym same)
            (sector-part_here rows part i role n (omega (arith, low)) within size
            ∙ did.full tail list (subst (λ (k : ℕ). IsOwnRow shape c.args.span.now tail (c.args.from + k)) same own) copied role low)
        | inr ne ↦ sector-part_other rows part i (16 * j + role) n (omega (arith, few)) within size (inl (omega (arith, lt, ne, low, few)))
            ∙ was.full tail list copied j (omega (arith, lt, ne)) own role low
      ];
    }

pub returns : goal.returns
returns c = record { full = λ tail list copied i lt own role low. c.loop-i.invariant.full tail list copied i (omega (arith, lt, c.loop-i-test.false)) own role low }
