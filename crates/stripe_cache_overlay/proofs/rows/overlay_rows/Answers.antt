use Rattle.std.proofs.Common.{◌≡◌, ◌+◌, ◌-◌, ◌*◌, ◌≤◌, ℕ, List, length, take, drop, inl, inr, refl, sym, ◌∙◌, subst, arith}
use Rattle.std.proofs.lemmas.Bool.{cases_eq}
use Rattle.std.specs.Prelude.{slice_index, Option, IfSome}
use borrow.Rule.Slice.PartMut.{put_mid}
use Rattle.raid_layout.proofs.Limits.{limited}
use Rattle.raid_parity.specs.Rows.{sector_of}
use Rattle.stripe_list.specs.Buffers.{buffered}
use Rattle.stripe_list.proofs.PartBytes.{sector-part, sector-part_here, sector-part_other}
use Rattle.stripe_delayed_rows.specs.stripe_cache_the_Cached.{Cached}
use Rattle.stripe_delayed_rows.specs.stripe_cache_Rows.{held_row}
use Rattle.stripe_cache_overlay.specs.Overlaid.{IsOver}
use Rattle.stripe_cache_overlay.proofs.OverlaidLaws.{same-self, same-then}
use Rattle.stripe_cache_overlay.proofs.rows.overlay_rows.Goals as goal

pub loop-i-init : goal.loop-i-init
loop-i-init c = record {
  laid = λ k role lt small. absurd (omega (arith, lt));
  rest = λ k role low small. refl;
  same = same-self c.args.cache.now;
}

pub overlay_row-requires-clause-cache : goal.overlay_row-requires-clause-cache
overlay_row-requires-clause-cache c = c.loop-i.invariant.same.cache c.requires.cache

pub overlay_row-requires-clause-rows : goal.overlay_row-requires-clause-rows
overlay_row-requires-clause-rows c = λ row. subst (λ (o : Option Cached). IfSome o (λ held. length held.body ≡ c.args.shape.now.disks)) (sym (c.loop-i.invariant.same.held c.args.side row)) (c.requires.rows row)

pub loop-i-preserved : goal.loop-i-preserved
loop-i-preserved c =
    let was = c.loop-i.invariant in
    let did = c.overlay_row.ensures in
    let shape = c.args.shape.now in
    let few : shape.disks ≤ 16 = (limited shape c.requires.shape).most in
    let part = c.overlay_row.new.into in
    let row = slice_index c.args.rows.now c.loop-i.i in
    let within : 8192 * c.loop-i.i + 512 * shape.disks ≤ length c.loop-i.buffer = omega (arith, c.loop-i.auto.buffer, c.requires.buffer, few, c.loop-i-test.true) in
    let size : length part ≡ 512 * shape.disks = omega (arith, c.overlay_row.auto.into, within) in
    let buffer = put_mid (8192 * c.loop-i.i) (8192 * c.loop-i.i + 512 * shape.disks - 8192 * c.loop-i.i) c.loop-i.buffer part in
    record {
      laid = λ k role lt small. elim (cases_eq k c.loop-i.i) [
        | inl here ↦ subst (λ (n : ℕ). IsOver (held_row c.args.side (slice_index c.args.rows.now n) c.args.cache.now) role (buffered c.args.buffer.now n role) (buffered buffer n role)) (sym here)
            (subst (λ (s : List ℕ). IsOver (held_row c.args.side row c.args.cache.now) role s (buffered buffer c.loop-i.i role))
            (sector-part c.loop-i.buffer c.loop-i.i role (8192 * c.loop-i.i + 512 * shape.disks - 8192 * c.loop-i.i) (omega (arith, small)) ∙ was.rest c.loop-i.i role (omega arith) small)
            (subst (λ (s : List ℕ). IsOver (held_row c.args.side row c.args.cache.now) role (sector_of (take (8192 * c.loop-i.i + 512 * shape.disks - 8192 * c.loop-i.i) (drop (8192 * c.loop-i.i) c.loop-i.buffer)) role) s)
            (sym (sector-part_here c.loop-i.buffer part c.loop-i.i role (512 * shape.disks) (omega (arith, small)) within size))
            (subst (λ (o : Option Cached). IsOver o role (sector_of (take (8192 * c.loop-i.i + 512 * shape.disks - 8192 * c.loop-i.i) (drop (8192 * c.loop-i.i) c.loop-i.buffer)) role) (sector_of part role)) (was.same.held c.args.side row) (did.over role small))))
        | inr other ↦ subst (λ (s : List ℕ). IsOver (held_row c.args.side (slice_index c.args.rows.now k) c.args.cache.now) role (buffered c.args.buffer.now k role) s)
            (sym (sector-part_other c.loop-i.buffer part c.loop-i.i (16 * k + role) (512 * shape.disks) (omega (arith, few)) within size (inl (omega (arith, lt, other, small, few)))))
            (was.laid k role (omega (arith, lt, other)) small)
      ];
      rest = λ k role low small. sector-part_other c.loop-i.buffer part c.loop-i.i (16 * k + role) (512 * shape.disks) (omega (arith, few)) within size (inr (omega (arith, low))) ∙ was.rest k role (omega (arith, low)) small;
      same = same-then c.args.cache.now c.loop-i.cache c.overlay_row.new.cache was.same did.same;
    }

pub returns-clause-over : goal.returns-clause-over
returns-clause-over c = λ i role lt small. c.loop-i.invariant.laid i role (omega (arith, lt, c.loop-i-test.false)) small
