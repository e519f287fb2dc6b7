use Rattle.std.proofs.Common.{◌≡◌, ◌+◌, ◌≤◌, ℕ, length, List, inl, inr, refl, sym, ◌∙◌, subst, arith}
use Rattle.std.specs.Prelude.{Option, IfSome}
use Rattle.std.proofs.lemmas.Bool.{cases_eq}
use Rattle.raid_layout.specs.Layout.{place}
use Rattle.raid_parity.specs.Rows.{sector_of}
use Rattle.stripe_delayed_rows.specs.stripe_cache_the_Cached.{Cached}
use Rattle.stripe_delayed_rows.specs.stripe_cache_Rows.{held_row}
use Rattle.stripe_cache_overlay.specs.Overlaid.{IsOver}
use Rattle.stripe_cache_overlay.proofs.OverlaidLaws.{same-self, same-then}
use Rattle.stripe_cache_overlay.proofs.sectors.overlay_sectors.Goals as goal

pub loop-i-init : goal.loop-i-init
loop-i-init c = record {
  size = refl;
  long = c.requires.scratch;
  laid = λ k lt. absurd (omega (arith, lt));
  rest = λ k low. refl;
  same = same-self c.args.cache.now;
}

pub overlay_sector-requires-clause-cache : goal.overlay_sector-requires-clause-cache
overlay_sector-requires-clause-cache c = c.loop-i.invariant.same.cache c.requires.cache

pub overlay_sector-requires-clause-rows : goal.overlay_sector-requires-clause-rows
overlay_sector-requires-clause-rows c = λ row. subst (λ (o : Option Cached). IfSome o (λ held. length held.body ≡ c.args.shape.now.disks)) (sym (c.loop-i.invariant.same.held c.args.side row)) (c.requires.rows row)

pub loop-i-preserved : goal.loop-i-preserved
loop-i-preserved c =
    let was = c.loop-i.invariant in
    let did = c.overlay_sector.ensures in
    record {
      size = c.overlay_sector.auto.into ∙ was.size;
      long = subst (λ (n : ℕ). 8192 ≤ n) (sym c.overlay_sector.auto.scratch) was.long;
      laid = λ k lt. elim (cases_eq k c.loop-i.i) [
        | inl here ↦ subst (λ (n : ℕ). IsOver (held_row c.args.side (place c.args.shape.now (c.args.first + n)).row c.args.cache.now) (place c.args.shape.now (c.args.first + n)).role (sector_of c.args.into.now n) (sector_of c.overlay_sector.new.into n)) (sym here)
            (subst (λ (s : List ℕ). IsOver (held_row c.args.side (place c.args.shape.now (c.args.first + c.loop-i.i)).row c.args.cache.now) (place c.args.shape.now (c.args.first + c.loop-i.i)).role s (sector_of c.overlay_sector.new.into c.loop-i.i)) (was.rest c.loop-i.i (omega arith))
            (subst (λ (o : Option Cached). IsOver o (place c.args.shape.now (c.args.first + c.loop-i.i)).role (sector_of c.loop-i.into c.loop-i.i) (sector_of c.overlay_sector.new.into c.loop-i.i)) (was.same.held c.args.side (place c.args.shape.now (c.args.first + c.loop-i.i)).row) did.over))
        | inr other ↦ subst (λ (s : List ℕ). IsOver (held_row c.args.side (place c.args.shape.now (c.args.first + k)).row c.args.cache.now) (place c.args.shape.now (c.args.first + k)).role (sector_of c.args.into.now k) s) (sym (did.others k other)) (was.laid k (omega (arith, lt, other)))
      ];
      rest = λ k low. did.others k (λ same. absurd (omega (arith, low, same))) ∙ was.rest k (omega (arith, low));
      same = same-then c.args.cache.now c.loop-i.cache c.overlay_sector.new.cache was.same did.same;
    }
