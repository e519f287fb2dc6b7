use Rattle.std.proofs.Common.{◌≡◌, ℕ, ◌*◌, ◌/◌, ◌<◌, ◌≤◌, List, length, take, refl, sym, ◌∙◌, subst, arith}
use Rattle.std.proofs.lemmas.Grind.{common_steps}
use Rattle.raid_layout.specs.raid_types_the_Place.{Place}
use Rattle.raid_layout.proofs.Limits.{limited}
use Rattle.raid_parity.specs.Rows.{sector_of}
use Rattle.stripe_delayed_rows.specs.stripe_cache_Rows.{held_row}
use Rattle.stripe_cache_overlay.specs.Overlaid.{IsOver}
use Rattle.stripe_cache_overlay.proofs.OverlaidLaws.{same-used, laid, unlaid}
use Rattle.stripe_cache_overlay.proofs.sectors.overlay_sector.Goals as goal

taken-length : (disks : ℕ) (xs : List ℕ) → disks ≤ 16 → 8192 ≤ length xs → 512 * disks ≡ length (take (512 * disks) xs)
taken-length disks xs few long = grind (arith, common_steps)

by_512 : (n disks role : ℕ) → n ≡ 512 * disks → role < disks → role < n / 512
by_512 n disks role is lt = omega (arith, is, lt)

pub slice_bounds-row-end-2 : goal.slice_bounds-row-end-2
slice_bounds-row-end-2 c = taken-length c.args.shape.now.disks c.args.scratch.now (limited c.args.shape.now c.requires.shape).most c.requires.scratch

pub copy_sector-requires-clause-at : goal.copy_sector-requires-clause-at
copy_sector-requires-clause-at c =
    let size : length c.look-found.new.into ≡ 512 * c.args.shape.now.disks = c.look-found.auto.into ∙ sym (taken-length c.args.shape.now.disks c.args.scratch.now (limited c.args.shape.now c.requires.shape).most c.requires.scratch) in
    let role = c.place-at.ensures.role in
    omega (arith, size, role)

pub returns-clause-over : goal.returns-clause-over
returns-clause-over c =
    let size : length c.look-found.new.into ≡ 512 * c.args.shape.now.disks = c.look-found.auto.into ∙ sym (taken-length c.args.shape.now.disks c.args.scratch.now (limited c.args.shape.now c.requires.shape).most c.requires.scratch) in
    subst (λ (p : Place). IsOver (held_row c.args.side p.row c.args.cache.now) p.role (sector_of c.args.into.now c.args.index) (sector_of c.copy_sector.new.into c.args.index)) c.place-at.ensures.place
    (laid (held_row c.args.side c.place-at.result.row c.args.cache.now) c.place-at.result.role (sector_of c.args.into.now c.args.index) (sector_of c.copy_sector.new.into c.args.index)
    (take (512 * c.args.shape.now.disks) c.args.scratch.now) c.look-found.new.into (sym c.look-found.ensures.found ∙ c.if-not-found.false) c.look-found.ensures.body c.copy_sector.ensures.here
    (by_512 (length c.look-found.new.into) c.args.shape.now.disks c.place-at.result.role size c.place-at.ensures.role))

pub returns-clause-same : goal.returns-clause-same
returns-clause-same c = same-used c.args.side c.place-at.result.row c.args.cache.now c.look-found.new.self c.requires.cache c.look-found.ensures.rows

pub returns-then-not-found-clause-same : goal.returns-then-not-found-clause-same
returns-then-not-found-clause-same c = same-used c.args.side c.place-at.result.row c.args.cache.now c.look-found.new.self c.requires.cache c.look-found.ensures.rows

pub returns-then-not-found-clause-over : goal.returns-then-not-found-clause-over
returns-then-not-found-clause-over c =
    subst (λ (p : Place). IsOver (held_row c.args.side p.row c.args.cache.now) p.role (sector_of c.args.into.now c.args.index) (sector_of c.args.into.now c.args.index)) c.place-at.ensures.place
    (unlaid (held_row c.args.side c.place-at.result.row c.args.cache.now) c.place-at.result.role (sector_of c.args.into.now c.args.index) (sector_of c.args.into.now c.args.index)
    (sym c.look-found.ensures.found ∙ c.if-not-found.true) refl)
