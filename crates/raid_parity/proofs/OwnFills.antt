-- The laws of the fill.
use Rattle.std.proofs.Common.{◌≡◌, Bool, true, false, cond, Option, Some, None, refl, sym, ap, ◌∙◌}
use Rattle.raid_types.specs.Sectors.{Sector}
use Rattle.raid_parity.specs.Parity.{Row, fill}
use Rattle.raid_parity.specs.Fills.{FillsAreOwn, FillsAreUnique, GoodRowsStayGood}
use Rattle.raid_parity.specs.Rows.{row_without}
use Rattle.raid_parity.proofs.Columns.{tabulate-same}
use Rattle.raid_parity.proofs.Contents.{fill-own, good-without}

pub fills-are-own : FillsAreOwn
fills-are-own roles sectors lacks role is lt = fill-own roles is.valid sectors is.whole is.good lacks is.tolerated role lt

pub good-rows-stay-good : GoodRowsStayGood
good-rows-stay-good roles sectors lacks is = good-without roles is.valid sectors is.whole is.good lacks is.tolerated

-- a sector that is held is the same one
either : (b : Bool) (x y : Sector) → (b ≡ false → x ≡ y) → ◌≡◌ {A = Option Sector} (cond b None (Some x)) (cond b None (Some y))
either true x y same = refl
either false x y same = ap (λ s. Some s) (same refl)

pub fills-are-unique : FillsAreUnique
fills-are-unique roles one two lacks first second agree role lt =
    let same : row_without lacks roles.disks one ≡ row_without lacks roles.disks two =
    tabulate-same roles.disks (λ r. cond (lacks r) None (Some (one r))) (λ r. cond (lacks r) None (Some (two r)))
    (λ r l. either (lacks r) (one r) (two r) (agree r l)) in
    sym (fills-are-own roles one lacks role first lt) ∙ ap (λ (row : Row). fill roles row role) same ∙ fills-are-own roles two lacks role second lt
