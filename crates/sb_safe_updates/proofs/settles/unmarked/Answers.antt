use Rattle.std.proofs.Common.{◌≡◌, ℕ, ◌<◌, true, subst, arith}
use Rattle.std.specs.Prelude.{MatchOption, None}
use Rattle.raid_layout.specs.raid_types_Shapes.{has_slot}
use Rattle.array_members.specs.crash_views_Regions.{DoWithout}
use Rattle.array_members.specs.Lacking.{AreTooMany}
use Rattle.array_members.proofs.LiveLeft.{some-held}
use Rattle.array_members.proofs.MemberLaws.{some_slot}
use Rattle.sb_update.proofs.sb_specs_ValidFields.{few-roles}
use Rattle.sb_safe_updates.proofs.settles.unmarked.Goals as goal

pub returns-then-holders-eq0-clause-left : goal.returns-then-holders-eq0-clause-left
returns-then-holders-eq0-clause-left c = λ none.
    some-held c.args.members.now c.requires.shapes.old (does none).old
  where
    does : c.too_many.result ≡ None → DoWithout c.args.members.now
    does none = subst (λ o. MatchOption o (DoWithout c.args.members.now) (AreTooMany c.args.members.now)) none c.too_many.ensures

pub returns-clause-left : goal.returns-clause-left
returns-clause-left c = λ none.
    let slot = some_slot c.holders.result small c.if-holders-eq0.false in
    let held = c.holders.ensures.only slot.0 slot.1 in
    (held.0, slot.0, held.1)
  where
    small : (s : ℕ) → has_slot c.holders.result s ≡ true → s < 32
    small s has = let held = c.holders.ensures.only s has in c.requires.small held.0 s held.1

pub holders-requires-clause-few : goal.holders-requires-clause-few
holders-requires-clause-few c =
    let most = few-roles c.args.members.now.newest c.requires.shapes in
    let count = c.requires.roles in
    omega (arith, most, count)
