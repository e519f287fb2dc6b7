use Rattle.std.proofs.Common.{ℕ, ◌≤◌, Option, sym, ◌∙◌, subst, ap}
use Rattle.std.specs.Prelude.{IfSome}
use Rattle.array_transition.proofs.sb_specs_ValidFields.{few-roles}
use Rattle.array_grow.specs.Plans.{IsAside}
use Rattle.array_grow.proofs.Parted.{backs-as, none-backs-as, never-both}
use Rattle.array_grow.proofs.backing.can_back.Goals.{in-None, in-Some}
use Rattle.array_transition.specs.sb_specs_Reading.{is_reshaping}
use Rattle.array_grow.proofs.backing.can_back.Goals as goal

pub is_aside-can-requires : goal.is_aside-can-requires
is_aside-can-requires g c =
    let placed = c.part_fixed-pieces.ensures.ready.kept.members_are.placed in
    record { few = subst (λ (n : ℕ). n ≤ 16) (sym placed.roles) (few-roles c.part_fixed-pieces.result.members.newest placed.fit.valid) }

pub of_fixed-requires : goal.of_fixed-requires
of_fixed-requires g c = record { ready = c.part_fixed-pieces.ensures.ready }

pub returns-clause-same : goal.returns-clause-same
returns-clause-same g c = c.of_fixed.ensures.same ∙ sym c.part_fixed-pieces.ensures.same

pub returns-clause-yes : goal.returns-clause-yes
returns-clause-yes g c on =
    let p = c.part_fixed-pieces.result in
    backs-as c.args.still _ c.part_fixed-pieces.ensures.same (elim c.match-pieces.branch [
      | in-None w ↦ subst (λ (o : Option ℕ). IfSome o (λ slot. IsAside p.epoch.given p.members slot)) (sym w.in-None.is) tt
      | in-Some w ↦ subst (λ (o : Option ℕ). IfSome o (λ slot. IsAside p.epoch.given p.members slot)) (sym w.in-Some.is) (w.is_aside-can.ensures.yes (sym w.can-is ∙ on))
    ])

pub returns-clause-no : goal.returns-clause-no
returns-clause-no g c off =
    none-backs-as c.args.still _ c.part_fixed-pieces.ensures.same (elim c.match-pieces.branch [
      | in-None w ↦ absurd (never-both c.match-pieces.can w.can-is off)
      | in-Some w ↦ (w.in-Some.slot, w.in-Some.is, w.is_aside-can.ensures.no (sym w.can-is ∙ off))
    ])

pub returns-clause-still : goal.returns-clause-still
returns-clause-still g c = ap (λ s. is_reshaping s.parts.members.newest) (c.of_fixed.ensures.same ∙ sym c.part_fixed-pieces.ensures.same) ∙ c.requires.still
