use Rattle.std.proofs.Common.{◌≡◌, ◌≢◌, inl, inr, ℕ, List, Option, [], ◌∷◌, true, false, refl, sym, ◌∙◌, ap, subst, ⊎_elim, arith}
use Rattle.sb_specs.specs.sb_codec_the_Sb.{Sb}
use Rattle.sb_specs.specs.raid_types_Shapes.{has_slot}
use Rattle.bank.specs.Given.{Given}
use Rattle.bank.specs.Tape.{EachMark, disk}
use Rattle.sb_specs.specs.declared.members.Members.{Members}
use Rattle.std.proofs.lemmas.Bool.{cases_eq}
use Rattle.bank.proofs.Marks.{each_mark-map, each_mark-both, each_mark-then}
use Rattle.sb_specs.specs.Rounds.{Round, round_at}
use Rattle.sb_specs.specs.Losing.{AreRecoveriesOver, AreTakenInTurn}
use Rattle.sb_update.proofs.Namings.{rewriting}
use Rattle.sb_specs.specs.Update.{give_of, own_in, is_recovery, with_roles}
use Rattle.sb_specs.specs.Writing.{IsPlanned, plan_of}
use Rattle.sb_specs.specs.Stages.{AreFirstKept}
use Rattle.sb_specs.proofs.ReadLists.{by_bool}
use Rattle.sb_specs.proofs.Exact.{same_set}
use Rattle.sb_specs.specs.Updating.{IsUpdate, IsLater, IsRecorded, AreRecoveriesKept}
use Rattle.sb_specs.proofs.Updates.{update-then, update-later, each_mark-last, between_same, in_order, both_planned, stays_left}
use Rattle.sb_update.proofs.writing.write_planned.Goals as goal
use Rattle.sb_update.proofs.writing.write_planned.Goals.{After-write_others}
use Rattle.sb_update.proofs.writing.write_planned.Given.{Over}

-- the same slots, and no fewer lost
same_own : (g : Over) (c : After-write_others g) → c.name_recoveries.new.members.own ≡ c.args.members.now.own
same_own g c = ap (λ (m : Members). m.own) c.name_recoveries.ensures.members ∙ ap (λ (m : Members). m.own) c.write_recoveries.ensures.members

same_lost : (g : Over) (c : After-write_others g) → c.name_recoveries.new.members.lost ≡ c.write_recoveries.new.members.lost
same_lost g c = ap (λ (m : Members). m.lost) c.name_recoveries.ensures.members

stay : (g : Over) (c : After-write_others g) (s : ℕ) → has_slot c.write_recoveries.new.members.lost s ≡ true → has_slot c.write_others.new.members.lost s ≡ true
stay g c s is = c.write_others.ensures.losses.stay s (subst (λ (l : ℕ). has_slot l s ≡ true) (sym (same_lost g c)) is)

later : (g : Over) (c : After-write_others g) → IsLater c.args.members.now.newest c.name_recoveries.new.members.newest
later g c = subst (λ (n : Sb). IsLater n c.name_recoveries.new.members.newest) (ap (λ (m : Members). m.newest) c.write_recoveries.ensures.members) c.name_recoveries.ensures.newest

none_lost : (g : Over) (c : After-write_others g) → c.write_others.new.members.lost ≡ c.args.members.now.lost → c.write_recoveries.new.members.lost ≡ c.args.members.now.lost
none_lost g c same = between_same c.args.members.now.lost c.write_recoveries.new.members.lost c.write_others.new.members.lost c.write_recoveries.ensures.losses.stay (stay g c) same

then : (g : Over) (c : After-write_others g) → EachMark g.B.Bank.tells (g.B.Bank.given c.args.bank.now).start (g.B.Bank.tape c.write_recoveries.new.bank) (g.B.Bank.tape c.write_others.new.bank)
    (AreRecoveriesKept c.args.change.now.gives (disk (g.B.Bank.given c.args.bank.now).start (g.B.Bank.tape c.write_recoveries.new.bank)))
then g c = subst (λ (b : Given). EachMark g.B.Bank.tells b.start (g.B.Bank.tape c.write_recoveries.new.bank) (g.B.Bank.tape c.write_others.new.bank)
    (AreRecoveriesKept c.args.change.now.gives (disk b.start (g.B.Bank.tape c.write_recoveries.new.bank)))) c.write_recoveries.ensures.given c.write_others.ensures.then

-- where no slot that gets a recovery offset was lost, none was before the others were written
first_kept : (g : Over) (c : After-write_others g) → AreFirstKept c.args.change.now.gives c.args.members.now.lost c.write_others.new.members.lost
    → c.write_recoveries.new.members.lost ≡ c.args.members.now.lost
first_kept g c first = same_set c.args.members.now.lost c.write_recoveries.new.members.lost c.write_recoveries.ensures.losses.stay
    (λ s is. ⊎_elim (λ was. was) (λ none. first s (c.write_recoveries.ensures.who s is none) (stay g c s is)) (by_bool (has_slot c.args.members.now.lost s)))

same_newest : (g : Over) (c : After-write_others g) → c.write_recoveries.new.members.lost ≡ c.args.members.now.lost → c.name_recoveries.new.members.newest ≡ c.args.members.now.newest
same_newest g c same = ap (λ (m : Members). m.newest) (c.name_recoveries.ensures.kept same) ∙ ap (λ (m : Members). m.newest) c.write_recoveries.ensures.members

pub returns-clause-unnamed : goal.returns-clause-unnamed
returns-clause-unnamed g c = λ first. ap (λ (m : Members). m.newest) c.write_others.ensures.members ∙ same_newest g c (first_kept g c first)

pub returns-clause-exact : goal.returns-clause-exact
returns-clause-exact g c = λ first.
    let m0 = c.args.members.now in
    let m1 = c.write_recoveries.new.members in
    let m2 = c.name_recoveries.new.members in
    let m3 = c.write_others.new.members in
    let gives = c.args.change.now.gives in
    let start = (g.B.Bank.given c.args.bank.now).start in
    let tape0 = g.B.Bank.tape c.args.bank.now in
    let tape1 = g.B.Bank.tape c.write_recoveries.new.bank in
    let tape3 = g.B.Bank.tape c.write_others.new.bank in
    update-then c.args.live m0.lost m1.lost m3.lost (plan_of m0.newest gives m0.own) c.write_recoveries.ensures.losses.stay (stay g c) start tape0 tape1 tape3 c.write_recoveries.ensures.exact
    (subst (λ (n : Sb). IsUpdate g.B.Bank.tells c.args.live m1.lost m3.lost (plan_of n gives m0.own) start tape1 tape3) (same_newest g c (first_kept g c first))
    (subst (λ (o : List (Option Sb)). IsUpdate g.B.Bank.tells c.args.live m1.lost m3.lost (plan_of m2.newest gives o) start tape1 tape3) (same_own g c)
    (subst (λ (l : ℕ). IsUpdate g.B.Bank.tells c.args.live l m3.lost (plan_of m2.newest gives m2.own) start tape1 tape3) (same_lost g c)
    (subst (λ (b : Given). IsUpdate g.B.Bank.tells c.args.live m2.lost m3.lost (plan_of m2.newest gives m2.own) b.start tape1 tape3) c.write_recoveries.ensures.given c.write_others.ensures.exact))))

pub returns-clause-taken : goal.returns-clause-taken
returns-clause-taken g c = λ first told.
    let m0 = c.args.members.now in
    let m2 = c.name_recoveries.new.members in
    let m3 = c.write_others.new.members in
    let gives = c.args.change.now.gives in
    let start = (g.B.Bank.given c.args.bank.now).start in
    let tape1 = g.B.Bank.tape c.write_recoveries.new.bank in
    let tape3 = g.B.Bank.tape c.write_others.new.bank in
    both_planned m0.newest m2.newest m0.newest gives m0.own m2.own c.args.live c.write_recoveries.new.members.lost m3.lost start tape1 tape3
    refl (same_newest g c (first_kept g c first)) (same_own g c) (stay g c) (c.write_recoveries.ensures.written told) (each_mark-last (then g c) told)
    (subst (λ (b : Given). (s : ℕ) → has_slot c.args.live s ≡ true → has_slot m3.lost s ≡ false → is_recovery (give_of gives s) ≡ false → (v : List ℕ) × IsPlanned m2.newest (give_of gives s) (own_in m2.own s) v × (disk b.start tape3 s 8 ≡ v ∷ []))
    c.write_recoveries.ensures.given (c.write_others.ensures.written told))

pub returns-clause-update : goal.returns-clause-update
returns-clause-update g c =
    let m0 = c.args.members.now in
    let m1 = c.write_recoveries.new.members in
    let m2 = c.name_recoveries.new.members in
    let m3 = c.write_others.new.members in
    let gives = c.args.change.now.gives in
    let start = (g.B.Bank.given c.args.bank.now).start in
    let tape0 = g.B.Bank.tape c.args.bank.now in
    let tape1 = g.B.Bank.tape c.write_recoveries.new.bank in
    let tape3 = g.B.Bank.tape c.write_others.new.bank in
    update-then c.args.live m0.lost m1.lost m3.lost (IsRecorded m0.newest gives m0.own) c.write_recoveries.ensures.losses.stay (stay g c) start tape0 tape1 tape3 c.write_recoveries.ensures.update
    (update-later m2.newest m0.newest gives m2.own m0.own c.args.live m2.lost m1.lost m3.lost start tape1 tape3 (later g c) (same_own g c) (same_lost g c)
    (subst (λ (b : Given). IsUpdate g.B.Bank.tells c.args.live m2.lost m3.lost (IsRecorded m2.newest gives m2.own) b.start tape1 tape3) c.write_recoveries.ensures.given c.write_others.ensures.update))

pub returns-clause-order : goal.returns-clause-order
returns-clause-order g c =
    let m0 = c.args.members.now in
    in_order m0.newest c.args.change.now.gives m0.own c.args.live c.write_recoveries.new.members.lost c.write_others.new.members.lost _ _ _ _ (stay g c)
    c.write_recoveries.ensures.first c.write_recoveries.ensures.written (then g c)

pub returns-clause-recoveries : goal.returns-clause-recoveries
returns-clause-recoveries g c = λ told s is left recovery.
    let w = c.write_recoveries.ensures.written told s is (stays_left c.write_recoveries.new.members.lost c.write_others.new.members.lost s (stay g c s) left) recovery in
    (w.0, w.1, each_mark-last (then g c) told s recovery ∙ w.2)

pub returns-clause-planned : goal.returns-clause-planned
returns-clause-planned g c = λ same told.
    let m0 = c.args.members.now in
    let m2 = c.name_recoveries.new.members in
    let m3 = c.write_others.new.members in
    let gives = c.args.change.now.gives in
    let start = (g.B.Bank.given c.args.bank.now).start in
    let tape1 = g.B.Bank.tape c.write_recoveries.new.bank in
    let tape3 = g.B.Bank.tape c.write_others.new.bank in
    let n2 : m3.newest ≡ m2.newest = ap (λ (m : Members). m.newest) c.write_others.ensures.members in
    let n1 : m2.newest ≡ m0.newest = ap (λ (m : Members). m.newest) (c.name_recoveries.ensures.kept (none_lost g c same)) ∙ ap (λ (m : Members). m.newest) c.write_recoveries.ensures.members in
    both_planned m0.newest m2.newest m3.newest gives m0.own m2.own c.args.live c.write_recoveries.new.members.lost m3.lost start tape1 tape3
    (sym n1 ∙ sym n2) (sym n2) (same_own g c) (stay g c) (c.write_recoveries.ensures.written told) (each_mark-last (then g c) told)
    (subst (λ (b : Given). (s : ℕ) → has_slot c.args.live s ≡ true → has_slot m3.lost s ≡ false → is_recovery (give_of gives s) ≡ false → (v : List ℕ) × IsPlanned m2.newest (give_of gives s) (own_in m2.own s) v × (disk b.start tape3 s 8 ≡ v ∷ []))
    c.write_recoveries.ensures.given (c.write_others.ensures.written told))

pub returns-clause-kept : goal.returns-clause-kept
returns-clause-kept g c = λ same.
    let m0 = c.args.members.now in
    c.write_others.ensures.members
    ∙ ap (λ (m : Members). record m { lost = c.write_others.new.members.lost }) (c.name_recoveries.ensures.kept (none_lost g c same) ∙ c.write_recoveries.ensures.members)
    ∙ ap (λ (l : ℕ). record m0 { lost = l }) same

-- ---- whichever slots are lost

module _ (g : Over) (c : After-write_others g) where
  abbrev Over_ : Round
  Over_ = round_at c.name_recoveries.new.members.newest c.write_recoveries.new.members.lost (g.B.Bank.given c.args.bank.now).start (g.B.Bank.tape c.write_recoveries.new.bank)

  named_newest : c.write_recoveries.new.members.lost ≢ c.args.members.now.lost → c.name_recoveries.new.members.newest
      ≡ record c.args.members.now.newest { dev_roles = with_roles c.args.members.now c.args.change.now c.args.before c.write_recoveries.new.members.lost c.args.members.now.newest.dev_roles }
  named_newest differ = c.name_recoveries.ensures.named differ
      ∙ ap (λ (m : Members). record m.newest { dev_roles = with_roles m c.args.change.now c.args.before m.lost m.newest.dev_roles }) c.write_recoveries.ensures.members

  recoveries_over : g.B.Bank.tells → AreRecoveriesOver c.args.members.now c.args.change.now c.args.before c.args.live (disk (g.B.Bank.given c.args.bank.now).start (g.B.Bank.tape c.args.bank.now)) Over_
  recoveries_over told = record {
    stage = rewriting c.args.members.now.newest c.args.change.now.gives c.args.members.now.own (c.write_recoveries.ensures.exact.end told).touched;
    others = each_mark-last c.write_recoveries.ensures.first told;
    whole = c.write_recoveries.ensures.written told;
    who = c.write_recoveries.ensures.who;
    more = c.write_recoveries.ensures.losses.stay;
    newest = elim (cases_eq c.write_recoveries.new.members.lost c.args.members.now.lost) [
      | inl same ↦ inl (same, same_newest g c same)
      | inr differ ↦ inr (named_newest differ)
    ];
  }

  exact_then : IsUpdate g.B.Bank.tells c.args.live c.write_recoveries.new.members.lost c.write_others.new.members.lost (plan_of c.name_recoveries.new.members.newest c.args.change.now.gives c.args.members.now.own)
      (g.B.Bank.given c.args.bank.now).start (g.B.Bank.tape c.write_recoveries.new.bank) (g.B.Bank.tape c.write_others.new.bank)
  exact_then =
      let m1 = c.write_recoveries.new.members in
      let m2 = c.name_recoveries.new.members in
      let m3 = c.write_others.new.members in
      let gives = c.args.change.now.gives in
      let tape1 = g.B.Bank.tape c.write_recoveries.new.bank in
      let tape3 = g.B.Bank.tape c.write_others.new.bank in
      subst (λ (o : List (Option Sb)). IsUpdate g.B.Bank.tells c.args.live m1.lost m3.lost (plan_of m2.newest gives o) (g.B.Bank.given c.args.bank.now).start tape1 tape3) (same_own g c)
      (subst (λ (l : ℕ). IsUpdate g.B.Bank.tells c.args.live l m3.lost (plan_of m2.newest gives m2.own) (g.B.Bank.given c.args.bank.now).start tape1 tape3) (same_lost g c)
      (subst (λ (b : Given). IsUpdate g.B.Bank.tells c.args.live m2.lost m3.lost (plan_of m2.newest gives m2.own) b.start tape1 tape3) c.write_recoveries.ensures.given c.write_others.ensures.exact))

pub returns-clause-turns : goal.returns-clause-turns
returns-clause-turns g c =
    let m0 = c.args.members.now in
    let gives = c.args.change.now.gives in
    let start = (g.B.Bank.given c.args.bank.now).start in
    let Mark = AreTakenInTurn m0 c.args.change.now c.args.before c.args.live c.write_others.new.members.lost (disk start (g.B.Bank.tape c.args.bank.now)) in
    each_mark-then
    (each_mark-map Mark (λ told e at. inl (λ s is. stay g c s (c.write_recoveries.ensures.losses.stay s is), rewriting m0.newest gives m0.own at.0.touched, at.1)) (each_mark-both c.write_recoveries.ensures.exact.marks c.write_recoveries.ensures.first))
    (each_mark-map Mark (λ told e at. inr (Over_ g c, stay g c, recoveries_over g c told, rewriting c.name_recoveries.new.members.newest gives m0.own at.0.touched, at.1))
    (each_mark-both (exact_then g c).marks (then g c)))

pub returns-clause-over : goal.returns-clause-over
returns-clause-over g c = λ told.
    let m0 = c.args.members.now in
    let m2 = c.name_recoveries.new.members in
    let m3 = c.write_others.new.members in
    let gives = c.args.change.now.gives in
    let tape3 = g.B.Bank.tape c.write_others.new.bank in
    record {
      over = Over_ g c;
      recoveries = recoveries_over g c told;
      newest = ap (λ (m : Members). m.newest) c.write_others.ensures.members;
      stage = rewriting m2.newest gives m0.own ((exact_then g c).end told).touched;
      kept = each_mark-last (then g c) told;
      whole = subst (λ (o : List (Option Sb)). (s : ℕ) → has_slot c.args.live s ≡ true → has_slot m3.lost s ≡ false → is_recovery (give_of gives s) ≡ false
          → (v : List ℕ) × IsPlanned m2.newest (give_of gives s) (own_in o s) v × (disk (g.B.Bank.given c.args.bank.now).start tape3 s 8 ≡ v ∷ [])) (same_own g c)
          (subst (λ (b : Given). (s : ℕ) → has_slot c.args.live s ≡ true → has_slot m3.lost s ≡ false → is_recovery (give_of gives s) ≡ false
          → (v : List ℕ) × IsPlanned m2.newest (give_of gives s) (own_in m2.own s) v × (disk b.start tape3 s 8 ≡ v ∷ [])) c.write_recoveries.ensures.given (c.write_others.ensures.written told));
      more = stay g c;
    }

pub returns-clause-grows : goal.returns-clause-grows
returns-clause-grows g c = λ told some.
    let first = c.write_recoveries.ensures.update.marks.longer told in
    let then = c.write_others.ensures.update.marks.longer told in
    ⊎_elim
    (λ recovery.
    let grew = c.write_recoveries.ensures.grows told some.0 some.1 (stays_left c.write_recoveries.new.members.lost c.write_others.new.members.lost some.0 (stay g c some.0) some.2) recovery in
    omega (arith, grew, then))
    (λ other. let grew = c.write_others.ensures.grows told some.0 some.1 some.2 other in omega (arith, grew, first))
    (by_bool (is_recovery (give_of c.args.change.now.gives some.0)))
