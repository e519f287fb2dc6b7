use Rattle.std.proofs.Common.{◌≡◌, inl, inr, ℕ, ◌+◌, ◌-◌, ◌^◌, min, ⊎_elim, ◌≤◌, List, Option, replicate, true, false, refl, sym, ◌∙◌, ap, subst, le_refl, arith}
use Rattle.sb_specs.specs.sb_codec_the_Sb.{Sb}
use Rattle.sb_specs.specs.raid_types_Shapes.{has_slot}
use Rattle.bank.specs.Given.{Given}
use Rattle.bank.specs.Tape.{EachMark, disk}
use Rattle.sb_specs.specs.declared.members.Members.{Members}
use Rattle.sb_specs.specs.Updating.{IsUpdate, IsRecorded, IsWrittenBy, IsLater, ArePlanned, AreNamed, AreLosses, IsInOrder, AreRecoveriesWritten, planned_newest}
use Rattle.sb_specs.proofs.Updates.{update-then, update-later, update-map, later-then, losses-then, between_same, stays_left, each_mark-last}
use Rattle.sb_update.proofs.Orders.{all_in_order}
use Rattle.sb_update.proofs.writing.write_update.Given.{Over}
use Rattle.sb_update.proofs.writing.write_update.Goals.{After-name_lost}
use Rattle.sb_update.proofs.writing.write_update.Goals as goal
use Rattle.sb_specs.specs.Update.{with_roles}
use Rattle.sb_specs.specs.Writing.{plan_of}
use Rattle.bank.specs.raid_types_Sectors.{Sector}
use Rattle.bank.specs.declared.bank.Operation.{Operation}
use Rattle.bank.proofs.Marks.{each_mark-map, each_mark-both, each_mark-then}
use Rattle.sb_specs.specs.declared.change.Give.{Give}
use Rattle.sb_specs.specs.Stages.{AreLeft, AreFirstKept, IsCatchingUp, IsCaughtUp, IsTaking, IsStaged, IsInUpdate}
use Rattle.sb_specs.specs.declared.change.Give.TheVariants.{Same}
use Rattle.sb_specs.specs.Rounds.{Round, round_at, first_newest, members_at, IsCaughtUpTo, IsFirstRewriting, IsPastFirst, IsInNamingUpTo, IsNamed, IsInRounds}
use Rattle.sb_specs.specs.Losing.{AreTakenInTurn, IsPastTurns, planned_at, IsInTurns, IsNamedSince}
use Rattle.sb_update.proofs.Namings.{rewriting, rewritten, first_rewriting}
use Rattle.sb_specs.proofs.Exact.{catching, taking, left_live, left_not_lost}

pub name_lost-requires-clause-planned : goal.name_lost-requires-clause-planned
name_lost-requires-clause-planned g c = λ same told.
    let m3 = c.write_planned.new.members in
    let gives = c.args.change.now.gives in
    let tape3 = g.B.Bank.tape c.write_planned.new.bank in
    let lost = ap (λ (m : Members). m.lost) c.plan_newest.ensures in
    subst (λ (b : Given). ArePlanned m3.newest gives m3.own c.args.live m3.lost (disk b.start tape3)) (sym c.write_planned.ensures.given)
    (subst (λ (o : List _). ArePlanned m3.newest gives o c.args.live m3.lost (disk (g.B.Bank.given c.catch_up.new.bank).start tape3)) (sym (ap (λ (m : Members). m.own) c.write_planned.ensures.members))
    (c.write_planned.ensures.planned (same ∙ sym lost) told))

pub name_lost-requires-clause-named : goal.name_lost-requires-clause-named
name_lost-requires-clause-named g c = λ same.
    let change = c.args.change.now in
    let lost = ap (λ (m : Members). m.lost) c.plan_newest.ensures in
    subst (λ (m : Members). AreNamed m change c.args.before m.lost m.newest) (sym (c.write_planned.ensures.kept (same ∙ sym lost)))
    (subst (λ (m : Members). AreNamed m change c.args.before m.lost m.newest) (sym c.plan_newest.ensures) (c.catch_up.new.members.newest.dev_roles, refl))

-- what each call left of the members
module _ (g : Over) (c : After-name_lost g) where
  same_own : c.plan_newest.new.members.own ≡ c.args.members.now.own
  same_own = ap (λ (m : Members). m.own) c.plan_newest.ensures ∙ ap (λ (m : Members). m.own) c.catch_up.ensures.members

  same_lost : c.plan_newest.new.members.lost ≡ c.catch_up.new.members.lost
  same_lost = ap (λ (m : Members). m.lost) c.plan_newest.ensures

  same_newest : c.catch_up.new.members.newest ≡ c.args.members.now.newest
  same_newest = ap (λ (m : Members). m.newest) c.catch_up.ensures.members

  own_then : c.write_planned.new.members.own ≡ c.args.members.now.own
  own_then = ap (λ (m : Members). m.own) c.write_planned.ensures.members ∙ same_own

  given_then : g.B.Bank.given c.write_planned.new.bank ≡ g.B.Bank.given c.args.bank.now
  given_then = c.write_planned.ensures.given ∙ c.catch_up.ensures.given

  later : IsLater (planned_newest c.args.change.now.shared c.args.members.now.newest) c.plan_newest.new.members.newest
  later =
      subst (λ (n : Sb). IsLater (planned_newest c.args.change.now.shared n) c.plan_newest.new.members.newest) same_newest
      (subst (λ (n : Sb). IsLater (planned_newest c.args.change.now.shared c.catch_up.new.members.newest) n) (sym (ap (λ (m : Members). m.newest) c.plan_newest.ensures))
      (record { events = le_refl _; same = refl }))

  stay : (s : ℕ) → has_slot c.catch_up.new.members.lost s ≡ true → has_slot c.write_planned.new.members.lost s ≡ true
  stay s is = c.write_planned.ensures.losses.stay s (subst (λ (l : ℕ). has_slot l s ≡ true) (sym same_lost) is)

  stay_on : (s : ℕ) → has_slot c.catch_up.new.members.lost s ≡ true → has_slot c.name_lost.new.members.lost s ≡ true
  stay_on s is = c.name_lost.ensures.losses.stay s (stay s is)

pub returns-clause-update : goal.returns-clause-update
returns-clause-update g c =
    let m0 = c.args.members.now in
    let m1 = c.catch_up.new.members in
    let m2 = c.plan_newest.new.members in
    let m3 = c.write_planned.new.members in
    let m4 = c.name_lost.new.members in
    let change = c.args.change.now in
    let gives = change.gives in
    let newest : Sb = planned_newest change.shared m0.newest in
    let start = (g.B.Bank.given c.args.bank.now).start in
    let tape0 = g.B.Bank.tape c.args.bank.now in
    let tape1 = g.B.Bank.tape c.catch_up.new.bank in
    let tape3 = g.B.Bank.tape c.write_planned.new.bank in
    let tape4 = g.B.Bank.tape c.name_lost.new.bank in
    let written = update-later m2.newest newest gives m2.own m0.own c.args.live m2.lost m1.lost m3.lost start tape1 tape3 (later g c) (same_own g c) (same_lost g c)
    (subst (λ (b : Given). IsUpdate g.B.Bank.tells c.args.live m2.lost m3.lost (IsRecorded m2.newest gives m2.own) b.start tape1 tape3) c.catch_up.ensures.given c.write_planned.ensures.update) in
    let named = update-later m3.newest newest gives m3.own m0.own c.args.live m3.lost m3.lost m4.lost start tape3 tape4 (later-then newest m2.newest m3.newest (later g c) c.write_planned.ensures.newest) (own_then g c) refl
    (subst (λ (b : Given). IsUpdate g.B.Bank.tells c.args.live m3.lost m4.lost (IsRecorded m3.newest gives m3.own) b.start tape3 tape4) (given_then g c) c.name_lost.ensures.update) in
    let rest = update-then c.args.live m1.lost m3.lost m4.lost (IsRecorded newest gives m0.own) (stay g c) c.name_lost.ensures.losses.stay start tape1 tape3 tape4 written named in
    update-then c.args.live m0.lost m1.lost m4.lost (IsWrittenBy m0.newest change m0.own) c.catch_up.ensures.losses.stay (stay_on g c) start tape0 tape1 tape4
    (update-map (IsWrittenBy m0.newest change m0.own) (λ s v w. inl w) c.catch_up.ensures.update) (update-map (IsWrittenBy m0.newest change m0.own) (λ s v w. inr w) rest)

pub returns-clause-order : goal.returns-clause-order
returns-clause-order g c =
    let m0 = c.args.members.now in
    let m1 = c.catch_up.new.members in
    let m2 = c.plan_newest.new.members in
    let m3 = c.write_planned.new.members in
    let m4 = c.name_lost.new.members in
    let change = c.args.change.now in
    let start = (g.B.Bank.given c.args.bank.now).start in
    let tape0 = g.B.Bank.tape c.args.bank.now in
    let tape1 = g.B.Bank.tape c.catch_up.new.bank in
    let tape3 = g.B.Bank.tape c.write_planned.new.bank in
    let tape4 = g.B.Bank.tape c.name_lost.new.bank in
    all_in_order m0.newest m2.newest m3.newest change m0.own c.args.live m0.lost m1.lost m3.lost m4.lost start tape0 tape1 tape3 tape4 c.name_lost.ensures.losses.stay
    (later g c) (later-then (planned_newest change.shared m0.newest) m2.newest m3.newest (later g c) c.write_planned.ensures.newest)
    c.catch_up.ensures.update
    (subst (λ (o : List _). EachMark g.B.Bank.tells start tape1 tape3 (IsInOrder m2.newest change.gives o c.args.live m3.lost (disk start tape1))) (same_own g c)
    (subst (λ (b : Given). EachMark g.B.Bank.tells b.start tape1 tape3 (IsInOrder m2.newest change.gives m2.own c.args.live m3.lost (disk b.start tape1))) c.catch_up.ensures.given c.write_planned.ensures.order))
    (λ told. subst (λ (o : List _). AreRecoveriesWritten m2.newest change.gives o c.args.live m3.lost (disk start tape3)) (same_own g c)
    (subst (λ (b : Given). AreRecoveriesWritten m2.newest change.gives m2.own c.args.live m3.lost (disk b.start tape3)) c.catch_up.ensures.given (c.write_planned.ensures.recoveries told)))
    (subst (λ (o : List _). IsUpdate g.B.Bank.tells c.args.live m3.lost m4.lost (IsRecorded m3.newest change.gives o) start tape3 tape4) (own_then g c)
    (subst (λ (b : Given). IsUpdate g.B.Bank.tells c.args.live m3.lost m4.lost (IsRecorded m3.newest change.gives m3.own) b.start tape3 tape4) (given_then g c) c.name_lost.ensures.update))

pub returns-clause-planned : goal.returns-clause-planned
returns-clause-planned g c = λ told.
    let m4 = c.name_lost.new.members in
    let gives = c.args.change.now.gives in
    let tape4 = g.B.Bank.tape c.name_lost.new.bank in
    subst (λ (o : List _). ArePlanned m4.newest gives o c.args.live m4.lost (disk (g.B.Bank.given c.args.bank.now).start tape4)) (own_then g c)
    (subst (λ (b : Given). ArePlanned m4.newest gives c.write_planned.new.members.own c.args.live m4.lost (disk b.start tape4)) (given_then g c) (c.name_lost.ensures.planned told))

pub returns-clause-named : goal.returns-clause-named
returns-clause-named g c = λ some.
    let m3 = c.write_planned.new.members in
    let m4 = c.name_lost.new.members in
    let is = c.write_planned.ensures.members ∙ ap (λ (m : Members). record m { newest = m3.newest; lost = m3.lost }) c.plan_newest.ensures
    ∙ ap (λ (m : Members). record m { newest = m3.newest; lost = m3.lost }) c.catch_up.ensures.members in
    subst (λ (m : Members). AreNamed m c.args.change.now c.args.before m4.lost m4.newest) is (c.name_lost.ensures.named some)

pub returns-clause-events : goal.returns-clause-events
returns-clause-events g c = λ same.
    let m0 = c.args.members.now in
    let m1 = c.catch_up.new.members in
    let m3 = c.write_planned.new.members in
    let m4 = c.name_lost.new.members in
    let first = between_same m0.lost m1.lost m4.lost c.catch_up.ensures.losses.stay (stay_on g c) same in
    let then_ = between_same m0.lost m3.lost m4.lost (λ s is. stay g c s (c.catch_up.ensures.losses.stay s is)) c.name_lost.ensures.losses.stay same in
    ap (λ (m : Members). m.newest.events) (c.name_lost.ensures.kept (then_ ∙ sym first) ∙ c.write_planned.ensures.kept (then_ ∙ sym first ∙ sym (same_lost g c)) ∙ c.plan_newest.ensures)
    ∙ ap (λ (n : Sb). min (n.events + 1) (2 ^ 64 - 1)) (same_newest g c)

pub returns-clause-losses : goal.returns-clause-losses
returns-clause-losses g c =
    let faults1 = g.B.Bank.faults_of c.catch_up.new.bank in
    let faults3 = g.B.Bank.faults_of c.write_planned.new.bank in
    losses-then c.catch_up.ensures.counts (λ s. omega (arith, c.write_planned.ensures.counts s, c.name_lost.ensures.counts s)) c.catch_up.ensures.losses
    (losses-then c.write_planned.ensures.counts c.name_lost.ensures.counts
    (subst (λ (l : ℕ). AreLosses c.args.live l c.write_planned.new.members.lost faults1 faults3) (same_lost g c) c.write_planned.ensures.losses) c.name_lost.ensures.losses)

-- ---- an update in which no slot is lost

-- a stretch at whose beginning slots were brought to the newest count
staged : {tells : Type 0} (start : ℕ → ℕ → Sector) (old mid new : List Operation) (former newest : Sb) (gives : List Give) (own : List (Option Sb)) (left : ℕ)
    → (tells → IsCaughtUp former own left (disk start old) (disk start mid)) → EachMark tells start mid new (IsTaking newest gives own left (disk start mid))
    → EachMark tells start mid new (IsStaged former newest gives own left (disk start old))
staged start old mid new former newest gives own left caught marks =
    each_mark-map (IsStaged former newest gives own left (disk start old)) (λ told e stage. record { mid = disk start mid; caught = caught told; stage = stage }) marks

module _ (g : Over) (c : After-name_lost g) (same : c.name_lost.new.members.lost ≡ c.args.members.now.lost) where
  lost1 : c.catch_up.new.members.lost ≡ c.args.members.now.lost
  lost1 = between_same c.args.members.now.lost c.catch_up.new.members.lost c.name_lost.new.members.lost c.catch_up.ensures.losses.stay (stay_on g c) same

  lost3 : c.write_planned.new.members.lost ≡ c.args.members.now.lost
  lost3 = between_same c.args.members.now.lost c.write_planned.new.members.lost c.name_lost.new.members.lost
      (λ s is. stay g c s (c.catch_up.ensures.losses.stay s is)) c.name_lost.ensures.losses.stay same

  -- nothing was named again
  kept4 : c.name_lost.new.members ≡ c.write_planned.new.members
  kept4 = c.name_lost.ensures.kept (lost3 ∙ sym lost1)

  kept3 : c.write_planned.new.members ≡ c.plan_newest.new.members
  kept3 = c.write_planned.ensures.kept (lost3 ∙ sym lost1 ∙ sym (same_lost g c))

  tape4 : g.B.Bank.tape c.name_lost.new.bank ≡ g.B.Bank.tape c.write_planned.new.bank
  tape4 = c.name_lost.ensures.idle (lost3 ∙ sym lost1)

  newest4 : c.name_lost.new.members.newest ≡ c.plan_newest.new.members.newest
  newest4 = ap (λ (m : Members). m.newest) (kept4 ∙ kept3)

  module _ (left : ℕ) (are : AreLeft c.args.live c.args.members.now.lost left) where
    caught : g.B.Bank.tells → IsCaughtUp c.args.members.now.newest c.args.members.now.own left
        (disk (g.B.Bank.given c.args.bank.now).start (g.B.Bank.tape c.args.bank.now)) (disk (g.B.Bank.given c.args.bank.now).start (g.B.Bank.tape c.catch_up.new.bank))
    caught told =
        let m0 = c.args.members.now in
        record {
          stage = catching c.args.live m0.lost left are m0.newest m0.own _ _ (c.catch_up.ensures.exact.end told).touched;
          level = λ s is. c.catch_up.ensures.level told s (left_live c.args.live m0.lost left are s is)
              (ap (λ (l : ℕ). has_slot l s) lost1 ∙ left_not_lost c.args.live m0.lost left are s is);
        }

    -- the first stretch, and the second one
    first_marks : EachMark g.B.Bank.tells (g.B.Bank.given c.args.bank.now).start (g.B.Bank.tape c.args.bank.now) (g.B.Bank.tape c.catch_up.new.bank)
        (IsCatchingUp c.args.members.now.newest c.args.members.now.own left (disk (g.B.Bank.given c.args.bank.now).start (g.B.Bank.tape c.args.bank.now)))
    first_marks =
        let m0 = c.args.members.now in
        each_mark-map (IsCatchingUp m0.newest m0.own left (disk (g.B.Bank.given c.args.bank.now).start (g.B.Bank.tape c.args.bank.now)))
        (λ told e at. catching c.args.live m0.lost left are m0.newest m0.own _ e at.touched) c.catch_up.ensures.exact.marks

    second_marks : EachMark g.B.Bank.tells (g.B.Bank.given c.args.bank.now).start (g.B.Bank.tape c.catch_up.new.bank) (g.B.Bank.tape c.write_planned.new.bank)
        (IsTaking c.name_lost.new.members.newest c.args.change.now.gives c.args.members.now.own left (disk (g.B.Bank.given c.args.bank.now).start (g.B.Bank.tape c.catch_up.new.bank)))
    second_marks =
        let m0 = c.args.members.now in
        let m2 = c.plan_newest.new.members in
        let m3 = c.write_planned.new.members in
        let m4 = c.name_lost.new.members in
        let gives = c.args.change.now.gives in
        let start = (g.B.Bank.given c.args.bank.now).start in
        let tape1 = g.B.Bank.tape c.catch_up.new.bank in
        let tape3 = g.B.Bank.tape c.write_planned.new.bank in
        let lost2 : m2.lost ≡ m0.lost = same_lost g c ∙ lost1 in
        let kept_first : AreFirstKept gives m2.lost m3.lost = λ s recovery gone. subst (λ (l : ℕ). has_slot l s ≡ true) (lost3 ∙ sym lost2) gone in
        let exact =
        subst (λ (n : Sb). IsUpdate g.B.Bank.tells c.args.live m0.lost m3.lost (plan_of n gives m0.own) start tape1 tape3) (sym newest4)
        (subst (λ (o : List (Option Sb)). IsUpdate g.B.Bank.tells c.args.live m0.lost m3.lost (plan_of m2.newest gives o) start tape1 tape3) (same_own g c)
        (subst (λ (l : ℕ). IsUpdate g.B.Bank.tells c.args.live l m3.lost (plan_of m2.newest gives m2.own) start tape1 tape3) lost2
        (subst (λ (b : Given). IsUpdate g.B.Bank.tells c.args.live m2.lost m3.lost (plan_of m2.newest gives m2.own) b.start tape1 tape3) c.catch_up.ensures.given (c.write_planned.ensures.exact kept_first)))) in
        let order =
        subst (λ (n : Sb). EachMark g.B.Bank.tells start tape1 tape3 (IsInOrder n gives m0.own c.args.live m3.lost (disk start tape1))) (sym newest4)
        (subst (λ (o : List (Option Sb)). EachMark g.B.Bank.tells start tape1 tape3 (IsInOrder m2.newest gives o c.args.live m3.lost (disk start tape1))) (same_own g c)
        (subst (λ (b : Given). EachMark g.B.Bank.tells b.start tape1 tape3 (IsInOrder m2.newest gives m2.own c.args.live m3.lost (disk b.start tape1))) c.catch_up.ensures.given c.write_planned.ensures.order)) in
        each_mark-map (IsTaking m4.newest gives m0.own left (disk start tape1))
        (λ told e at. taking c.args.live m0.lost left are m4.newest gives m0.own m3.lost (disk start tape1) e (subst (λ (l : ℕ). AreFirstKept gives l m3.lost) lost2 kept_first) at.0.touched at.1)
        (each_mark-both exact.marks order)

    staged_marks : EachMark g.B.Bank.tells (g.B.Bank.given c.args.bank.now).start (g.B.Bank.tape c.catch_up.new.bank) (g.B.Bank.tape c.write_planned.new.bank)
        (IsStaged c.args.members.now.newest c.name_lost.new.members.newest c.args.change.now.gives c.args.members.now.own left (disk (g.B.Bank.given c.args.bank.now).start (g.B.Bank.tape c.args.bank.now)))
    staged_marks = staged (g.B.Bank.given c.args.bank.now).start (g.B.Bank.tape c.args.bank.now) (g.B.Bank.tape c.catch_up.new.bank) (g.B.Bank.tape c.write_planned.new.bank)
        c.args.members.now.newest c.name_lost.new.members.newest c.args.change.now.gives c.args.members.now.own left caught second_marks

pub returns-clause-stages : goal.returns-clause-stages
returns-clause-stages g c = λ left are same.
    let m0 = c.args.members.now in
    let m4 = c.name_lost.new.members in
    let gives = c.args.change.now.gives in
    let start = (g.B.Bank.given c.args.bank.now).start in
    let tape0 = g.B.Bank.tape c.args.bank.now in
    let Mark = IsInUpdate m0.newest m4.newest gives m0.own left (disk start tape0) in
    subst (λ (t : List Operation). EachMark g.B.Bank.tells start tape0 t Mark) (sym (tape4 g c same))
    (each_mark-then (each_mark-map Mark (λ told e at. inl at) (first_marks g c same left are)) (each_mark-map Mark (λ told e at. inr at) (staged_marks g c same left are)))

pub returns-clause-whole : goal.returns-clause-whole
returns-clause-whole g c = λ left are same told.
    let m0 = c.args.members.now in
    let m4 = c.name_lost.new.members in
    let gives = c.args.change.now.gives in
    let start = (g.B.Bank.given c.args.bank.now).start in
    let tape0 = g.B.Bank.tape c.args.bank.now in
    subst (λ (t : List Operation). IsStaged m0.newest m4.newest gives m0.own left (disk start tape0) (disk start t)) (sym (tape4 g c same))
    (each_mark-last (staged_marks g c same left are) told)

pub returns-clause-plan : goal.returns-clause-plan
returns-clause-plan g c = λ same.
    let m0 = c.args.members.now in
    let m1 = c.catch_up.new.members in
    newest4 g c same ∙ ap (λ (m : Members). m.newest) c.plan_newest.ensures
    ∙ ap (λ (m : Members). record (planned_newest c.args.change.now.shared m.newest) { dev_roles = with_roles m c.args.change.now c.args.before m.lost m.newest.dev_roles })
    (c.catch_up.ensures.members ∙ ap (λ (l : ℕ). record m0 { lost = l }) (lost1 g c same))

-- ---- an update in which slots may be lost, but none that gets a recovery offset

module _ (g : Over) (c : After-name_lost g) (first : AreFirstKept c.args.change.now.gives c.args.members.now.lost c.name_lost.new.members.lost) where
  abbrev mid : Round
  mid = round_at c.args.members.now.newest c.catch_up.new.members.lost (g.B.Bank.given c.args.bank.now).start (g.B.Bank.tape c.catch_up.new.bank)

  abbrev over : Round
  over = round_at c.write_planned.new.members.newest c.write_planned.new.members.lost (g.B.Bank.given c.args.bank.now).start (g.B.Bank.tape c.write_planned.new.bank)

  caught_to : g.B.Bank.tells → IsCaughtUpTo c.args.members.now.newest c.args.members.now.own c.args.live c.args.members.now.lost (disk (g.B.Bank.given c.args.bank.now).start (g.B.Bank.tape c.args.bank.now)) mid
  caught_to told = record {
    newest = refl;
    stage = rewriting c.args.members.now.newest (replicate 32 Same) c.args.members.now.own (c.catch_up.ensures.exact.end told).touched;
    level = c.catch_up.ensures.level told;
    more = c.catch_up.ensures.losses.stay;
    still = each_mark-last c.catch_up.ensures.still told;
    due = c.catch_up.ensures.who;
  }

  lost2 : c.plan_newest.new.members.lost ≡ c.catch_up.new.members.lost
  lost2 = same_lost g c

  kept_first : AreFirstKept c.args.change.now.gives c.plan_newest.new.members.lost c.write_planned.new.members.lost
  kept_first s recovery gone = subst (λ (l : ℕ). has_slot l s ≡ true) (sym lost2)
      (c.catch_up.ensures.losses.stay s (first s recovery (c.name_lost.ensures.losses.stay s gone)))

  newest3 : c.write_planned.new.members.newest ≡ first_newest c.args.members.now c.args.change.now c.args.before c.catch_up.new.members.lost c.args.members.now.newest
  newest3 =
      c.write_planned.ensures.unnamed kept_first ∙ ap (λ (m : Members). m.newest) c.plan_newest.ensures
      ∙ ap (λ (m : Members). record (planned_newest c.args.change.now.shared m.newest) { dev_roles = with_roles m c.args.change.now c.args.before c.catch_up.new.members.lost m.newest.dev_roles })
      c.catch_up.ensures.members

  newest2 : c.plan_newest.new.members.newest ≡ c.write_planned.new.members.newest
  newest2 = sym (c.write_planned.ensures.unnamed kept_first)

  exact3 : IsUpdate g.B.Bank.tells c.args.live c.catch_up.new.members.lost c.write_planned.new.members.lost (plan_of c.write_planned.new.members.newest c.args.change.now.gives c.args.members.now.own)
      (g.B.Bank.given c.args.bank.now).start (g.B.Bank.tape c.catch_up.new.bank) (g.B.Bank.tape c.write_planned.new.bank)
  exact3 =
      let gives = c.args.change.now.gives in
      let m2 = c.plan_newest.new.members in
      let m3 = c.write_planned.new.members in
      let tape1 = g.B.Bank.tape c.catch_up.new.bank in
      let tape3 = g.B.Bank.tape c.write_planned.new.bank in
      let begin = (g.B.Bank.given c.args.bank.now).start in
      subst (λ (n : Sb). IsUpdate g.B.Bank.tells c.args.live c.catch_up.new.members.lost m3.lost (plan_of n gives c.args.members.now.own) begin tape1 tape3) newest2
      (subst (λ (o : List (Option Sb)). IsUpdate g.B.Bank.tells c.args.live c.catch_up.new.members.lost m3.lost (plan_of m2.newest gives o) begin tape1 tape3) (same_own g c)
      (subst (λ (l : ℕ). IsUpdate g.B.Bank.tells c.args.live l m3.lost (plan_of m2.newest gives m2.own) begin tape1 tape3) lost2
      (subst (λ (b : Given). IsUpdate g.B.Bank.tells c.args.live m2.lost m3.lost (plan_of m2.newest gives m2.own) b.start tape1 tape3) c.catch_up.ensures.given (c.write_planned.ensures.exact kept_first))))

  order3 : EachMark g.B.Bank.tells (g.B.Bank.given c.args.bank.now).start (g.B.Bank.tape c.catch_up.new.bank) (g.B.Bank.tape c.write_planned.new.bank)
      (IsInOrder c.write_planned.new.members.newest c.args.change.now.gives c.args.members.now.own c.args.live c.write_planned.new.members.lost (disk (g.B.Bank.given c.args.bank.now).start (g.B.Bank.tape c.catch_up.new.bank)))
  order3 =
      let gives = c.args.change.now.gives in
      let m2 = c.plan_newest.new.members in
      let m3 = c.write_planned.new.members in
      let tape1 = g.B.Bank.tape c.catch_up.new.bank in
      let tape3 = g.B.Bank.tape c.write_planned.new.bank in
      let begin = (g.B.Bank.given c.args.bank.now).start in
      subst (λ (n : Sb). EachMark g.B.Bank.tells begin tape1 tape3 (IsInOrder n gives c.args.members.now.own c.args.live m3.lost (disk begin tape1))) newest2
      (subst (λ (o : List (Option Sb)). EachMark g.B.Bank.tells begin tape1 tape3 (IsInOrder m2.newest gives o c.args.live m3.lost (disk begin tape1))) (same_own g c)
      (subst (λ (b : Given). EachMark g.B.Bank.tells b.start tape1 tape3 (IsInOrder m2.newest gives m2.own c.args.live m3.lost (disk b.start tape1))) c.catch_up.ensures.given c.write_planned.ensures.order))

  planned3 : g.B.Bank.tells → ArePlanned c.write_planned.new.members.newest c.args.change.now.gives c.args.members.now.own c.args.live c.write_planned.new.members.lost
      (disk (g.B.Bank.given c.args.bank.now).start (g.B.Bank.tape c.write_planned.new.bank))
  planned3 told =
      let gives = c.args.change.now.gives in
      let m2 = c.plan_newest.new.members in
      let m3 = c.write_planned.new.members in
      let tape3 = g.B.Bank.tape c.write_planned.new.bank in
      subst (λ (n : Sb). ArePlanned n gives c.args.members.now.own c.args.live m3.lost (disk (g.B.Bank.given c.args.bank.now).start tape3)) newest2
      (subst (λ (o : List (Option Sb)). ArePlanned m2.newest gives o c.args.live m3.lost (disk (g.B.Bank.given c.args.bank.now).start tape3)) (same_own g c)
      (subst (λ (b : Given). ArePlanned m2.newest gives m2.own c.args.live m3.lost (disk b.start tape3)) c.catch_up.ensures.given (c.write_planned.ensures.taken kept_first told)))

  first3 : AreFirstKept c.args.change.now.gives c.catch_up.new.members.lost c.write_planned.new.members.lost
  first3 s recovery gone = subst (λ (l : ℕ). has_slot l s ≡ true) lost2 (kept_first s recovery gone)

  first_marks3 : EachMark g.B.Bank.tells (g.B.Bank.given c.args.bank.now).start (g.B.Bank.tape c.catch_up.new.bank) (g.B.Bank.tape c.write_planned.new.bank)
      (IsFirstRewriting c.write_planned.new.members.newest c.args.change.now.gives c.args.members.now.own c.args.live c.catch_up.new.members.lost (disk (g.B.Bank.given c.args.bank.now).start (g.B.Bank.tape c.catch_up.new.bank)))
  first_marks3 =
      let n3 = c.write_planned.new.members.newest in
      let l1 = c.catch_up.new.members.lost in
      let l3 = c.write_planned.new.members.lost in
      each_mark-map (IsFirstRewriting n3 c.args.change.now.gives c.args.members.now.own c.args.live l1 (disk (g.B.Bank.given c.args.bank.now).start (g.B.Bank.tape c.catch_up.new.bank)))
      (λ told e at. first_rewriting n3 c.args.change.now.gives c.args.members.now.own c.args.live l1 l3 first3 at.0.touched at.1) (each_mark-both exact3.marks order3)

  past_first : g.B.Bank.tells → IsPastFirst c.args.members.now c.args.change.now c.args.before c.args.live (disk (g.B.Bank.given c.args.bank.now).start (g.B.Bank.tape c.args.bank.now)) over
  past_first told = record {
    mid = mid;
    caught = caught_to told;
    written = record {
      newest = newest3;
      written = rewritten c.write_planned.new.members.newest c.args.change.now.gives c.args.members.now.own c.args.live c.catch_up.new.members.lost c.write_planned.new.members.lost (stay g c) told exact3 (planned3 told);
      stage = each_mark-last first_marks3 told;
      kept = first3;
    };
  }

  -- the members before naming
  members3 : c.write_planned.new.members ≡ members_at c.args.members.now over
  members3 =
      let m3 = c.write_planned.new.members in
      c.write_planned.ensures.members ∙ ap (λ (m : Members). record m { newest = m3.newest; lost = m3.lost }) c.plan_newest.ensures
      ∙ ap (λ (m : Members). record m { newest = m3.newest; lost = m3.lost }) c.catch_up.ensures.members

  naming3 : EachMark g.B.Bank.tells (g.B.Bank.given c.args.bank.now).start (g.B.Bank.tape c.write_planned.new.bank) (g.B.Bank.tape c.name_lost.new.bank)
      (IsInNamingUpTo (members_at c.args.members.now over) c.args.change.now c.args.before c.args.live c.name_lost.new.members.lost c.name_lost.new.members.newest.events over)
  naming3 =
      let tape3 = g.B.Bank.tape c.write_planned.new.bank in
      let tape4 = g.B.Bank.tape c.name_lost.new.bank in
      let m3 = c.write_planned.new.members in
      let m4 = c.name_lost.new.members in
      subst (λ (m : Members). EachMark g.B.Bank.tells (g.B.Bank.given c.args.bank.now).start tape3 tape4 (IsInNamingUpTo m c.args.change.now c.args.before c.args.live m4.lost m4.newest.events over)) members3
      (subst (λ (b : Given). EachMark g.B.Bank.tells b.start tape3 tape4 (IsInNamingUpTo m3 c.args.change.now c.args.before c.args.live m4.lost m4.newest.events (round_at m3.newest m3.lost b.start tape3)))
      (given_then g c) c.name_lost.ensures.naming)

  named3 : g.B.Bank.tells → IsNamed (members_at c.args.members.now over) c.args.change.now c.args.before c.args.live over
      (round_at c.name_lost.new.members.newest c.name_lost.new.members.lost (g.B.Bank.given c.args.bank.now).start (g.B.Bank.tape c.name_lost.new.bank))
  named3 told =
      let tape3 = g.B.Bank.tape c.write_planned.new.bank in
      let tape4 = g.B.Bank.tape c.name_lost.new.bank in
      let m3 = c.write_planned.new.members in
      let m4 = c.name_lost.new.members in
      subst (λ (m : Members). IsNamed m c.args.change.now c.args.before c.args.live over (round_at m4.newest m4.lost (g.B.Bank.given c.args.bank.now).start tape4)) members3
      (subst (λ (b : Given). IsNamed m3 c.args.change.now c.args.before c.args.live (round_at m3.newest m3.lost b.start tape3) (round_at m4.newest m4.lost b.start tape4)) (given_then g c) (c.name_lost.ensures.rounds told).0)

pub returns-clause-rounds : goal.returns-clause-rounds
returns-clause-rounds g c = λ first.
    let m0 = c.args.members.now in
    let begin = (g.B.Bank.given c.args.bank.now).start in
    let tape0 = g.B.Bank.tape c.args.bank.now in
    let m4 = c.name_lost.new.members in
    let Mark = IsInRounds m0 c.args.change.now c.args.before c.args.live m4.lost m4.newest.events (disk begin tape0) in
    each_mark-then (each_mark-map Mark (λ told e at. inl (record { stage = rewriting m0.newest (replicate 32 Same) m0.own at.0.touched; still = at.1 }))
    (each_mark-both c.catch_up.ensures.exact.marks c.catch_up.ensures.still))
    (each_mark-then
    (each_mark-map Mark (λ told e at. inr (inl (
      record {
        mid = mid g c first;
        caught = caught_to g c first told;
        stage = subst (λ (n : Sb). IsFirstRewriting n c.args.change.now.gives m0.own c.args.live c.catch_up.new.members.lost (disk begin (g.B.Bank.tape c.catch_up.new.bank)) e) (newest3 g c first) at;
      },
      stay_on g c,
    ))) (first_marks3 g c first))
    (each_mark-map Mark (λ told e at. inr (inr (over g c first, past_first g c first told, at))) (naming3 g c first)))

pub returns-clause-past : goal.returns-clause-past
returns-clause-past g c = λ first told. record { first = over g c first; past = past_first g c first told; named = named3 g c first told }

-- ---- whichever slots are lost

module _ (g : Over) (c : After-name_lost g) where
  abbrev Mid : Round
  Mid = round_at c.args.members.now.newest c.catch_up.new.members.lost (g.B.Bank.given c.args.bank.now).start (g.B.Bank.tape c.catch_up.new.bank)

  abbrev First : Round
  First = round_at c.write_planned.new.members.newest c.write_planned.new.members.lost (g.B.Bank.given c.args.bank.now).start (g.B.Bank.tape c.write_planned.new.bank)

  abbrev Planned : Members
  Planned = planned_at c.args.members.now c.args.change.now c.args.before Mid

  caught_mid : g.B.Bank.tells → IsCaughtUpTo c.args.members.now.newest c.args.members.now.own c.args.live c.args.members.now.lost (disk (g.B.Bank.given c.args.bank.now).start (g.B.Bank.tape c.args.bank.now)) Mid
  caught_mid told = record {
    newest = refl;
    stage = rewriting c.args.members.now.newest (replicate 32 Same) c.args.members.now.own (c.catch_up.ensures.exact.end told).touched;
    level = c.catch_up.ensures.level told;
    more = c.catch_up.ensures.losses.stay;
    still = each_mark-last c.catch_up.ensures.still told;
    due = c.catch_up.ensures.who;
  }

  planned_is : c.plan_newest.new.members ≡ Planned
  planned_is = c.plan_newest.ensures ∙ ap (λ (m : Members). record m { newest = record (planned_newest c.args.change.now.shared m.newest) { dev_roles = with_roles m c.args.change.now c.args.before m.lost m.newest.dev_roles } })
      c.catch_up.ensures.members

  turns_then : EachMark g.B.Bank.tells (g.B.Bank.given c.args.bank.now).start (g.B.Bank.tape c.catch_up.new.bank) (g.B.Bank.tape c.write_planned.new.bank)
      (AreTakenInTurn Planned c.args.change.now c.args.before c.args.live c.write_planned.new.members.lost (disk (g.B.Bank.given c.args.bank.now).start (g.B.Bank.tape c.catch_up.new.bank)))
  turns_then =
      let tape1 = g.B.Bank.tape c.catch_up.new.bank in
      let tape3 = g.B.Bank.tape c.write_planned.new.bank in
      subst (λ (m : Members). EachMark g.B.Bank.tells (g.B.Bank.given c.args.bank.now).start tape1 tape3 (AreTakenInTurn m c.args.change.now c.args.before c.args.live c.write_planned.new.members.lost (disk (g.B.Bank.given c.args.bank.now).start tape1))) planned_is
      (subst (λ (b : Given). EachMark g.B.Bank.tells b.start tape1 tape3 (AreTakenInTurn c.plan_newest.new.members c.args.change.now c.args.before c.args.live c.write_planned.new.members.lost (disk b.start tape1))) c.catch_up.ensures.given c.write_planned.ensures.turns)

  past_turns : g.B.Bank.tells → IsPastTurns Planned c.args.change.now c.args.before c.args.live (disk (g.B.Bank.given c.args.bank.now).start (g.B.Bank.tape c.catch_up.new.bank)) First
  past_turns told =
      let m3 = c.write_planned.new.members in
      let tape1 = g.B.Bank.tape c.catch_up.new.bank in
      let tape3 = g.B.Bank.tape c.write_planned.new.bank in
      subst (λ (m : Members). IsPastTurns m c.args.change.now c.args.before c.args.live (disk (g.B.Bank.given c.args.bank.now).start tape1) First) planned_is
      (subst (λ (b : Given). IsPastTurns c.plan_newest.new.members c.args.change.now c.args.before c.args.live (disk b.start tape1) (round_at m3.newest m3.lost b.start tape3)) c.catch_up.ensures.given (c.write_planned.ensures.over told))

  members_then : c.write_planned.new.members ≡ members_at c.args.members.now First
  members_then =
      let m3 = c.write_planned.new.members in
      c.write_planned.ensures.members ∙ ap (λ (m : Members). record m { newest = m3.newest; lost = m3.lost }) c.plan_newest.ensures
      ∙ ap (λ (m : Members). record m { newest = m3.newest; lost = m3.lost }) c.catch_up.ensures.members

  naming_then : EachMark g.B.Bank.tells (g.B.Bank.given c.args.bank.now).start (g.B.Bank.tape c.write_planned.new.bank) (g.B.Bank.tape c.name_lost.new.bank)
      (IsInNamingUpTo (members_at c.args.members.now First) c.args.change.now c.args.before c.args.live c.name_lost.new.members.lost c.name_lost.new.members.newest.events First)
  naming_then =
      let tape3 = g.B.Bank.tape c.write_planned.new.bank in
      let tape4 = g.B.Bank.tape c.name_lost.new.bank in
      let m3 = c.write_planned.new.members in
      let m4 = c.name_lost.new.members in
      subst (λ (m : Members). EachMark g.B.Bank.tells (g.B.Bank.given c.args.bank.now).start tape3 tape4 (IsInNamingUpTo m c.args.change.now c.args.before c.args.live m4.lost m4.newest.events First)) members_then
      (subst (λ (b : Given). EachMark g.B.Bank.tells b.start tape3 tape4 (IsInNamingUpTo m3 c.args.change.now c.args.before c.args.live m4.lost m4.newest.events (round_at m3.newest m3.lost b.start tape3))) (given_then g c)
      c.name_lost.ensures.naming)

  named_then : g.B.Bank.tells → IsNamedSince (members_at c.args.members.now First) c.args.change.now c.args.before c.args.live c.catch_up.new.members.lost First
      (round_at c.name_lost.new.members.newest c.name_lost.new.members.lost (g.B.Bank.given c.args.bank.now).start (g.B.Bank.tape c.name_lost.new.bank))
  named_then told =
      let tape3 = g.B.Bank.tape c.write_planned.new.bank in
      let tape4 = g.B.Bank.tape c.name_lost.new.bank in
      let m3 = c.write_planned.new.members in
      let m4 = c.name_lost.new.members in
      let lost = c.catch_up.new.members.lost in
      subst (λ (m : Members). IsNamedSince m c.args.change.now c.args.before c.args.live lost First (round_at m4.newest m4.lost (g.B.Bank.given c.args.bank.now).start tape4)) members_then
      (subst (λ (b : Given). IsNamedSince m3 c.args.change.now c.args.before c.args.live lost (round_at m3.newest m3.lost b.start tape3) (round_at m4.newest m4.lost b.start tape4)) (given_then g c) (c.name_lost.ensures.rounds told))

  -- of those that are lost at the end
  taken_later : (e : ℕ → ℕ → List Sector) → AreTakenInTurn Planned c.args.change.now c.args.before c.args.live c.write_planned.new.members.lost
      (disk (g.B.Bank.given c.args.bank.now).start (g.B.Bank.tape c.catch_up.new.bank)) e
      → AreTakenInTurn Planned c.args.change.now c.args.before c.args.live c.name_lost.new.members.lost (disk (g.B.Bank.given c.args.bank.now).start (g.B.Bank.tape c.catch_up.new.bank)) e
  taken_later e (inl (within, stage, others)) = inl (λ s is. c.name_lost.ensures.losses.stay s (within s is), stage, others)
  taken_later e (inr (over, within, recoveries, stage, kept)) = inr (over, λ s is. c.name_lost.ensures.losses.stay s (within s is), recoveries, stage, kept)

pub returns-clause-turns : goal.returns-clause-turns
returns-clause-turns g c =
    let m0 = c.args.members.now in
    let begin = (g.B.Bank.given c.args.bank.now).start in
    let m4 = c.name_lost.new.members in
    let Mark = IsInTurns m0 c.args.change.now c.args.before c.args.live m4.lost m4.newest.events (disk begin (g.B.Bank.tape c.args.bank.now)) in
    each_mark-then (each_mark-map Mark (λ told e at. inl (record { stage = rewriting m0.newest (replicate 32 Same) m0.own at.0.touched; still = at.1 }))
    (each_mark-both c.catch_up.ensures.exact.marks c.catch_up.ensures.still))
    (each_mark-then
    (each_mark-map Mark (λ told e at. inr (inl (Mid g c, caught_mid g c told, taken_later g c e at))) (turns_then g c))
    (each_mark-map Mark (λ told e at. inr (inr (Mid g c, caught_mid g c told, First g c, past_turns g c told, at))) (naming_then g c)))

pub returns-clause-turned : goal.returns-clause-turned
returns-clause-turned g c = λ told. record { mid = Mid g c; caught = caught_mid g c told; first = First g c; past = past_turns g c told; named = (named_then g c told).0; again = λ some s is none. (named_then g c told).1 (λ same. absurd (let both = sym is ∙ ap (λ (l : ℕ). has_slot l s) same ∙ none in cc)) some }

-- ---- the event count

-- it rose by one, and then with each round that named slots
module _ (g : Over) (c : After-name_lost g) where
  planned_events : g.B.Bank.tells → c.write_planned.new.members.newest.events ≤ c.args.members.now.newest.events + 1
  planned_events told =
      let past = past_turns g c told in
      let over = past.recoveries.newest in
      let same : past.over.newest.events ≡ (Planned g c).newest.events = ⊎_elim (λ kept. ap (λ (n : Sb). n.events) kept.1) (λ named. ap (λ (n : Sb). n.events) named) over in
      omega (arith, ap (λ (n : Sb). n.events) past.newest, same)

  none_before : (s : ℕ) → has_slot c.name_lost.new.members.lost s ≡ false → has_slot c.write_planned.new.members.lost s ≡ false
  none_before s none = stays_left c.write_planned.new.members.lost c.name_lost.new.members.lost s (c.name_lost.ensures.losses.stay s) none

pub returns-clause-rise : goal.returns-clause-rise
returns-clause-rise g c = λ told grew.
    let first = c.catch_up.ensures.update.marks.longer told in
    let then = c.write_planned.ensures.update.marks.longer told in
    let last = c.name_lost.ensures.update.marks.longer told in
    let rise = c.name_lost.ensures.rise told in
    let events = planned_events g c told in
    ⊎_elim
    (λ same. ⊎_elim
    (λ some. let two = c.write_planned.ensures.grows told (some.0, some.1, none_before g c some.0 some.2) in omega (arith, first, two, last, same, events))
    (λ longer. omega (arith, longer, same, events))
    grew)
    (λ some. let two = c.write_planned.ensures.grows told some in omega (arith, first, two, rise.0, events))
    rise.1
