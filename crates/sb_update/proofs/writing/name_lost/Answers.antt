use Rattle.std.proofs.Common.{rules, length, ◌<◌, ◌≤◌, ◌+◌, ◌≡◌, ◌≢◌, inl, inr, ℕ, List, Option, refl, sym, ◌∙◌, ap, subst, arith}
use Rattle.sb_specs.specs.sb_codec_the_Sb.{Sb}
use Rattle.bank.specs.Given.{Given}
use Rattle.bank.specs.Tape.{disk}
use Rattle.sb_specs.specs.declared.members.Members.{Members}
use Rattle.sb_specs.specs.Writing.{AreMembers}
use Rattle.sb_specs.specs.Updating.{IsUpdate, IsRecorded, ArePlanned, AreNamed, IsSomeLeft}
use Rattle.sb_specs.proofs.Updates.{stays_left, update-none, update-then, update-later, later-then, losses-then}
use Rattle.sb_update.proofs.Naming.{none_left, some_left, left_less}
use Rattle.sb_update.proofs.writing.name_lost.Goals as goal
use Rattle.sb_specs.specs.Writing.{plan_of}
use Rattle.sb_specs.specs.Rounds.{round_at, naming}
use Rattle.sb_update.proofs.Namings.{namings-none, naming-none, naming-then, named-then, named-some}
use Rattle.sb_update.proofs.writing.name_lost.Given.{Over}
use Rattle.sb_update.proofs.writing.name_lost.Goals.{After-write_again}

pub loop-members-init : goal.loop-members-init
loop-members-init g c = record {
  given = refl;
  members = refl;
  newest = record { events = omega arith; same = refl };
  update = update-none _ _ _ _ _;
  losses = record { stay = λ s is. is; live = λ s is none. absurd (let both = sym is ∙ none in cc); failed = λ s is none. absurd (let both = sym is ∙ none in cc) };
  counts = λ s. omega arith;
  planned = c.requires.planned;
  named = c.requires.named;
  small = omega arith;
  known = c.requires.known;
  since = c.requires.since;
  kept = λ same. (refl, refl);
  idle = λ same. refl;
  rounds = λ told. (
    (0, namings-none c.args.members.now c.args.change.now c.args.before c.args.live (round_at c.args.members.now.newest c.args.members.now.lost (g.B.Bank.given c.args.bank.now).start (g.B.Bank.tape c.args.bank.now))),
    λ none. (refl, refl),
  );
  naming = naming-none c.args.members.now c.args.change.now c.args.before c.args.live g.B.Bank.tells (g.B.Bank.given c.args.bank.now).start (g.B.Bank.tape c.args.bank.now)
      (round_at c.args.members.now.newest c.args.members.now.lost (g.B.Bank.given c.args.bank.now).start (g.B.Bank.tape c.args.bank.now)) refl;
  rise = λ told. omega arith;
  left_rise = λ told some. omega arith;
  begun = inl refl;
}

pub write_again-requires-clause-members : goal.write_again-requires-clause-members
write_again-requires-clause-members g c =
    let v = c.loop-members.invariant in
    subst (λ (b : Given). AreMembers b c.loop-members.members.own c.args.live) (sym v.given) (subst (λ (o : List _). AreMembers (g.B.Bank.given c.args.bank.now) o c.args.live) (sym (ap (λ (m : Members). m.own) v.members)) c.requires.members)

pub write_again-requires-clause-roles : goal.write_again-requires-clause-roles
write_again-requires-clause-roles g c = let same = ap (λ (m : Members). m.roles) c.loop-members.invariant.members in subst (λ (r : List _). length r ≤ 16) (sym same) c.requires.roles

pub loop-members-smaller : goal.loop-members-smaller
loop-members-smaller g c =
    let v = c.loop-members.invariant in
    left_less c.args.live c.loop-members.named c.loop-members.members.lost (omega arith) v.small (search rules) v.known v.since c.loop-members-test.true

-- what writing again did, by what the loop began with
module _ (g : Over) (c : After-write_again g) where
  same_own : c.loop-members.members.own ≡ c.args.members.now.own
  same_own = ap (λ (m : Members). m.own) c.loop-members.invariant.members

  exact : IsUpdate g.B.Bank.tells c.args.live c.loop-members.members.lost c.write_again.new.members.lost (plan_of c.write_again.new.members.newest c.args.change.now.gives c.args.members.now.own)
      (g.B.Bank.given c.args.bank.now).start (g.B.Bank.tape c.loop-members.bank) (g.B.Bank.tape c.write_again.new.bank)
  exact =
      subst (λ (o : List (Option Sb)). IsUpdate g.B.Bank.tells c.args.live c.loop-members.members.lost c.write_again.new.members.lost (plan_of c.write_again.new.members.newest c.args.change.now.gives o)
      (g.B.Bank.given c.args.bank.now).start (g.B.Bank.tape c.loop-members.bank) (g.B.Bank.tape c.write_again.new.bank)) same_own
      (subst (λ (b : Given). IsUpdate g.B.Bank.tells c.args.live c.loop-members.members.lost c.write_again.new.members.lost (plan_of c.write_again.new.members.newest c.args.change.now.gives c.loop-members.members.own)
      b.start (g.B.Bank.tape c.loop-members.bank) (g.B.Bank.tape c.write_again.new.bank)) c.loop-members.invariant.given c.write_again.ensures.exact)

  planned_again : g.B.Bank.tells → ArePlanned c.write_again.new.members.newest c.args.change.now.gives c.args.members.now.own c.args.live c.write_again.new.members.lost
      (disk (g.B.Bank.given c.args.bank.now).start (g.B.Bank.tape c.write_again.new.bank))
  planned_again told =
      subst (λ (o : List (Option Sb)). ArePlanned c.write_again.new.members.newest c.args.change.now.gives o c.args.live c.write_again.new.members.lost
      (disk (g.B.Bank.given c.args.bank.now).start (g.B.Bank.tape c.write_again.new.bank))) same_own
      (subst (λ (b : Given). ArePlanned c.write_again.new.members.newest c.args.change.now.gives c.loop-members.members.own c.args.live c.write_again.new.members.lost
      (disk b.start (g.B.Bank.tape c.write_again.new.bank))) c.loop-members.invariant.given (c.write_again.ensures.planned told))

  next : c.write_again.new.members.newest ≡ naming c.args.members.now c.args.change.now c.args.before c.loop-members.members.lost c.loop-members.members.newest
  next = c.write_again.ensures.next
      ∙ ap (λ (m : Members). naming m c.args.change.now c.args.before c.loop-members.members.lost c.loop-members.members.newest) c.loop-members.invariant.members

  -- a live slot is left at its start
  some_before : IsSomeLeft c.args.live c.loop-members.members.lost
  some_before = some_left c.args.live c.loop-members.members.lost c.without.result (omega arith) c.without.ensures c.if-without-ne0.true

  one_more : c.write_again.new.members.newest.events ≤ c.loop-members.members.newest.events + 1
  one_more = omega (arith, ap (λ (n : Sb). n.events) next)

pub loop-members-preserved : goal.loop-members-preserved
loop-members-preserved g c =
    let v = c.loop-members.invariant in
    let m0 = c.args.members.now in
    let m1 = c.loop-members.members in
    let m2 = c.write_again.new.members in
    let gives = c.args.change.now.gives in
    let start = (g.B.Bank.given c.args.bank.now).start in
    let tape0 = g.B.Bank.tape c.args.bank.now in
    let tape1 = g.B.Bank.tape c.loop-members.bank in
    let tape2 = g.B.Bank.tape c.write_again.new.bank in
    let own = ap (λ (m : Members). m.own) v.members in
    record {
      given = c.write_again.ensures.given ∙ v.given;
      members = c.write_again.ensures.members ∙ ap (λ (m : Members). record m { newest = m2.newest; lost = m2.lost }) v.members;
      newest = later-then m0.newest m1.newest m2.newest v.newest c.write_again.ensures.newest;
      update = update-then c.args.live m0.lost m1.lost m2.lost (IsRecorded m0.newest gives m0.own) v.losses.stay c.write_again.ensures.losses.stay start tape0 tape1 tape2 v.update
          (update-later m1.newest m0.newest gives m1.own m0.own c.args.live m1.lost m1.lost m2.lost start tape1 tape2 v.newest own refl
          (subst (λ (b : Given). IsUpdate g.B.Bank.tells c.args.live m1.lost m2.lost (IsRecorded m1.newest gives m1.own) b.start tape1 tape2) v.given c.write_again.ensures.update));
      losses = losses-then v.counts c.write_again.ensures.counts v.losses c.write_again.ensures.losses;
      counts = λ s. omega (arith, v.counts s, c.write_again.ensures.counts s);
      planned = λ same. λ told.
          subst (λ (o : List _). ArePlanned m2.newest gives o c.args.live m2.lost (disk start tape2)) own
          (subst (λ (b : Given). ArePlanned m2.newest gives m1.own c.args.live m2.lost (disk b.start tape2)) v.given (c.write_again.ensures.planned told));
      named = λ same.
          subst (λ (l : ℕ). AreNamed m0 c.args.change.now c.args.before l m2.newest) (sym same)
          (subst (λ (m : Members). AreNamed m c.args.change.now c.args.before m1.lost m2.newest) v.members c.write_again.ensures.named);
      small = (search rules);
      known = c.write_again.ensures.losses.stay;
      since = c.write_again.ensures.losses.live;
      kept = λ same.
          let k = v.kept same in
          absurd (c.loop-members-test.true (ap (λ (m : Members). m.lost) k.0 ∙ same ∙ sym k.1));
      idle = λ same.
          let k = v.kept same in
          absurd (c.loop-members-test.true (ap (λ (m : Members). m.lost) k.0 ∙ same ∙ sym k.1));
      rounds = λ told. (
        named-then m0 c.args.change.now c.args.before c.args.live start tape1 tape2
            (round_at m0.newest m0.lost start tape0) (round_at m1.newest m1.lost start tape1) (round_at m2.newest m2.lost start tape2) refl refl told (v.rounds told).0
            (next g c) c.write_again.ensures.losses.stay (exact g c) (planned_again g c told),
        λ none. absurd (let some = named-some m0 c.args.change.now c.args.before c.args.live start tape1 tape2
            (round_at m0.newest m0.lost start tape0) (round_at m1.newest m1.lost start tape1) (round_at m2.newest m2.lost start tape2) refl refl told (v.rounds told).0
            (next g c) c.write_again.ensures.losses.stay (exact g c) (planned_again g c told) in omega (arith, some, none)),
      );
      naming = naming-then m0 c.args.change.now c.args.before c.args.live start tape0 tape1 tape2
          (round_at m0.newest m0.lost start tape0) (round_at m1.newest m1.lost start tape1) (round_at m2.newest m2.lost start tape2) refl (λ told. (v.rounds told).0) v.naming
          (next g c) c.write_again.ensures.losses.stay c.write_again.ensures.newest.events (exact g c);
      rise = λ told. let so_far = v.left_rise told (some_before g c) in let longer = c.write_again.ensures.update.marks.longer told in omega (arith, so_far, longer, one_more g c);
      left_rise = λ told some. let so_far = v.left_rise told (some_before g c) in let grew = c.write_again.ensures.grows told some in omega (arith, so_far, grew, one_more g c);
      begun = inr (let some = some_before g c in (some.0, some.1, stays_left m0.lost m1.lost some.0 (v.losses.stay some.0) some.2));
    }

pub returns-else-without-ne0-clause-planned : goal.returns-else-without-ne0-clause-planned
returns-else-without-ne0-clause-planned g c = λ told s is left.
    absurd (none_left c.args.live c.loop-members.members.lost c.without.result (omega arith) c.without.ensures c.if-without-ne0.false s is left)

pub returns-else-without-ne0-clause-named : goal.returns-else-without-ne0-clause-named
returns-else-without-ne0-clause-named g c = λ some.
    absurd (none_left c.args.live c.loop-members.members.lost c.without.result (omega arith) c.without.ensures c.if-without-ne0.false some.0 some.1 some.2)

pub returns-else-without-ne0-clause-rounds : goal.returns-else-without-ne0-clause-rounds
returns-else-without-ne0-clause-rounds g c = λ told. (
  (c.loop-members.invariant.rounds told).0,
  λ differ some. absurd (none_left c.args.live c.loop-members.members.lost c.without.result (omega arith) c.without.ensures c.if-without-ne0.false some.0 some.1 some.2),
)

some_round : (n : ℕ) → n ≢ 0 → 0 < n
some_round n some = omega (arith, some)

pub returns-after-loop-members-clause-rounds : goal.returns-after-loop-members-clause-rounds
returns-after-loop-members-clause-rounds g c = λ told.
    let r = c.loop-members.invariant.rounds told in
    (r.0, λ differ some. some_round r.0.0 (λ none. let k = r.1 none in differ (sym k.0 ∙ c.loop-members-test.false ∙ k.1)))
