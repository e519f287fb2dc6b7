use Rattle.std.proofs.Common.{◌≡◌, ℕ, List, Option, ◌&&◌, not, length, sym, ◌∙◌, ap, subst, arith}
use Rattle.std.specs.Prelude.{IfSome}
use Rattle.sb_specs.specs.raid_types_Search.{tabulate}
use Rattle.sb_specs.specs.raid_types_Shapes.{has_slot}
use Rattle.bank.proofs.raid_types_Tabulated.{length-tabulate}
use Rattle.sb_specs.specs.sb_codec_the_Sb.{Sb}
use Rattle.bank.specs.Given.{Given}
use Rattle.bank.specs.Tape.{EachMark, disk}
use Rattle.sb_specs.specs.declared.members.Members.{Members}
use Rattle.sb_specs.specs.Reading.{role_count}
use Rattle.sb_specs.specs.Update.{own_in, is_live}
use Rattle.sb_specs.specs.Writing.{IsMember, AreMembers}
use Rattle.sb_specs.specs.Updating.{ArePlanned, AreNamed, IsSomeLeft, RisesByOperations}
use Rattle.sb_specs.specs.Plans.{next_newest}
use Rattle.sb_specs.specs.Stages.{AreLeft, AreFirstKept, IsInUpdate, IsStaged}
use Rattle.sb_specs.specs.Rounds.{round_at, IsInRounds, ArePast}
use Rattle.sb_specs.specs.Losing.{IsInTurns, ArePastTurns}
use Rattle.sb_specs.specs.Outcome.{with_added, live_set, AreStored, is_left, planned_state, planned_roles, planned_spares}
use Rattle.sb_update.proofs.Passes.{slot_below}
use Rattle.sb_specs.proofs.Taken.{taken_roles, taken_spares, taken_newest, taken_members, without_others, left_live, stored_as}
use Rattle.sb_specs.proofs.LiveAfter.{live_after}
use Rattle.sb_update.proofs.HeldSlots.{held}
use Rattle.sb_update.proofs.RoleCounts.{same_count}
use Rattle.sb_update.proofs.recording.update.Given.{Over}
use Rattle.sb_update.proofs.recording.update.Goals.{After-without}
use Rattle.sb_update.proofs.recording.update.Goals as goal

-- what each call left of the members
module _ (g : Over) (c : After-without g) where
  written_own : c.write_update.new.members.own ≡ (with_added c.args.members.now c.args.change.now.added).own
  written_own = ap (λ (m : Members). m.own) c.write_update.ensures.members ∙ ap (λ (m : Members). m.own) c.take_added.ensures.members

  same_newest : c.keep_spares.new.members.newest ≡ c.write_update.new.members.newest
  same_newest = ap (λ (m : Members). m.newest) c.keep_spares.ensures ∙ ap (λ (m : Members). m.newest) c.keep_roles.ensures

  same_lost : c.keep_spares.new.members.lost ≡ c.write_update.new.members.lost
  same_lost = ap (λ (m : Members). m.lost) c.keep_spares.ensures ∙ ap (λ (m : Members). m.lost) c.keep_roles.ensures

  same_own : c.keep_spares.new.members.own ≡ c.keep_own.new.own
  same_own = ap (λ (m : Members). m.own) c.keep_spares.ensures ∙ ap (λ (m : Members). m.own) c.keep_roles.ensures

  left_is : (s : ℕ) → has_slot c.without-left.result s ≡ is_left (live_set c.args.members.now c.args.change.now) c.keep_spares.new.members.lost s
  left_is s =
      without_others c.without-left.result c.live_slots-live.result c.write_update.new.members.lost (omega arith) (omega arith) c.without-left.ensures s
      ∙ (λ j. is_left (c.live_slots-live.ensures j) (sym same_lost j) s)

  same_roles : c.keep_spares.new.members.roles ≡ planned_roles c.args.members.now c.args.change.now c.keep_spares.new.members.lost
  same_roles =
      let former = ap (λ (m : Members). m.roles) c.write_update.ensures.members ∙ ap (λ (m : Members). m.roles) c.take_added.ensures.members
      ∙ taken_roles c.args.members.now c.args.change.now.added in
      ap (λ (m : Members). m.roles) c.keep_spares.ensures ∙ ap (λ (m : Members). m.roles) c.keep_roles.ensures
      ∙ (λ j. tabulate (same_count c.args.change.now.shared c.take_added.new.members.newest c.write_update.new.members.newest c.write_update.ensures.newest j) (planned_state (former j) c.args.change.now.gives (sym same_lost j)))

  same_spares : c.keep_roles.new.members.spares ≡ c.args.members.now.spares
  same_spares =
      ap (λ (m : Members). m.spares) c.keep_roles.ensures ∙ ap (λ (m : Members). m.spares) c.write_update.ensures.members
      ∙ ap (λ (m : Members). m.spares) c.take_added.ensures.members ∙ taken_spares c.args.members.now c.args.change.now.added

  -- nothing was lost in the writing, and the slots that are left are those of before
  none_lost : c.keep_spares.new.members.lost ≡ (with_added c.args.members.now c.args.change.now.added).lost → c.write_update.new.members.lost ≡ c.take_added.new.members.lost
  none_lost same = sym (same_lost) ∙ same ∙ sym (ap (λ (m : Members). m.lost) c.take_added.ensures.members)

  left_of : (left : ℕ) → AreLeft (live_set c.args.members.now c.args.change.now) (with_added c.args.members.now c.args.change.now.added).lost left
      → AreLeft c.live_slots-live.result c.take_added.new.members.lost left
  left_of left are =
      subst (λ (live : ℕ). AreLeft live c.take_added.new.members.lost left) (sym c.live_slots-live.ensures)
      (subst (λ (m : Members). AreLeft (live_set c.args.members.now c.args.change.now) m.lost left) (sym c.take_added.ensures.members) are)

  -- no slot that gets a recovery offset was lost in the writing
  first_kept : AreFirstKept c.args.change.now.gives (with_added c.args.members.now c.args.change.now.added).lost c.keep_spares.new.members.lost
      → AreFirstKept c.args.change.now.gives c.take_added.new.members.lost c.write_update.new.members.lost
  first_kept kept =
      subst (λ (l : ℕ). AreFirstKept c.args.change.now.gives c.take_added.new.members.lost l) same_lost
      (subst (λ (m : Members). AreFirstKept c.args.change.now.gives m.lost c.keep_spares.new.members.lost) (sym c.take_added.ensures.members) kept)

pub write_update-requires-clause-members : goal.write_update-requires-clause-members
write_update-requires-clause-members g c =
    let m = c.args.members.now in
    let change = c.args.change.now in
    let given = g.B.Bank.given c.args.bank.now in
    let all = taken_members given m change c.requires.live c.requires.added
    (subst (λ (n : Members). IfSome change.added (λ a. length n.own ≡ 32)) c.take_added.ensures.members c.take_added.ensures.count) in
    subst (λ (live : ℕ). AreMembers given c.take_added.new.members.own live) (sym c.live_slots-live.ensures)
    (subst (λ (own : List (Option Sb)). AreMembers given own (live_set m change)) (sym (ap (λ (n : Members). n.own) c.take_added.ensures.members)) all)

pub keep_own-requires : goal.keep_own-requires
keep_own-requires g c = λ slot is.
    let m = c.args.members.now in
    let change = c.args.change.now in
    let all = taken_members (g.B.Bank.given c.args.bank.now) m change c.requires.live c.requires.added
    (subst (λ (n : Members). IfSome change.added (λ a. length n.own ≡ 32)) c.take_added.ensures.members c.take_added.ensures.count) in
    let below = slot_below c.without-left.result slot (omega arith) is in
    let live = left_live (has_slot c.live_slots-live.result slot) (not (has_slot c.write_update.new.members.lost slot)) (sym (c.without-left.ensures slot below) ∙ is) in
    let member = all slot (sym (ap (λ (n : ℕ). has_slot n slot) c.live_slots-live.ensures) ∙ live) in
    let own = ap (λ (n : Members). n.own) c.write_update.ensures.members ∙ ap (λ (n : Members). n.own) c.take_added.ensures.members in
    (member.sb, ap (λ (o : List (Option Sb)). own_in o slot) own ∙ member.own, member.writable)

pub returns-clause-own : goal.returns-clause-own
returns-clause-own g c =
    let m = c.args.members.now in
    let change = c.args.change.now in
    let gives = change.gives in
    let kept = has_slot c.without-left.result in
    let old : List (Option Sb) = (with_added m change.added).own in
    stored_as kept (is_left (live_set m change) c.keep_spares.new.members.lost) (left_is g c)
    (subst (λ (n : Sb). AreStored n gives kept old c.keep_spares.new.members.own) (sym (same_newest g c))
    (subst (λ (o : List (Option Sb)). AreStored c.write_update.new.members.newest gives kept old o) (sym (same_own g c))
    (subst (λ (o : List (Option Sb)). AreStored c.write_update.new.members.newest gives kept o c.keep_own.new.own) (written_own g c) c.keep_own.ensures.own)))

pub returns-clause-planned : goal.returns-clause-planned
returns-clause-planned g c = λ told.
    let m = c.args.members.now in
    let change = c.args.change.now in
    let e = disk (g.B.Bank.given c.args.bank.now).start (g.B.Bank.tape c.write_update.new.bank) in
    let newest = c.write_update.new.members.newest in
    let lost = c.write_update.new.members.lost in
    let at = c.write_update.ensures.planned told in
    subst (λ (n : Sb). ArePlanned n change.gives (with_added m change.added).own (live_set m change) c.keep_spares.new.members.lost e) (sym (same_newest g c))
    (subst (λ (l : ℕ). ArePlanned newest change.gives (with_added m change.added).own (live_set m change) l e) (sym (same_lost g c))
    (subst (λ (live : ℕ). ArePlanned newest change.gives (with_added m change.added).own live lost e) c.live_slots-live.ensures
    (subst (λ (n : Members). ArePlanned newest change.gives n.own c.live_slots-live.result lost (disk (g.B.Bank.given c.args.bank.now).start (g.B.Bank.tape c.write_update.new.bank))) c.take_added.ensures.members at)))

pub returns-clause-spares : goal.returns-clause-spares
returns-clause-spares g c =
    let m = c.args.members.now in
    let change = c.args.change.now in
    let lost = ap (λ (n : Members). n.lost) c.keep_spares.ensures in
    ap (λ (n : Members). n.spares) c.keep_spares.ensures
    ∙ ap (λ (l : ℕ). planned_spares c.keep_roles.new.members change l) (sym lost)
    ∙ ap (λ (l : List ℕ). planned_spares (record m { spares = l }) change c.keep_spares.new.members.lost) (same_spares g c)

pub returns-clause-result : goal.returns-clause-result
returns-clause-result g c = λ s.
    without_others c.without.result c.keep_spares.new.members.lost c.take_added.new.members.lost (omega arith) (omega arith) c.without.ensures s
    ∙ ap (λ (n : Members). has_slot c.keep_spares.new.members.lost s && not (has_slot n.lost s)) c.take_added.ensures.members

pub keep_roles-requires-clause-count : goal.keep_roles-requires-clause-count
keep_roles-requires-clause-count g c =
    let same = same_count c.args.change.now.shared c.take_added.new.members.newest c.write_update.new.members.newest c.write_update.ensures.newest in
    omega (arith, same, c.requires.count)

pub returns-clause-roles : goal.returns-clause-roles
returns-clause-roles g c = same_roles g c

pub returns-clause-few : goal.returns-clause-few
returns-clause-few g c =
    let count = role_count c.args.change.now.shared in
    let long = length-tabulate count (planned_state c.args.members.now.roles c.args.change.now.gives c.keep_spares.new.members.lost) in
    omega (arith, ap length (same_roles g c), long, c.requires.count)

pub returns-clause-live : goal.returns-clause-live
returns-clause-live g c = λ slot is.
    let m = c.args.members.now in
    let change = c.args.change.now in
    let given = g.B.Bank.given c.args.bank.now in
    let new = c.keep_spares.new.members in
    let all = taken_members given m change c.requires.live c.requires.added
    (subst (λ (n : Members). IfSome change.added (λ a. length n.own ≡ 32)) c.take_added.ensures.members c.take_added.ensures.count) in
    subst (λ (b : Given). IsMember b (own_in new.own slot) slot) (sym c.write_update.ensures.given)
    (live_after m change new.lost c.requires.alone given new.newest (with_added m change.added).own new.own all (returns-clause-own g c) slot
    ((λ j. is_live (sym (same_roles g c) j) (sym (returns-clause-spares g c) j) slot) ∙ is))

pub returns-clause-held : goal.returns-clause-held
returns-clause-held g c = λ told.
    let m = c.args.members.now in
    let change = c.args.change.now in
    let tape = g.B.Bank.tape c.write_update.new.bank in
    let new = c.keep_spares.new.members in
    let e = disk (g.B.Bank.given c.args.bank.now).start tape in
    held new.newest change.gives (with_added m change.added).own new.own (live_set m change) new.lost e (returns-clause-own g c) (returns-clause-planned g c told)

pub returns-clause-named : goal.returns-clause-named
returns-clause-named g c = λ some.
    let m = c.args.members.now in
    let change = c.args.change.now in
    let lost = c.write_update.new.members.lost in
    let newest = c.write_update.new.members.newest in
    let old : Members = with_added m change.added in
    let left = subst (λ (live : ℕ). IsSomeLeft live lost) (sym c.live_slots-live.ensures) (subst (λ (l : ℕ). IsSomeLeft (live_set m change) l) (same_lost g c) some) in
    subst (λ (n : Sb). AreNamed old change old.lost c.keep_spares.new.members.lost n) (sym (same_newest g c))
    (subst (λ (l : ℕ). AreNamed old change old.lost l newest) (sym (same_lost g c))
    (subst (λ (n : Members). AreNamed n change n.lost lost newest) c.take_added.ensures.members (c.write_update.ensures.named left)))

pub returns-clause-plan : goal.returns-clause-plan
returns-clause-plan g c = λ same.
    same_newest g c ∙ c.write_update.ensures.plan (none_lost g c same)
    ∙ ap (λ (m : Members). next_newest m c.args.change.now m.lost m.lost) c.take_added.ensures.members

pub returns-clause-stages : goal.returns-clause-stages
returns-clause-stages g c = λ left are same.
    let gives = c.args.change.now.gives in
    let start = (g.B.Bank.given c.args.bank.now).start in
    let tape0 = g.B.Bank.tape c.args.bank.now in
    let tape1 = g.B.Bank.tape c.write_update.new.bank in
    let old : Members = with_added c.args.members.now c.args.change.now.added in
    subst (λ (n : Sb). EachMark g.B.Bank.tells start tape0 tape1 (IsInUpdate old.newest n gives old.own left (disk start tape0))) (sym (same_newest g c))
    (subst (λ (m : Members). EachMark g.B.Bank.tells start tape0 tape1 (IsInUpdate m.newest c.write_update.new.members.newest gives m.own left (disk start tape0))) c.take_added.ensures.members
    (c.write_update.ensures.stages left (left_of g c left are) (none_lost g c same)))

pub returns-clause-whole : goal.returns-clause-whole
returns-clause-whole g c = λ left are same told.
    let gives = c.args.change.now.gives in
    let start = (g.B.Bank.given c.args.bank.now).start in
    let d = disk start (g.B.Bank.tape c.args.bank.now) in
    let e = disk start (g.B.Bank.tape c.write_update.new.bank) in
    let old : Members = with_added c.args.members.now c.args.change.now.added in
    subst (λ (n : Sb). IsStaged old.newest n gives old.own left d e) (sym (same_newest g c))
    (subst (λ (m : Members). IsStaged m.newest c.write_update.new.members.newest gives m.own left d e) c.take_added.ensures.members
    (c.write_update.ensures.whole left (left_of g c left are) (none_lost g c same) told))

pub returns-clause-rounds : goal.returns-clause-rounds
returns-clause-rounds g c = λ kept.
    let m = c.args.members.now in
    let change = c.args.change.now in
    let start = (g.B.Bank.given c.args.bank.now).start in
    let tape0 = g.B.Bank.tape c.args.bank.now in
    let tape1 = g.B.Bank.tape c.write_update.new.bank in
    let d = disk start tape0 in
    let w = c.write_update.new.members in
    let taken = c.take_added.new.members in
    let old : Members = with_added m change.added in
    subst (λ (n : Sb). EachMark g.B.Bank.tells start tape0 tape1 (IsInRounds old change old.lost (live_set m change) c.keep_spares.new.members.lost n.events d)) (sym (same_newest g c))
    (subst (λ (l : ℕ). EachMark g.B.Bank.tells start tape0 tape1 (IsInRounds old change old.lost (live_set m change) l w.newest.events d)) (sym (same_lost g c))
    (subst (λ (n : Members). EachMark g.B.Bank.tells start tape0 tape1 (IsInRounds n change n.lost (live_set m change) w.lost w.newest.events d)) c.take_added.ensures.members
    (subst (λ (live : ℕ). EachMark g.B.Bank.tells start tape0 tape1 (IsInRounds taken change taken.lost live w.lost w.newest.events d)) c.live_slots-live.ensures
    (c.write_update.ensures.rounds (first_kept g c kept)))))

pub returns-clause-past : goal.returns-clause-past
returns-clause-past g c = λ kept told.
    let m = c.args.members.now in
    let change = c.args.change.now in
    let start = (g.B.Bank.given c.args.bank.now).start in
    let d = disk start (g.B.Bank.tape c.args.bank.now) in
    let tape1 = g.B.Bank.tape c.write_update.new.bank in
    let newest = c.write_update.new.members.newest in
    let taken = c.take_added.new.members in
    let old : Members = with_added m change.added in
    subst (λ (n : Sb). ArePast old change old.lost (live_set m change) d (round_at n c.keep_spares.new.members.lost start tape1)) (sym (same_newest g c))
    (subst (λ (l : ℕ). ArePast old change old.lost (live_set m change) d (round_at newest l start tape1)) (sym (same_lost g c))
    (subst (λ (n : Members). ArePast n change n.lost (live_set m change) d (round_at newest c.write_update.new.members.lost start tape1)) c.take_added.ensures.members
    (subst (λ (live : ℕ). ArePast taken change taken.lost live d (round_at newest c.write_update.new.members.lost start tape1)) c.live_slots-live.ensures
    (c.write_update.ensures.past (first_kept g c kept) told))))

pub returns-clause-turns : goal.returns-clause-turns
returns-clause-turns g c =
    let m = c.args.members.now in
    let change = c.args.change.now in
    let start = (g.B.Bank.given c.args.bank.now).start in
    let tape0 = g.B.Bank.tape c.args.bank.now in
    let tape1 = g.B.Bank.tape c.write_update.new.bank in
    let d = disk start tape0 in
    let w = c.write_update.new.members in
    let taken = c.take_added.new.members in
    let old : Members = with_added m change.added in
    subst (λ (n : Sb). EachMark g.B.Bank.tells start tape0 tape1 (IsInTurns old change old.lost (live_set m change) c.keep_spares.new.members.lost n.events d)) (sym (same_newest g c))
    (subst (λ (l : ℕ). EachMark g.B.Bank.tells start tape0 tape1 (IsInTurns old change old.lost (live_set m change) l w.newest.events d)) (sym (same_lost g c))
    (subst (λ (n : Members). EachMark g.B.Bank.tells start tape0 tape1 (IsInTurns n change n.lost (live_set m change) w.lost w.newest.events d)) c.take_added.ensures.members
    (subst (λ (live : ℕ). EachMark g.B.Bank.tells start tape0 tape1 (IsInTurns taken change taken.lost live w.lost w.newest.events d)) c.live_slots-live.ensures
    c.write_update.ensures.turns)))

pub returns-clause-turned : goal.returns-clause-turned
returns-clause-turned g c = λ told.
    let m = c.args.members.now in
    let change = c.args.change.now in
    let start = (g.B.Bank.given c.args.bank.now).start in
    let d = disk start (g.B.Bank.tape c.args.bank.now) in
    let tape1 = g.B.Bank.tape c.write_update.new.bank in
    let newest = c.write_update.new.members.newest in
    let taken = c.take_added.new.members in
    let old : Members = with_added m change.added in
    subst (λ (n : Sb). ArePastTurns old change old.lost (live_set m change) d (round_at n c.keep_spares.new.members.lost start tape1)) (sym (same_newest g c))
    (subst (λ (l : ℕ). ArePastTurns old change old.lost (live_set m change) d (round_at newest l start tape1)) (sym (same_lost g c))
    (subst (λ (n : Members). ArePastTurns n change n.lost (live_set m change) d (round_at newest c.write_update.new.members.lost start tape1)) c.take_added.ensures.members
    (subst (λ (live : ℕ). ArePastTurns taken change taken.lost live d (round_at newest c.write_update.new.members.lost start tape1)) c.live_slots-live.ensures
    (c.write_update.ensures.turned told))))

pub returns-clause-rise : goal.returns-clause-rise
returns-clause-rise g c =
    let m = c.args.members.now in
    let change = c.args.change.now in
    let tape0 = g.B.Bank.tape c.args.bank.now in
    let tape1 = g.B.Bank.tape c.write_update.new.bank in
    let w = c.write_update.new.members in
    subst (λ (n : Sb). RisesByOperations g.B.Bank.tells (live_set m change) c.keep_spares.new.members.lost m.newest.events n.events tape0 tape1) (sym (same_newest g c))
    (subst (λ (l : ℕ). RisesByOperations g.B.Bank.tells (live_set m change) l m.newest.events w.newest.events tape0 tape1) (sym (same_lost g c))
    (subst (λ (n : Sb). RisesByOperations g.B.Bank.tells (live_set m change) w.lost n.events w.newest.events tape0 tape1) (ap (λ (n : Members). n.newest) c.take_added.ensures.members ∙ taken_newest m change.added)
    (subst (λ (live : ℕ). RisesByOperations g.B.Bank.tells live w.lost c.take_added.new.members.newest.events w.newest.events tape0 tape1) c.live_slots-live.ensures
    c.write_update.ensures.rise)))
