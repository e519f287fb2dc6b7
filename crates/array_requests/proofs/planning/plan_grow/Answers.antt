use Rattle.std.proofs.Common.{◌≡◌, ℕ, length, sym, ◌∙◌, subst, Err}
use Rattle.std.specs.Prelude.{⊤}
use Rattle.array_call_specs.specs.raid_types_the_Refusal_TheVariants.{Busy}
use Rattle.array_call_specs.specs.raid_types_the_BusyKind_TheVariants.{Reshape}
use Rattle.array_open.specs.sb_specs_Reading.{list_length}
use Rattle.history_append.specs.history_the_Event_TheVariants.{Planned, Refused}
use Rattle.history_append.specs.history_Flat.{next_number}
use Rattle.array_open.specs.array_grow_Replied.{IsGrowReplied}
use Rattle.array_open.proofs.array_grow_Replied.{grow-went}
use Rattle.array_open.specs.array_specs_Calls.{moving_world}
use Rattle.array_open.specs.array_specs_Parts.{still_left}
use Rattle.array_open.specs.array_grow_Planned.{asked_in, IsGrowJudged}
use Rattle.array_open.specs.array_Calls.{running_left}
use Rattle.array_open.proofs.array_Both.{kept-at-rest, kept-in-reshape}
use Rattle.array_requests.proofs.PlanLaws.{rest-planned, rest-refused, reshape-refused, replied-planned, replied-refused, went-refused}
use Rattle.array_requests.proofs.planning.plan_grow.Goals as goal

-- ---- planned

pub invariant_of-array-in-Ok-made : goal.invariant_of-array-in-Ok-made
invariant_of-array-in-Ok-made g c =
    let still = sym c.is_reshaping.ensures ∙ c.if-is_reshaping.false in
    let was = c.array.invariant.rests still in
    let did = c.in-Ok-made.ensures in
    kept-at-rest g.B.Bank.given g.B.Bank.tape (length c.in-Ok-made.plan.window.items) c.replace_with-made-2.new.dest
    (rest-planned g.B.Bank.given g.B.Bank.tape c.array.inside.array c.replace_with-made-2.new.dest did.1.1.1.1.0 c.args.wish c.in-Ok-made.plan.left (length c.array.inside.window.items) (length c.in-Ok-made.plan.window.items)
    did.1.1.0 did.1.1.1.1.1.1.1.1.0 did.1.1.1.1.1.1.1.1.1.0 did.1.1.1.1.1.1.1.1.1.1.1.0 was (c.check_array-2.ensures.rest did.1.1.1.1.1.1.1.1.1.1.1.1) c.check_array-2.ensures.within)

pub returns-in-Ok-made-clause-answered : goal.returns-in-Ok-made-clause-answered
returns-in-Ok-made-clause-answered g c =
    let did = c.in-Ok-made.ensures in
    let number = subst (λ p. c.args.who.number ≡ next_number c.args.who.caller p.parts.entries) (sym c.array.view_is) c.requires.next in
    rw (← c.array.view_is) (replied-planned _ g.B.Bank.tells g.B.Bank.given g.B.Bank.tape g.B.Bank.faults_of c.array.inside.array c.replace_with-made-2.new.dest c.args.wish c.args.who number did.1.0
    c.in-Ok-made.plan did.1.1.1.1.1.1.1.1.1.1.1.1 did.0 did.1.1.0)

pub returns-in-Ok-made-clause-went : goal.returns-in-Ok-made-clause-went
returns-in-Ok-made-clause-went g c =
    let did = c.in-Ok-made.ensures in
    let old = c.array.inside.array in
    let new = c.replace_with-made-2.new.dest in
    rw (← c.array.view_is) (grow-went g.B.Bank.tells g.B.Bank.given g.B.Bank.tape g.B.Bank.faults_of old new did.1.1.1.1.0
    (moving_world (g.B.Bank.given old.parts.bank) (g.B.Bank.tape old.parts.bank) old) (asked_in (g.B.Bank.given old.parts.bank) old) c.args.wish c.args.who (still_left new.parts.work new.parts.members new.ahead) c.replace_with-made-2.result
    c.replace_with-made-2.ensures.0 c.replace_with-made-2.ensures.1.1.0 c.replace_with-made-2.ensures.1.1.1.1.1.1.1.0)

-- ---- refused

pub invariant_of-array-in-Err-made : goal.invariant_of-array-in-Err-made
invariant_of-array-in-Err-made g c =
    let still = sym c.is_reshaping.ensures ∙ c.if-is_reshaping.false in
    let was = c.array.invariant.rests still in
    let did = c.in-Err-made.ensures in
    kept-at-rest g.B.Bank.given g.B.Bank.tape (length c.array.inside.window.items) c.replace_with-made-2.new.dest
    (rest-refused g.B.Bank.given g.B.Bank.tape c.array.inside.array c.replace_with-made-2.new.dest did.1.1.1.1.0 ⊤ _ (asked_in (g.B.Bank.given c.array.inside.array.parts.bank) c.array.inside.array) _ _ (Planned (still_left c.replace_with-made-2.new.dest.parts.work c.replace_with-made-2.new.dest.parts.members c.replace_with-made-2.new.dest.ahead) c.args.wish) c.in-Err-made.fault did.0 did.1.1.1.1.1.1.1.0 (length c.array.inside.window.items)
    (c.check_array-2.ensures.rest did.1.1.1.1.1.1.1.1.1.1.1.1) c.check_array-2.ensures.within was)

pub returns-in-Err-made-clause-answered : goal.returns-in-Err-made-clause-answered
returns-in-Err-made-clause-answered g c =
    let did = c.in-Err-made.ensures in
    let number = subst (λ p. c.args.who.number ≡ next_number c.args.who.caller p.parts.entries) (sym c.array.view_is) c.requires.next in
    let old = c.array.inside.array in
    let new = c.replace_with-made-2.new.dest in
    let here = sym c.array.view_is in
    let replied = replied-refused ⊤ g.B.Bank.tells g.B.Bank.given g.B.Bank.tape g.B.Bank.faults_of old new c.args.wish c.args.who number did.1.0 ℕ (Planned (still_left new.parts.work new.parts.members new.ahead) c.args.wish) (running_left new) c.in-Err-made.fault did.0 did.1.1.0 in
    subst (λ p. IsGrowReplied {T = ℕ} (list_length p.parts.members.newest) c.args.wish c.args.who p.parts.entries new.parts.entries (running_left new) (Err c.in-Err-made.fault)) (sym here) replied

pub returns-in-Err-made-clause-judged : goal.returns-in-Err-made-clause-judged
returns-in-Err-made-clause-judged g c =
    let did = c.in-Err-made.ensures in
    let here = sym c.array.view_is in
    subst (λ p. IsGrowJudged {T = ℕ} (asked_in (g.B.Bank.given p.parts.bank) p) c.args.wish (Err c.in-Err-made.fault)) (sym here) did.1.1.0

pub returns-in-Err-made-clause-went : goal.returns-in-Err-made-clause-went
returns-in-Err-made-clause-went g c =
    let did = c.in-Err-made.ensures in
    let number = subst (λ p. c.args.who.number ≡ next_number c.args.who.caller p.parts.entries) (sym c.array.view_is) c.requires.next in
    rw (← c.array.view_is) (went-refused ⊤ g.B.Bank.tells g.B.Bank.given g.B.Bank.tape g.B.Bank.faults_of c.array.inside.array c.replace_with-made-2.new.dest c.args.wish c.args.who number did.1.0
    ⊤ (Planned (still_left c.replace_with-made-2.new.dest.parts.work c.replace_with-made-2.new.dest.parts.members c.replace_with-made-2.new.dest.ahead) c.args.wish) 0 c.in-Err-made.fault did.0 did.1.1.0 did.1.1.1.1.0 did.1.1.1.1.1.1.1.0)

-- ---- in a reshape

pub invariant_of-array : goal.invariant_of-array
invariant_of-array g c =
    let reshaping = sym c.is_reshaping.ensures ∙ c.if-is_reshaping.true in
    let was = c.array.invariant.moves reshaping in
    let did = c.in-Err.ensures in
    kept-in-reshape g.B.Bank.given g.B.Bank.tape (length c.array.inside.window.items) c.replace_with-made.new.dest
    (reshape-refused g.B.Bank.given g.B.Bank.tape c.array.inside.array c.replace_with-made.new.dest did.1.1.1.1.1.0 ⊤ _ (asked_in (g.B.Bank.given c.array.inside.array.parts.bank) c.array.inside.array) _ _ (Refused (Busy Reshape)) c.in-Err.fault did.0 did.1.1.1.1.1.1.1.1.0 did.1.1.1.1.1.1.1.1.1 c.check_array.ensures.within was)

pub returns-then-is_reshaping-clause-answered : goal.returns-then-is_reshaping-clause-answered
returns-then-is_reshaping-clause-answered g c =
    let did = c.in-Err.ensures in
    let number = subst (λ p. c.args.who.number ≡ next_number c.args.who.caller p.parts.entries) (sym c.array.view_is) c.requires.next in
    let old = c.array.inside.array in
    let new = c.replace_with-made.new.dest in
    let here = sym c.array.view_is in
    let replied = replied-refused ⊤ g.B.Bank.tells g.B.Bank.given g.B.Bank.tape g.B.Bank.faults_of old new c.args.wish c.args.who number did.1.0 ℕ (Refused (Busy Reshape)) (running_left new) c.in-Err.fault did.0 did.1.1.1.0 in
    subst (λ p. IsGrowReplied {T = ℕ} (list_length p.parts.members.newest) c.args.wish c.args.who p.parts.entries new.parts.entries (running_left new) (Err c.in-Err.fault)) (sym here) replied

pub returns-then-is_reshaping-clause-went : goal.returns-then-is_reshaping-clause-went
returns-then-is_reshaping-clause-went g c =
    let did = c.in-Err.ensures in
    let number = subst (λ p. c.args.who.number ≡ next_number c.args.who.caller p.parts.entries) (sym c.array.view_is) c.requires.next in
    rw (← c.array.view_is) (went-refused ⊤ g.B.Bank.tells g.B.Bank.given g.B.Bank.tape g.B.Bank.faults_of c.array.inside.array c.replace_with-made.new.dest c.args.wish c.args.who number did.1.0
    ⊤ (Refused (Busy Reshape)) 0 c.in-Err.fault did.0 did.1.1.1.0 did.1.1.1.1.1.0 did.1.1.1.1.1.1.1.1.0)

pub returns-in-Ok-made-clause-as_before : goal.returns-in-Ok-made-clause-as_before
returns-in-Ok-made-clause-as_before g c = let did = c.in-Ok-made.ensures in rw (← c.array.view_is) did.1.1.1.1.0

pub returns-in-Ok-made-clause-ended : goal.returns-in-Ok-made-clause-ended
returns-in-Ok-made-clause-ended g c = let did = c.in-Ok-made.ensures in did.1.1.1.1.1.1.0

pub returns-in-Ok-made-clause-planned : goal.returns-in-Ok-made-clause-planned
returns-in-Ok-made-clause-planned g c = let did = c.in-Ok-made.ensures in did.1.1.1.1.1.1.1.1.0

pub returns-in-Err-made-clause-as_before : goal.returns-in-Err-made-clause-as_before
returns-in-Err-made-clause-as_before g c = let did = c.in-Err-made.ensures in rw (← c.array.view_is) did.1.1.1.1.0

pub returns-in-Err-made-clause-ended : goal.returns-in-Err-made-clause-ended
returns-in-Err-made-clause-ended g c = let did = c.in-Err-made.ensures in did.1.1.1.1.1.1.0

pub returns-then-is_reshaping-clause-as_before : goal.returns-then-is_reshaping-clause-as_before
returns-then-is_reshaping-clause-as_before g c = let did = c.in-Err.ensures in rw (← c.array.view_is) did.1.1.1.1.1.0

pub returns-then-is_reshaping-clause-judged : goal.returns-then-is_reshaping-clause-judged
returns-then-is_reshaping-clause-judged g c =
    let did = c.in-Err.ensures in
    let here = sym c.array.view_is in
    subst (λ p. IsGrowJudged {T = ℕ} (asked_in (g.B.Bank.given p.parts.bank) p) c.args.wish (Err c.in-Err.fault)) (sym here) did.1.1.1.0

pub returns-then-is_reshaping-clause-ended : goal.returns-then-is_reshaping-clause-ended
returns-then-is_reshaping-clause-ended g c = let did = c.in-Err.ensures in did.1.1.1.1.1.1.1.0

-- ---- what is asked of the array

pub replace_with-made-requires : goal.replace_with-made-requires
replace_with-made-requires g c = (subst (λ p. c.args.who.number ≡ next_number c.args.who.caller p.parts.entries) (sym c.array.view_is) c.requires.next, (c.requires.caller, sym c.is_reshaping.ensures ∙ c.if-is_reshaping.true))

pub replace_with-made-requires-2 : goal.replace_with-made-requires-2
replace_with-made-requires-2 g c = (subst (λ p. c.args.who.number ≡ next_number c.args.who.caller p.parts.entries) (sym c.array.view_is) c.requires.next, (c.requires.caller, sym c.is_reshaping.ensures ∙ c.if-is_reshaping.false))
