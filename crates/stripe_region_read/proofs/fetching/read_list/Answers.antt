use Rattle.std.proofs.Common.{◌≡◌, ◌≤◌, true, List, length, Option, Some, None, is_some, inl, inr, sym, ◌∙◌, subst, arith, ap}
use Rattle.stripe_io.specs.bank_the_Operation.{Operation}
use Rattle.stripe_io.specs.bank_Given.{Given}
use Rattle.stripe_io.specs.raid_types_the_Refusal.{Refusal}
use Rattle.stripe_io.specs.sb_specs_the_Members.{Members}
use Rattle.stripe_io.specs.stripe_row_Rows.{present}
use Rattle.stripe_io.specs.history_Sound.{OpensFit}
use Rattle.stripe_io.specs.crash_safety_laws_Steady.{IsUncleanTold}
use Rattle.stripe_io.specs.crash_safety_laws_Marking.{AreOthersPresent}
use Rattle.stripe_io.proofs.crash_safety_laws_Risen.{risen-lost, room-then}
use Rattle.stripe_io.proofs.array_members_LackingLaws.{in-second}
use Rattle.stripe_io.proofs.array_members_SafeStretch.{safe-then, safe-lost, over-at, keeps-from}
use Rattle.stripe_io.proofs.array_members_LackingLists.{none-of}
use mathlib.Core.List.{not-mem-nil}
use Rattle.stripe_io.specs.sb_specs_Reading.{is_clean}
use Rattle.stripe_io.specs.sb_safe_updates_Frame.{Keeps}
use Rattle.stripe_io.proofs.sb_safe_updates_FrameLaws.{keeps-read, keeps-then, stands-on}
use Rattle.stripe_region_read.proofs.fetching.read_list.Goals as goal

-- the reads make no operation
still-long : (before after : List Operation) → after ≡ before → length before ≤ length after
still-long before after same = subst (λ (l : List Operation). length before ≤ length l) (sym same) (omega arith)

-- an option that is some isn't none
never : (o : Option Refusal) → is_some o ≡ true → o ≡ None → ⊥
never None is none = absurd (cc)
never (Some refusal) is none = absurd (cc)

pub returns-then-is_some-clause-holds : goal.returns-then-is_some-clause-holds
returns-then-is_some-clause-holds g c = λ none. absurd (never c.read_regions-refusal.result (sym c.is_some.ensures ∙ c.if-is_some.true) none)

pub returns-then-is_some-clause-keeps : goal.returns-then-is_some-clause-keeps
returns-then-is_some-clause-keeps g c =
    let did = c.read_regions-refusal.ensures in
    let read : Keeps g.B.Bank.tells g.B.Bank.given g.B.Bank.tape g.B.Bank.faults_of c.args.bank.now c.read_regions-refusal.new.bank c.args.members.now c.read_regions-refusal.new.members 0 =
    keeps-read did.lost.0 did.lost.1 did.tape did.given did.counts did.moved did.failed in
    read

pub returns-then-is_some-clause-safe : goal.returns-then-is_some-clause-safe
returns-then-is_some-clause-safe g c =
    let m = c.args.members.now in
    let n = c.read_regions-refusal.new.members in
    let given = g.B.Bank.given c.args.bank.now in
    let tape0 = g.B.Bank.tape c.args.bank.now in
    let tape1 = g.B.Bank.tape c.read_regions-refusal.new.bank in
    let did = c.read_regions-refusal.ensures in
    λ tell world told room gone unclean now. safe-lost (OpensFit world) world.scope given told m n did.lost.0 tape0 tape1 did.lost.1 (did.tape tell) now

pub record_missing-spares-requires : goal.record_missing-spares-requires
record_missing-spares-requires g c =
    let did = c.read_regions-refusal.ensures in
    let read : Keeps g.B.Bank.tells g.B.Bank.given g.B.Bank.tape g.B.Bank.faults_of c.args.bank.now c.read_regions-refusal.new.bank c.args.members.now c.read_regions-refusal.new.members 0 =
    keeps-read did.lost.0 did.lost.1 did.tape did.given did.counts did.moved did.failed in
    record { stands = stands-on read c.requires.stands }

pub returns-clause-keeps : goal.returns-clause-keeps
returns-clause-keeps g c =
    let did = c.read_regions-refusal.ensures in
    let read : Keeps g.B.Bank.tells g.B.Bank.given g.B.Bank.tape g.B.Bank.faults_of c.args.bank.now c.read_regions-refusal.new.bank c.args.members.now c.read_regions-refusal.new.members 0 =
    keeps-read did.lost.0 did.lost.1 did.tape did.given did.counts did.moved did.failed in
    keeps-then read c.record_missing-spares.ensures.keeps (in-second c.record_missing-spares.result)

pub returns-clause-others : goal.returns-clause-others
returns-clause-others g c =
    let given = g.B.Bank.given c.args.bank.now in
    let tape1 = g.B.Bank.tape c.read_regions-refusal.new.bank in
    let did = c.read_regions-refusal.ensures in
    let named = c.record_missing-spares.ensures in
    let tape2 = g.B.Bank.tape c.record_missing-spares.new.bank in
    λ told. subst (λ (l : List Operation). AreOthersPresent (present given l) (present given tape2)) (did.tape told)
    (subst (λ (b : Given). AreOthersPresent (present b tape1) (present b tape2)) did.given (named.others told))

pub returns-clause-holds : goal.returns-clause-holds
returns-clause-holds g c =
    let did = c.read_regions-refusal.ensures in
    let named = c.record_missing-spares.ensures in
    λ ok told hidden list stands fills i lt shown.
    did.holds (none-of c.read_regions-refusal.result (sym c.is_some.ensures ∙ c.if-is_some.false)) told hidden list stands (elim fills [ inl whole ↦ inl (named.keeps.moved.whole whole) | inr rows ↦ inr rows ]) i lt shown

pub returns-clause-kept : goal.returns-clause-kept
returns-clause-kept g c =
    let did = c.read_regions-refusal.ensures in
    let named = c.record_missing-spares.ensures in
    λ whole. let mid = named.keeps.moved.whole whole in named.kept mid ∙ did.kept mid

pub returns-clause-tape : goal.returns-clause-tape
returns-clause-tape g c =
    let did = c.read_regions-refusal.ensures in
    let named = c.record_missing-spares.ensures in
    λ whole told. named.tape (named.keeps.moved.whole whole) told ∙ did.tape told

pub returns-clause-safe : goal.returns-clause-safe
returns-clause-safe g c =
    let m = c.args.members.now in
    let n = c.read_regions-refusal.new.members in
    let given = g.B.Bank.given c.args.bank.now in
    let given1 = g.B.Bank.given c.read_regions-refusal.new.bank in
    let tape0 = g.B.Bank.tape c.args.bank.now in
    let tape1 = g.B.Bank.tape c.read_regions-refusal.new.bank in
    let did = c.read_regions-refusal.ensures in
    let p = c.record_missing-spares.new.members in
    let named = c.record_missing-spares.ensures in
    let tape2 = g.B.Bank.tape c.record_missing-spares.new.bank in
    λ tell world told room gone unclean now.
    let read = safe-lost (OpensFit world) world.scope given told m n did.lost.0 tape0 tape1 did.lost.1 (did.tape tell) now in
    safe-then (OpensFit world) world.scope given told n p tape0 tape1 tape2 read
    (keeps-from world given given1 told p tape1 tape2 did.given
    (named.safe tell world told (room-then tape2 tell room (risen-lost m n did.lost.0 tape0 tape1 did.lost.1 (λ t. still-long tape0 tape1 (did.tape t)))) gone
    (subst (λ (x : Members). IsUncleanTold told x) (sym did.lost.1) unclean) (over-at world given given1 told n tape1 did.given read.next)))

pub read_regions-refusal-requires-clause-placed : goal.read_regions-refusal-requires-clause-placed
read_regions-refusal-requires-clause-placed g c = c.requires.stands.placed

pub read_regions-refusal-requires-clause-unlost : goal.read_regions-refusal-requires-clause-unlost
read_regions-refusal-requires-clause-unlost g c = c.requires.stands.unlost

pub read_regions-refusal-requires-clause-into : goal.read_regions-refusal-requires-clause-into
read_regions-refusal-requires-clause-into g c = c.requires.into

pub read_regions-refusal-requires-clause-within : goal.read_regions-refusal-requires-clause-within
read_regions-refusal-requires-clause-within g c = c.requires.within

pub read_regions-refusal-requires-clause-scratch : goal.read_regions-refusal-requires-clause-scratch
read_regions-refusal-requires-clause-scratch g c = c.requires.scratch

pub is_some-requires : goal.is_some-requires
is_some-requires g c κs a has = absurd (not-mem-nil has)

pub returns-then-is_some-clause-refused : goal.returns-then-is_some-clause-refused
returns-then-is_some-clause-refused g c = c.read_regions-refusal.ensures.refused

pub returns-then-is_some-clause-kept : goal.returns-then-is_some-clause-kept
returns-then-is_some-clause-kept g c = c.read_regions-refusal.ensures.kept

pub returns-then-is_some-clause-others : goal.returns-then-is_some-clause-others
returns-then-is_some-clause-others g c told s k other = ap (λ (l : List Operation). present (g.B.Bank.given c.args.bank.now) l s k) (c.read_regions-refusal.ensures.tape told)

pub returns-then-is_some-clause-clean : goal.returns-then-is_some-clause-clean
returns-then-is_some-clause-clean g c = ap (λ (x : Members). is_clean x.newest) c.read_regions-refusal.ensures.lost.1

pub returns-then-is_some-clause-tape : goal.returns-then-is_some-clause-tape
returns-then-is_some-clause-tape g c whole = c.read_regions-refusal.ensures.tape

pub returns-clause-clean : goal.returns-clause-clean
returns-clause-clean g c = c.record_missing-spares.ensures.clean ∙ ap (λ (x : Members). is_clean x.newest) c.read_regions-refusal.ensures.lost.1
