use Rattle.std.proofs.Common.{inl, refl, sym, ◌∙◌, subst, arith}
use Rattle.std.specs.Prelude.{IsTrue}
use mathlib.Core.List.{not-mem-nil}
use Rattle.stripe_delayed_store.specs.raid_types_the_Shape.{Shape}
use Rattle.stripe_delayed_store.specs.raid_types_Shapes.{is_valid_shape}
use Rattle.stripe_delayed_store.specs.history_Sound.{OpensFit}
use Rattle.stripe_delayed_store.proofs.array_members_Fit.{valid, disks-within}
use Rattle.stripe_delayed_store.proofs.array_members_MovedLaws.{moved-same, grows-none}
use Rattle.stripe_delayed_store.proofs.array_members_LackingLaws.{since-same}
use Rattle.stripe_delayed_store.proofs.crash_safety_laws_Risen.{risen-none}
use Rattle.stripe_delayed_store.proofs.array_members_SafeStretch.{safe-none}
use Rattle.stripe_write_back.proofs.WrittenOutLaws.{none-out, some-out, never-none}
use Rattle.stripe_write_back.proofs.keeping.write_through.Goals as goal

pub too_many_of-refusal-requires-clause-shape : goal.too_many_of-refusal-requires-clause-shape
too_many_of-refusal-requires-clause-shape g c = subst (λ (s : Shape). IsTrue (is_valid_shape s)) (sym c.requires.shape) (valid (g.B.Bank.given c.args.bank.now) c.args.members.now c.requires.placed)

pub too_many_of-refusal-requires-clause-roles : goal.too_many_of-refusal-requires-clause-roles
too_many_of-refusal-requires-clause-roles g c = disks-within (g.B.Bank.given c.args.bank.now) c.args.members.now c.requires.placed c.args.shape.now (inl c.requires.shape)

pub is_some-requires : goal.is_some-requires
is_some-requires g c κs a has = absurd (not-mem-nil has)

pub store_delayed-requires-clause-shape : goal.store_delayed-requires-clause-shape
store_delayed-requires-clause-shape g c = inl c.requires.shape

pub store_delayed-requires-clause-size : goal.store_delayed-requires-clause-size
store_delayed-requires-clause-size g c = c.requires.size

pub store_delayed-requires-clause-without : goal.store_delayed-requires-clause-without
store_delayed-requires-clause-without g c = none-out _ _ c.too_many_of-refusal.result c.too_many_of-refusal.ensures (sym c.is_some.ensures ∙ c.if-is_some.false)

pub store_delayed-requires-clause-others : goal.store_delayed-requires-clause-others
store_delayed-requires-clause-others g c = λ told. c.requires.others told

pub returns-clause-out : goal.returns-clause-out
returns-clause-out g c = λ none told side. record {
  bytes = c.args.bytes.now;
  are = record { whole = c.requires.whole; sectors = refl };
  others = c.store_delayed.ensures.others told;
  full = λ list own. c.store_delayed.ensures.full list told own;
  rebuilt = λ stored list own differ. c.store_delayed.ensures.rebuilt stored list told own differ;
}

pub returns-clause-safe : goal.returns-clause-safe
returns-clause-safe g c = λ told world ledger room gone unclean dirty region list own allowed zeros safe.
    c.store_delayed.ensures.safe told world ledger room gone unclean dirty region list own allowed zeros safe

pub returns-clause-moved : goal.returns-clause-moved
returns-clause-moved g c = c.store_delayed.ensures.moved

pub returns-clause-failed : goal.returns-clause-failed
returns-clause-failed g c = c.store_delayed.ensures.failed

pub returns-clause-refused : goal.returns-clause-refused
returns-clause-refused g c = c.store_delayed.ensures.refused

pub returns-clause-grows : goal.returns-clause-grows
returns-clause-grows g c = c.store_delayed.ensures.grows

pub returns-clause-rise : goal.returns-clause-rise
returns-clause-rise g c = c.store_delayed.ensures.rise

pub returns-clause-clean : goal.returns-clause-clean
returns-clause-clean g c = c.store_delayed.ensures.clean

pub returns-then-is_some-clause-moved : goal.returns-then-is_some-clause-moved
returns-then-is_some-clause-moved g c = moved-same (g.B.Bank.given c.args.bank.now) (g.B.Bank.given c.args.bank.now) c.args.members.now c.args.members.now refl refl c.requires.placed c.requires.unlost

pub returns-then-is_some-clause-failed : goal.returns-then-is_some-clause-failed
returns-then-is_some-clause-failed g c = since-same c.args.members.now (g.B.Bank.faults_of c.args.bank.now) (g.B.Bank.faults_of c.args.bank.now)

pub returns-then-is_some-clause-refused : goal.returns-then-is_some-clause-refused
returns-then-is_some-clause-refused g c = some-out _ _ c.too_many_of-refusal.result c.too_many_of-refusal.ensures

pub returns-then-is_some-clause-grows : goal.returns-then-is_some-clause-grows
returns-then-is_some-clause-grows g c = grows-none (λ told. refl)

pub returns-then-is_some-clause-out : goal.returns-then-is_some-clause-out
returns-then-is_some-clause-out g c = λ none told side. never-none c.too_many_of-refusal.result (sym c.is_some.ensures ∙ c.if-is_some.true) none

pub returns-then-is_some-clause-rise : goal.returns-then-is_some-clause-rise
returns-then-is_some-clause-rise g c = risen-none c.args.members.now (g.B.Bank.tape c.args.bank.now) (g.B.Bank.tape c.args.bank.now) (λ told. omega arith)

pub returns-then-is_some-clause-safe : goal.returns-then-is_some-clause-safe
returns-then-is_some-clause-safe g c = λ told world ledger room gone unclean dirty region list own allowed zeros safe.
    safe-none (OpensFit world) world.scope (g.B.Bank.given c.args.bank.now) ledger c.args.members.now (g.B.Bank.tape c.args.bank.now) safe
