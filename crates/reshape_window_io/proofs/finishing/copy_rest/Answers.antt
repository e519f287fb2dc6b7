use Rattle.std.proofs.Common.{◌≡◌, ◌+◌, ◌-◌, ◌/◌, ℕ, refl, sym, ◌∙◌, ap, subst, arith, Option, Some, None}
use mathlib.Core.List.{not-mem-nil}
use Rattle.std.specs.Prelude.{MatchOption, ⊤, is_some, true}
use Rattle.stripe_region_read.specs.raid_types_the_Refusal.{Refusal}
use Rattle.stripe_region_read.specs.raid_types_Shapes.{stripe_sectors}
use Rattle.stripe_region_read.specs.bank_Given.{Given}
use Rattle.stripe_region_read.specs.bank_Tape.{disk}
use Rattle.stripe_region_read.specs.reshape_geometry_Geometry.{ceiling}
use Rattle.stripe_region_read.proofs.reshape_geometry_ClosedForms.{rounded_up}
use Rattle.reshape_window_steps.specs.stripe_row_Rows.{present, reading_of}
use Rattle.reshape_window_steps.specs.stripe_list_Full.{RowStands}
use Rattle.reshape_window_steps.specs.history_Sound.{OpensFit}
use Rattle.reshape_window_steps.specs.crash_views_Windows.{IsCopyable}
use Rattle.reshape_window_steps.specs.array_members_Moving.{IsMoved}
use Rattle.reshape_window_steps.specs.array_members_Lacking.{IsOfStripe, AreOtherRowsKept}
use Rattle.reshape_window_steps.proofs.array_members_MovedLaws.{moved-from}
use Rattle.reshape_window_steps.proofs.array_members_LackingLaws.{in-either}
use Rattle.reshape_window_steps.proofs.array_members_LackingLists.{none-of}
use Rattle.reshape_window_steps.proofs.array_members_SafeStretch.{safe-none}
use Rattle.reshape_window_steps.proofs.array_members_SyncedParts.{safe-part}
use Rattle.reshape_window_steps.specs.Copying.{AreHeadersKept}
use Rattle.reshape_window_steps.proofs.CopyLaws.{window-alike, tail-alike}
use Rattle.reshape_window_io.specs.Finishing.{AreStripesCopied}
use Rattle.reshape_window_io.proofs.Windows.{still-copied, one-more, rest-kept}
use Rattle.reshape_window_steps.proofs.sb_safe_updates_FrameLaws.{keeps-none, keeps-then, stands-on}
use Rattle.reshape_window_io.proofs.finishing.copy_rest.Goals as goal

-- an answer that is some isn't none
never : (o : Option Refusal) → is_some o ≡ true → o ≡ None → ⊥
never None is none = absurd (cc)
never (Some refusal) is none = absurd (cc)

-- ---- numbers

pub overflow_add-at : goal.overflow_add-at
overflow_add-at g c =
    let begins : c.args.span.now.lo / c.stripe_sectors-sectors.result ≡ c.args.span.now.lo / stripe_sectors c.args.shape.now = ap (λ (n : ℕ). c.args.span.now.lo / n) c.stripe_sectors-sectors.ensures.value in
    let end : c.div_ceil-end.result ≡ ceiling c.args.span.now.hi (stripe_sectors c.args.shape.now) =
    rounded_up c.div_ceil-end.result c.args.span.now.hi c.stripe_sectors-sectors.result (stripe_sectors c.args.shape.now) c.stripe_sectors-sectors.ensures.positive c.stripe_sectors-sectors.ensures.value c.div_ceil-end.ensures in
    omega (arith, begins, end, c.requires.from)

pub loop-at-init : goal.loop-at-init
loop-at-init g c =
    let m = c.args.members.now in
    let given = g.B.Bank.given c.args.bank.now in
    let tape0 = g.B.Bank.tape c.args.bank.now in
    let none : c.args.span.now.lo / c.stripe_sectors-sectors.result + c.args.from - c.args.span.now.lo / c.stripe_sectors-sectors.result ≡ c.args.from = omega arith in
    record {
      keeps = keeps-none c.args.bank.now c.args.members.now c.requires.stands;
      clean = refl;
      reached = omega arith;
      within = let few = c.requires.from in omega (arith, few);
      stands = λ told list copied was. subst (λ (n : ℕ). AreStripesCopied c.args.shape.now c.args.span.now n m (present given tape0) list) (sym none) was;
      others = λ told row out role slot held. refl;
      safe = λ told world ledger room gone unclean able safe. safe-none (OpensFit world) world.scope given ledger m tape0 safe;
      copyable = λ told world able. able;
      headers = λ told s v may. may;
    }

pub copy-part-requires-clause-stands : goal.copy-part-requires-clause-stands
copy-part-requires-clause-stands g c = stands-on c.loop-at.invariant.keeps c.requires.stands

pub copy-part-requires-clause-shape : goal.copy-part-requires-clause-shape
copy-part-requires-clause-shape g c = c.requires.shape ∙ sym c.loop-at.invariant.keeps.moved.reshape.final

pub copy-part-requires-clause-next : goal.copy-part-requires-clause-next
copy-part-requires-clause-next g c =
    let moved = c.loop-at.invariant.keeps.moved in
    window-alike c.args.members.now.newest c.loop-at.members.newest moved.reshape moved.shape moved.size ∙ c.requires.next

pub copy-part-requires-clause-stripe : goal.copy-part-requires-clause-stripe
copy-part-requires-clause-stripe g c =
    let begins : c.args.span.now.lo / c.stripe_sectors-sectors.result ≡ c.args.span.now.lo / stripe_sectors c.args.shape.now = ap (λ (n : ℕ). c.args.span.now.lo / n) c.stripe_sectors-sectors.ensures.value in
    let end : c.div_ceil-end.result ≡ ceiling c.args.span.now.hi (stripe_sectors c.args.shape.now) =
    rounded_up c.div_ceil-end.result c.args.span.now.hi c.stripe_sectors-sectors.result (stripe_sectors c.args.shape.now) c.stripe_sectors-sectors.ensures.positive c.stripe_sectors-sectors.ensures.value c.div_ceil-end.ensures in
    let reached = c.loop-at.invariant.reached in
    let test = c.loop-at-test.true in
    (omega (arith, begins, reached), omega (arith, end, test))

-- ---- where one is refused

some-match : (P : Type 0) (o : Option Refusal) → is_some o ≡ true → P → MatchOption o ⊤ (λ refusal. P)
some-match P None is holds = tt
some-match P (Some refusal) is holds = holds

pub returns-then-is_some-clause-keeps : goal.returns-then-is_some-clause-keeps
returns-then-is_some-clause-keeps g c = keeps-then c.loop-at.invariant.keeps c.copy-part.ensures.keeps (in-either c.loop-at.spares c.copy-part.result.spares)

pub returns-then-is_some-clause-others : goal.returns-then-is_some-clause-others
returns-then-is_some-clause-others g c =
    let was = c.loop-at.invariant in
    let did = c.copy-part.ensures in
    let given = g.B.Bank.given c.args.bank.now in
    let given1 = g.B.Bank.given c.loop-at.bank in
    let m = c.args.members.now in
    let n = c.loop-at.members in
    let new = c.copy-part.new.members in
    let tape0 = g.B.Bank.tape c.args.bank.now in
    let tape1 = g.B.Bank.tape c.loop-at.bank in
    let tape2 = g.B.Bank.tape c.copy-part.new.bank in
    let shape = c.args.shape.now in
    let span = c.args.span.now in
    let at = c.loop-at.at in
    let first : ℕ = c.args.span.now.lo / c.stripe_sectors-sectors.result in
    let begins : first ≡ span.lo / stripe_sectors shape = ap (λ (n : ℕ). span.lo / n) c.stripe_sectors-sectors.ensures.value in
    let ends : c.div_ceil-end.result ≡ ceiling span.hi (stripe_sectors shape) =
    rounded_up c.div_ceil-end.result span.hi c.stripe_sectors-sectors.result (stripe_sectors shape) c.stripe_sectors-sectors.ensures.positive c.stripe_sectors-sectors.ensures.value c.div_ceil-end.ensures in
    let reached = was.reached in
    let test = c.loop-at-test.true in
    let moved : IsMoved given n new = moved-from given given1 n n new was.keeps.bank.same refl did.keeps.moved in
    let kept : g.B.Bank.tells → AreOtherRowsKept (IsOfStripe shape at) (reading_of new) (present given tape1) (present given tape2) =
    λ told. subst (λ (b : Given). AreOtherRowsKept (IsOfStripe shape at) (reading_of new) (present b tape1) (present b tape2)) was.keeps.bank.same (did.others told) in
    λ told. rest-kept shape span given m n new c.args.from at (omega (arith, begins, reached)) (omega (arith, ends, test)) (present given tape0) (present given tape1) (present given tape2) moved (was.others told) (kept told)

pub returns-then-is_some-clause-safe : goal.returns-then-is_some-clause-safe
returns-then-is_some-clause-safe g c =
    let was = c.loop-at.invariant in
    let did = c.copy-part.ensures in
    let given = g.B.Bank.given c.args.bank.now in
    let given1 = g.B.Bank.given c.loop-at.bank in
    let m = c.args.members.now in
    let n = c.loop-at.members in
    let new = c.copy-part.new.members in
    let tape0 = g.B.Bank.tape c.args.bank.now in
    let tape1 = g.B.Bank.tape c.loop-at.bank in
    let tape2 = g.B.Bank.tape c.copy-part.new.bank in
    let span = c.args.span.now in
    let first : ℕ = c.args.span.now.lo / c.stripe_sectors-sectors.result in
    let moved : IsMoved given n new = moved-from given given1 n n new was.keeps.bank.same refl did.keeps.moved in
    λ told world ledger room gone unclean able safe.
    safe-part world given given1 ledger m n new tape0 tape1 tape2 told was.keeps.bank.same was.keeps.moved.placed moved did.keeps.bank.grows was.keeps.rise room gone
    (λ first gone1. was.safe told world ledger first gone1 unclean able safe)
    (λ then now. did.safe told world ledger then gone (λ dirty. unclean (sym was.clean ∙ dirty))
    (subst (λ (b : Given). IsCopyable world.scope n span (disk b.start tape1)) (sym was.keeps.bank.same) (was.copyable told world able)) now)

pub returns-then-is_some-clause-copyable : goal.returns-then-is_some-clause-copyable
returns-then-is_some-clause-copyable g c =
    let was = c.loop-at.invariant in
    let did = c.copy-part.ensures in
    let given = g.B.Bank.given c.args.bank.now in
    let n = c.loop-at.members in
    let new = c.copy-part.new.members in
    let tape1 = g.B.Bank.tape c.loop-at.bank in
    let tape2 = g.B.Bank.tape c.copy-part.new.bank in
    let span = c.args.span.now in
    λ told world able.
    subst (λ (b : Given). IsCopyable world.scope n span (disk b.start tape1) → IsCopyable world.scope new span (disk b.start tape2)) was.keeps.bank.same (did.copyable told world) (was.copyable told world able)

pub returns-then-is_some-clause-headers : goal.returns-then-is_some-clause-headers
returns-then-is_some-clause-headers g c =
    let was = c.loop-at.invariant in
    let did = c.copy-part.ensures in
    let given = g.B.Bank.given c.args.bank.now in
    let new = c.copy-part.new.members in
    let tape1 = g.B.Bank.tape c.loop-at.bank in
    let tape2 = g.B.Bank.tape c.copy-part.new.bank in
    λ told s v may. was.headers told s v
    (subst (λ (b : Given). AreHeadersKept (disk b.start tape1) (disk b.start tape2)) was.keeps.bank.same (did.headers told) s v may)

pub returns-then-is_some-clause-stands : goal.returns-then-is_some-clause-stands
returns-then-is_some-clause-stands g c =
    let was = c.loop-at.invariant in
    let did = c.copy-part.ensures in
    let given = g.B.Bank.given c.args.bank.now in
    let given1 = g.B.Bank.given c.loop-at.bank in
    let n = c.loop-at.members in
    let new = c.copy-part.new.members in
    let tape1 = g.B.Bank.tape c.loop-at.bank in
    let tape2 = g.B.Bank.tape c.copy-part.new.bank in
    let shape = c.args.shape.now in
    let span = c.args.span.now in
    let at = c.loop-at.at in
    let first : ℕ = c.args.span.now.lo / c.stripe_sectors-sectors.result in
    let begins : first ≡ span.lo / stripe_sectors shape = ap (λ (n : ℕ). span.lo / n) c.stripe_sectors-sectors.ensures.value in
    let reached = was.reached in
    let moved : IsMoved given n new = moved-from given given1 n n new was.keeps.bank.same refl did.keeps.moved in
    let kept : g.B.Bank.tells → AreOtherRowsKept (IsOfStripe shape at) (reading_of new) (present given tape1) (present given tape2) =
    λ told. subst (λ (b : Given). AreOtherRowsKept (IsOfStripe shape at) (reading_of new) (present b tape1) (present b tape2)) was.keeps.bank.same (did.others told) in
    λ told list copied before. still-copied shape span given n new moved first at begins (omega (arith, reached)) (present given tape1) (present given tape2) list (kept told) (was.stands told list copied before)

pub returns-then-is_some-clause-named : goal.returns-then-is_some-clause-named
returns-then-is_some-clause-named g c = some-match _ c.copy-part.result.refusal (sym c.is_some.ensures ∙ c.if-is_some.true) c.copy-part.ensures.named

pub returns-then-is_some-clause-all : goal.returns-then-is_some-clause-all
returns-then-is_some-clause-all g c = λ none. absurd (never c.copy-part.result.refusal (sym c.is_some.ensures ∙ c.if-is_some.true) none)

-- ---- and where it is copied

pub loop-at-preserved : goal.loop-at-preserved
loop-at-preserved g c =
    let was = c.loop-at.invariant in
    let did = c.copy-part.ensures in
    let given = g.B.Bank.given c.args.bank.now in
    let given1 = g.B.Bank.given c.loop-at.bank in
    let m = c.args.members.now in
    let n = c.loop-at.members in
    let new = c.copy-part.new.members in
    let tape0 = g.B.Bank.tape c.args.bank.now in
    let tape1 = g.B.Bank.tape c.loop-at.bank in
    let tape2 = g.B.Bank.tape c.copy-part.new.bank in
    let f0 = g.B.Bank.faults_of c.args.bank.now in
    let f1 = g.B.Bank.faults_of c.loop-at.bank in
    let f2 = g.B.Bank.faults_of c.copy-part.new.bank in
    let shape = c.args.shape.now in
    let span = c.args.span.now in
    let at = c.loop-at.at in
    let first : ℕ = c.args.span.now.lo / c.stripe_sectors-sectors.result in
    let begins : first ≡ span.lo / stripe_sectors shape = ap (λ (n : ℕ). span.lo / n) c.stripe_sectors-sectors.ensures.value in
    let ends : c.div_ceil-end.result ≡ ceiling span.hi (stripe_sectors shape) =
    rounded_up c.div_ceil-end.result span.hi c.stripe_sectors-sectors.result (stripe_sectors shape) c.stripe_sectors-sectors.ensures.positive c.stripe_sectors-sectors.ensures.value c.div_ceil-end.ensures in
    let reached = was.reached in
    let test = c.loop-at-test.true in
    let moved : IsMoved given n new = moved-from given given1 n n new was.keeps.bank.same refl did.keeps.moved in
    let kept : g.B.Bank.tells → AreOtherRowsKept (IsOfStripe shape at) (reading_of new) (present given tape1) (present given tape2) =
    λ told. subst (λ (b : Given). AreOtherRowsKept (IsOfStripe shape at) (reading_of new) (present b tape1) (present b tape2)) was.keeps.bank.same (did.others told) in
    let none = none-of c.copy-part.result.refusal (sym c.is_some.ensures ∙ c.if-is_some.false) in
    record {
      keeps = keeps-then was.keeps did.keeps (in-either c.loop-at.spares c.copy-part.result.spares);
      clean = did.clean ∙ was.clean;
      reached = omega (arith, reached);
      within = omega (arith, begins, ends, test, reached);
      stands = λ told list copied before. one-more shape span given n new moved first at begins (omega (arith, reached)) (present given tape1) (present given tape2) list (kept told) (was.stands told list copied before)
          (λ row of. subst (λ (b : Given). RowStands (reading_of new) (present b tape2) shape list row) was.keeps.bank.same
          (did.stands none told list (tail-alike m.newest n.newest was.keeps.moved.reshape was.keeps.moved.shape was.keeps.moved.size span c.args.buffer.now list copied) row of));
      others = λ told. rest-kept shape span given m n new c.args.from at (omega (arith, begins, reached)) (omega (arith, ends, test)) (present given tape0) (present given tape1) (present given tape2) moved (was.others told) (kept told);
      safe = λ told world ledger room gone unclean able safe.
          safe-part world given given1 ledger m n new tape0 tape1 tape2 told was.keeps.bank.same was.keeps.moved.placed moved did.keeps.bank.grows was.keeps.rise room gone
          (λ first gone1. was.safe told world ledger first gone1 unclean able safe)
          (λ then now. did.safe told world ledger then gone (λ dirty. unclean (sym was.clean ∙ dirty))
          (subst (λ (b : Given). IsCopyable world.scope n span (disk b.start tape1)) (sym was.keeps.bank.same) (was.copyable told world able)) now);
      copyable = λ told world able.
          subst (λ (b : Given). IsCopyable world.scope n span (disk b.start tape1) → IsCopyable world.scope new span (disk b.start tape2)) was.keeps.bank.same (did.copyable told world) (was.copyable told world able);
      headers = λ told s v may. was.headers told s v
          (subst (λ (b : Given). AreHeadersKept (disk b.start tape1) (disk b.start tape2)) was.keeps.bank.same (did.headers told) s v may);
    }

pub returns-clause-all : goal.returns-clause-all
returns-clause-all g c = λ none.
    let span = c.args.span.now in
    let shape = c.args.shape.now in
    let first : ℕ = c.args.span.now.lo / c.stripe_sectors-sectors.result in
    let begins : first ≡ span.lo / stripe_sectors shape = ap (λ (n : ℕ). span.lo / n) c.stripe_sectors-sectors.ensures.value in
    let ends : c.div_ceil-end.result ≡ ceiling span.hi (stripe_sectors shape) =
    rounded_up c.div_ceil-end.result span.hi c.stripe_sectors-sectors.result (stripe_sectors shape) c.stripe_sectors-sectors.ensures.positive c.stripe_sectors-sectors.ensures.value c.div_ceil-end.ensures in
    let reached = c.loop-at.invariant.reached in
    let within = c.loop-at.invariant.within in
    let test = c.loop-at-test.false in
    omega (arith, begins, ends, reached, within, test)

-- ---- what the searches would find too, for longer

pub returns-then-is_some-clause-clean : goal.returns-then-is_some-clause-clean
returns-then-is_some-clause-clean g c = c.copy-part.ensures.clean ∙ c.loop-at.invariant.clean

pub is_some-requires : goal.is_some-requires
is_some-requires g c κs a has = absurd (not-mem-nil has)

pub returns-clause-keeps : goal.returns-clause-keeps
returns-clause-keeps g c = c.loop-at.invariant.keeps
