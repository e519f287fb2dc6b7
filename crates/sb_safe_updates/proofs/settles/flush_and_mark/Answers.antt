use Rattle.std.proofs.Common.{◌≡◌, inl, ◌||◌, Bool, true, false, refl, sym, ◌∙◌, ap, subst}
use Rattle.std.specs.Prelude.{Option, Some, None, MatchOption, is_some, ⊤}
use Rattle.sb_update.specs.raid_types_the_Refusal.{Refusal}
use Rattle.sb_update.specs.bank_Given.{Given}
use Rattle.sb_update.specs.bank_Tape.{disk}
use Rattle.array_members.specs.history_Sound.{OpensFit}
use Rattle.array_members.specs.crash_views_Regions.{DoWithout}
use Rattle.array_members.specs.Lacking.{AreTooMany}
use Rattle.array_members.specs.crash_safety_laws_Kinds.{IsMarkable}
use Rattle.array_members.specs.crash_safety_laws_Steady.{IsNamedOver, IsSafeNow, settled_ledger}
use Rattle.array_members.specs.crash_views_Views.{Ledger}
use Rattle.array_members.proofs.HeldRows.{without-before}
use Rattle.sb_safe_updates.proofs.Under.{under-moved, rows-under-moved}
use Rattle.array_members.specs.Under.{RowsStandUnder}
use Rattle.array_members.proofs.LiveLeft.{without-left, holder-left}
use Rattle.array_members.proofs.MarkedSafe.{settled-markable}
use Rattle.array_members.proofs.crash_safety_laws_Risen.{room-first, room-then}
use Rattle.array_members.proofs.SafeStretch.{gone-before, safe-then, allowed-later, grows-longer, over-at, keeps-from}
use Rattle.sb_safe_updates.proofs.SettledSafe.{settled-safe, clean-settled}
use Rattle.sb_update.specs.sb_specs_the_Members.{Members}
use Rattle.array_members.specs.stripe_row_Rows.{reading_of, present}
use Rattle.array_members.proofs.MovedLaws.{moved-from}
use Rattle.array_members.proofs.LackingLaws.{in-either, holders-fewer, holders-at}
use Rattle.array_members.specs.crash_safety_laws_Marking.{AreOthersPresent}
use Rattle.sb_safe_updates.proofs.FrameLaws.{keeps-then, stands-on}
use Rattle.sb_safe_updates.proofs.settles.flush_and_mark.Goals as goal

pub mark_all-marked-requires : goal.mark_all-marked-requires
mark_all-marked-requires g c = record { stands = stands-on c.flush_naming-named.ensures.keeps c.requires.stands }

pub returns-clause-keeps : goal.returns-clause-keeps
returns-clause-keeps g c =
    keeps-then c.flush_naming-named.ensures.keeps c.mark_all-marked.ensures.keeps (in-either c.flush_naming-named.result c.mark_all-marked.result)

pub returns-clause-flushed : goal.returns-clause-flushed
returns-clause-flushed g c = λ told.
    let given = g.B.Bank.given c.args.bank.now in
    let given1 = g.B.Bank.given c.flush_naming-named.new.bank in
    let m1 = c.flush_naming-named.new.members in
    let tape1 = g.B.Bank.tape c.flush_naming-named.new.bank in
    let tape2 = g.B.Bank.tape c.mark_all-marked.new.bank in
    let did1 = c.flush_naming-named.ensures in
    let did2 = c.mark_all-marked.ensures in
    holders-fewer given m1 c.mark_all-marked.new.members tape2 did2.keeps.moved.held
    (holders-at (reading_of m1) given1 given tape2 (sym did1.keeps.bank.same) (did2.flushed told (holders-at (reading_of m1) given given1 tape1 did1.keeps.bank.same (did1.flushed told))))

pub returns-then-is_some-unsynced-clause-keeps : goal.returns-then-is_some-unsynced-clause-keeps
returns-then-is_some-unsynced-clause-keeps g c = c.flush_naming-named.ensures.keeps

-- ---- where slots are lost

-- of the refusal alone
without-none : (m : Members) (refusal : Option Refusal) → MatchOption refusal (DoWithout m) (AreTooMany m) → refusal ≡ None → DoWithout m
without-none m refusal is none = subst (λ (o : Option Refusal). MatchOption o (DoWithout m) (AreTooMany m)) none is

-- of three tests one of which holds the second does, where the others fail
still : (a b c : Bool) → ((a || b) || c) ≡ true → a ≡ false → c ≡ false → b ≡ true
still true b c e f h = absurd (cc)
still false true c e f h = refl
still false false true e f h = absurd (cc)
still false false false e f h = absurd (cc)

synced : (b : Bool) → (b ≡ true → false ≡ true) → b ≡ false
synced true e = absurd (let no = e refl in cc)
synced false e = refl

-- none is refused, where the tests fail
none-there : (o : Option Refusal) (a b d : Bool) → a ≡ is_some o → ((a || b) || d) ≡ false → o ≡ None
none-there o true b d is e = absurd (cc)
none-there None false b d is e = refl
none-there (Some refusal) false b d is e = absurd (cc)

-- what is said of a refusal is said where nothing is said of none
told-only : (P : Type 0) (Q : Refusal → Type 0) (o : Option Refusal) → MatchOption o P Q → MatchOption o ⊤ Q
told-only P Q None is = tt
told-only P Q (Some refusal) is = is

true-false : {X : Type 0} → true ≡ false → X
true-false is = absurd (cc)

-- of three tests that fail the second does
second : (a b c : Bool) → ((a || b) || c) ≡ false → b ≡ false
second true b c e = absurd (cc)
second false true c e = absurd (cc)
second false false c e = refl

pub returns-then-is_some-unsynced-clause-safe : goal.returns-then-is_some-unsynced-clause-safe
returns-then-is_some-unsynced-clause-safe g c = λ tell world told room gone unclean list stands rows allowed now.
    c.flush_naming-named.ensures.safe tell world told room gone unclean now

pub returns-then-is_some-unsynced-clause-settled : goal.returns-then-is_some-unsynced-clause-settled
returns-then-is_some-unsynced-clause-settled g c = λ none tell world told room gone unclean dirty list stands rows allowed now.
    let m = c.args.members.now in
    let m1 = c.flush_naming-named.new.members in
    let given = g.B.Bank.given c.args.bank.now in
    let tape0 = g.B.Bank.tape c.args.bank.now in
    let tape1 = g.B.Bank.tape c.flush_naming-named.new.bank in
    let did1 = c.flush_naming-named.ensures in
    let does1 = without-none m1 c.too_many-refusal.result c.too_many-refusal.ensures none in
    let does = without-before given m m1 did1.keeps.moved does1 in
    let moves = under-moved world.scope given m m1 (present given tape0) (present given tape1) (disk given.start tape0) (disk given.start tape1) list did1.keeps.moved c.requires.stands.placed (did1.others tell) (did1.rest tell) now in
    settled-safe (OpensFit world) world.scope given told c.args.unsynced m1 tape1 list did1.keeps.moved.placed (did1.flushed tell) (moves (stands does))
    (λ is. still c.is_some.result c.args.unsynced c.is_clean.result c.if-is_some-unsynced.true (c.is_some.ensures ∙ ap (λ (o : Option Refusal). is_some o) none) (c.is_clean.ensures ∙ is))
    (λ clean does_without premise. rows-under-moved world.scope given m m1 (present given tape0) (present given tape1) (disk given.start tape0) (disk given.start tape1) list did1.keeps.moved c.requires.stands.placed (did1.others tell) (did1.rest tell)
    (rows (synced c.args.unsynced (λ is. sym (did1.clean ∙ dirty does is) ∙ clean)) does premise))
    (did1.named tell world told room gone unclean now (without-left given m1 did1.keeps.moved.placed did1.keeps.moved.unlost does1))

pub unmarked-requires-clause-small : goal.unmarked-requires-clause-small
unmarked-requires-clause-small g c role slot held = (c.mark_all-marked.ensures.keeps.moved.placed.holders role slot held).small

pub returns-clause-safe : goal.returns-clause-safe
returns-clause-safe g c = λ tell world told room gone unclean list stands rows allowed now.
    let m = c.args.members.now in
    let m1 = c.flush_naming-named.new.members in
    let m2 = c.mark_all-marked.new.members in
    let given = g.B.Bank.given c.args.bank.now in
    let given1 = g.B.Bank.given c.flush_naming-named.new.bank in
    let tape0 = g.B.Bank.tape c.args.bank.now in
    let tape1 = g.B.Bank.tape c.flush_naming-named.new.bank in
    let tape2 = g.B.Bank.tape c.mark_all-marked.new.bank in
    let did1 = c.flush_naming-named.ensures in
    let did2 = c.mark_all-marked.ensures in
    let moved2 = moved-from given given1 m1 m1 m2 did1.keeps.bank.same refl did2.keeps.moved in
    let kept = did1.safe tell world told (room-first m tape0 tape1 tape2 room (grows-longer did2.keeps.bank.grows tell)) (gone-before given m1 m2 did1.keeps.moved.placed moved2 told gone) unclean now in
    let markable : IsMarkable (OpensFit world) world.scope true told m1 m2 (disk given.start tape1) =
    settled-markable (OpensFit world) world.scope given told m1 m2 tape1 list did1.keeps.moved.placed (did1.flushed tell) gone (allowed-later given m m1 did1.keeps.moved told.values list allowed)
    (λ does premise. rows-under-moved world.scope given m m1 (present given tape0) (present given tape1) (disk given.start tape0) (disk given.start tape1) list did1.keeps.moved c.requires.stands.placed (did1.others tell) (did1.rest tell)
    (rows (second c.is_some.result c.args.unsynced c.is_clean.result c.if-is_some-unsynced.false) (without-before given m m1 did1.keeps.moved does) premise)) in
    safe-then (OpensFit world) world.scope given told m1 m2 tape0 tape1 tape2 kept
    (keeps-from world given given1 told m2 tape1 tape2 did1.keeps.bank.same
    (did2.safe tell world told (room-then tape2 tell room did1.keeps.rise)
    (subst (λ (b : Given). IsMarkable (OpensFit world) world.scope true told m1 m2 (disk b.start tape1)) (sym did1.keeps.bank.same) markable)
    (over-at world given given1 told m1 tape1 did1.keeps.bank.same kept.next)))

pub returns-clause-settled : goal.returns-clause-settled
returns-clause-settled g c = λ none tell world told room gone unclean dirty list stands rows allowed now.
    let m = c.args.members.now in
    let m1 = c.flush_naming-named.new.members in
    let m2 = c.mark_all-marked.new.members in
    let given = g.B.Bank.given c.args.bank.now in
    let given1 = g.B.Bank.given c.flush_naming-named.new.bank in
    let tape0 = g.B.Bank.tape c.args.bank.now in
    let tape1 = g.B.Bank.tape c.flush_naming-named.new.bank in
    let tape2 = g.B.Bank.tape c.mark_all-marked.new.bank in
    let did1 = c.flush_naming-named.ensures in
    let did2 = c.mark_all-marked.ensures in
    let moved2 = moved-from given given1 m1 m1 m2 did1.keeps.bank.same refl did2.keeps.moved in
    let room1 = room-first m tape0 tape1 tape2 room (grows-longer did2.keeps.bank.grows tell) in
    let gone1 = gone-before given m1 m2 did1.keeps.moved.placed moved2 told gone in
    let does1 = without-none m1 c.too_many-refusal.result c.too_many-refusal.ensures (none-there c.too_many-refusal.result c.is_some.result c.args.unsynced c.is_clean.result c.is_some.ensures c.if-is_some-unsynced.false) in
    let does = without-before given m m1 did1.keeps.moved does1 in
    let moves = under-moved world.scope given m m1 (present given tape0) (present given tape1) (disk given.start tape0) (disk given.start tape1) list did1.keeps.moved c.requires.stands.placed (did1.others tell) (did1.rest tell) now in
    let rows1 : OpensFit world → RowsStandUnder world.scope m1 (present given tape1) (disk given.start tape1) list =
    λ premise. rows-under-moved world.scope given m m1 (present given tape0) (present given tape1) (disk given.start tape0) (disk given.start tape1) list did1.keeps.moved c.requires.stands.placed (did1.others tell) (did1.rest tell)
    (rows (second c.is_some.result c.args.unsynced c.is_clean.result c.if-is_some-unsynced.false) does premise) in
    let alone : Ledger = settled_ledger true list told in
    let safe1 : IsSafeNow (OpensFit world) world.scope given alone m1 (disk given.start tape1) =
    settled-safe (OpensFit world) world.scope given told true m1 tape1 list did1.keeps.moved.placed (did1.flushed tell) (moves (stands does)) (λ is. refl) (λ clean does_without premise. rows1 premise)
    (did1.named tell world told room1 gone1 unclean now (without-left given m1 did1.keeps.moved.placed did1.keeps.moved.unlost does1)) in
    let markable : IsMarkable (OpensFit world) world.scope true alone m1 m2 (disk given.start tape1) =
    settled-markable (OpensFit world) world.scope given alone m1 m2 tape1 list did1.keeps.moved.placed (did1.flushed tell) gone (λ x lt. inl refl) (λ does_without premise. rows1 premise) in
    let held = c.unmarked.ensures.left none in
    clean-settled told true c.args.unsynced list did2.clean
    (subst (λ (b : Given). IsNamedOver world b alone m2 tape2) did1.keeps.bank.same
    (did2.named tell world alone (room-then tape2 tell room did1.keeps.rise)
    (subst (λ (b : Given). IsMarkable (OpensFit world) world.scope true alone m1 m2 (disk b.start tape1)) (sym did1.keeps.bank.same) markable)
    (over-at world given given1 alone m1 tape1 did1.keeps.bank.same safe1) (holder-left given m2 held.0 held.1 moved2.placed moved2.unlost held.2)))

pub flush_naming-named-requires : goal.flush_naming-named-requires
flush_naming-named-requires g c = record { stands = c.requires.stands }

pub returns-then-is_some-unsynced-clause-others : goal.returns-then-is_some-unsynced-clause-others
returns-then-is_some-unsynced-clause-others g c = c.flush_naming-named.ensures.others

pub returns-then-is_some-unsynced-clause-flushed : goal.returns-then-is_some-unsynced-clause-flushed
returns-then-is_some-unsynced-clause-flushed g c = c.flush_naming-named.ensures.flushed

pub returns-then-is_some-unsynced-clause-stays : goal.returns-then-is_some-unsynced-clause-stays
returns-then-is_some-unsynced-clause-stays g c unsynced = c.flush_naming-named.ensures.clean

pub returns-then-is_some-unsynced-clause-refused : goal.returns-then-is_some-unsynced-clause-refused
returns-then-is_some-unsynced-clause-refused g c =
    told-only (DoWithout c.flush_naming-named.new.members) (AreTooMany c.flush_naming-named.new.members) c.too_many-refusal.result c.too_many-refusal.ensures

pub returns-clause-stays : goal.returns-clause-stays
returns-clause-stays g c unsynced = true-false (sym unsynced ∙ second c.is_some.result c.args.unsynced c.is_clean.result c.if-is_some-unsynced.false)

pub returns-clause-others : goal.returns-clause-others
returns-clause-others g c told s k other =
    let tape1 = g.B.Bank.tape c.flush_naming-named.new.bank in
    let tape2 = g.B.Bank.tape c.mark_all-marked.new.bank in
    subst (λ (b : Given). AreOthersPresent (present b tape1) (present b tape2)) c.flush_naming-named.ensures.keeps.bank.same (c.mark_all-marked.ensures.others told) s k other ∙ c.flush_naming-named.ensures.others told s k other
