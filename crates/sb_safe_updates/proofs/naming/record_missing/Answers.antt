use Rattle.std.proofs.Common.{inl, refl, arith, ◌≡◌, sym, ◌∙◌, true, ℕ, ◌<◌}
use Rattle.sb_update.specs.bank_Tape.{disk}
use Rattle.sb_safe_updates.specs.Named.{AreDataKept}
use Rattle.array_members.specs.history_Sound.{OpensFit}
use Rattle.array_members.proofs.LiveLeft.{left-steady}
use Rattle.array_members.proofs.Fit.{few}
use Rattle.array_members.proofs.HeldRows.{vacant-missing}
use Rattle.array_members.specs.stripe_row_Rows.{reading_of}
use Rattle.sb_update.specs.sb_specs_the_Members.{Members}
use Rattle.sb_update.specs.sb_specs_Reading.{role_count}
use Rattle.array_members.specs.Placed.{is_unassigned, AreWhole}
use Rattle.array_members.specs.Lacking.{IsNamed}
use Rattle.sb_safe_updates.proofs.RolesNamed.{unnamed-named}
use Rattle.array_members.proofs.MarkedSafe.{same-markable}
use Rattle.array_members.proofs.SafeStretch.{safe-none}
use Rattle.array_members.proofs.LackingWrites.{marks-here}
use Rattle.sb_safe_updates.proofs.FrameLaws.{keeps-none}
use Rattle.sb_safe_updates.proofs.naming.record_missing.Goals as goal

pub returns-then-not-has_unnamed-clause-safe : goal.returns-then-not-has_unnamed-clause-safe
returns-then-not-has_unnamed-clause-safe g c = λ tell world told room gone unclean now.
    safe-none (OpensFit world) world.scope (g.B.Bank.given c.args.bank.now) told c.args.members.now (g.B.Bank.tape c.args.bank.now) now

pub returns-then-not-has_unnamed-clause-named : goal.returns-then-not-has_unnamed-clause-named
returns-then-not-has_unnamed-clause-named g c = λ tell world told room gone unclean now left.
    unnamed-named c.args.members.now (disk (g.B.Bank.given c.args.bank.now).start (g.B.Bank.tape c.args.bank.now)) c.requires.stands.placed
    (c.has_unnamed.ensures.none c.if-not-has_unnamed.true) (left-steady left now)

pub returns-clause-safe : goal.returns-clause-safe
returns-clause-safe g c = λ tell world told room gone unclean now.
    c.mark_all.ensures.safe tell world told room
    (same-markable (OpensFit world) world.scope (g.B.Bank.given c.args.bank.now) told c.is_clean-clean.result c.args.members.now c.mark_all.new.members
    (disk (g.B.Bank.given c.args.bank.now).start (g.B.Bank.tape c.args.bank.now)) c.requires.stands.placed c.requires.stands.unlost c.is_clean-clean.ensures gone unclean now) now

pub returns-clause-named : goal.returns-clause-named
returns-clause-named g c = λ tell world told room gone unclean now left.
    c.mark_all.ensures.named tell world told room
    (same-markable (OpensFit world) world.scope (g.B.Bank.given c.args.bank.now) told c.is_clean-clean.result c.args.members.now c.mark_all.new.members
    (disk (g.B.Bank.given c.args.bank.now).start (g.B.Bank.tape c.args.bank.now)) c.requires.stands.placed c.requires.stands.unlost c.is_clean-clean.ensures gone unclean now) now left

pub returns-then-not-has_unnamed-clause-missing : goal.returns-then-not-has_unnamed-clause-missing
returns-then-not-has_unnamed-clause-missing g c = λ live role lt vacant device below entry.
    c.has_unnamed.ensures.none c.if-not-has_unnamed.true role lt vacant (device, omega (arith, below), entry)

pub returns-then-not-has_unnamed-clause-data : goal.returns-then-not-has_unnamed-clause-data
returns-then-not-has_unnamed-clause-data g c =
    marks-here {P = AreDataKept (disk (g.B.Bank.given c.args.bank.now).start (g.B.Bank.tape c.args.bank.now))} g.B.Bank.tells (g.B.Bank.given c.args.bank.now).start (g.B.Bank.tape c.args.bank.now) (λ s k other. inl refl)

pub has_unnamed-requires-clause-few : goal.has_unnamed-requires-clause-few
has_unnamed-requires-clause-few g c = let most = few (g.B.Bank.given c.args.bank.now) c.args.members.now c.requires.stands.placed in omega (arith, most)

-- where all roles are whole, none is vacant
none-vacant : {P : Type 0} (m : Members) → AreWhole m → (role : ℕ) × (role < role_count m.newest) × (is_unassigned (reading_of m) role ≡ true) × IsNamed m.newest role → P
none-vacant m whole found = absurd (let clash = sym (vacant-missing (reading_of m) found.0 found.2) ∙ whole found.0 found.1 in cc)

pub returns-clause-kept : goal.returns-clause-kept
returns-clause-kept g c = λ whole. none-vacant c.args.members.now whole (c.has_unnamed.ensures.some c.if-not-has_unnamed.false)

pub returns-clause-tape : goal.returns-clause-tape
returns-clause-tape g c = λ whole tell. none-vacant c.args.members.now whole (c.has_unnamed.ensures.some c.if-not-has_unnamed.false)

pub returns-then-not-has_unnamed-clause-rest : goal.returns-then-not-has_unnamed-clause-rest
returns-then-not-has_unnamed-clause-rest g c = λ tell s k v why may. may

pub mark_all-requires : goal.mark_all-requires
mark_all-requires g c = record { stands = c.requires.stands }

pub returns-then-not-has_unnamed-clause-keeps : goal.returns-then-not-has_unnamed-clause-keeps
returns-then-not-has_unnamed-clause-keeps g c = keeps-none c.args.bank.now c.args.members.now c.requires.stands

pub returns-then-not-has_unnamed-clause-others : goal.returns-then-not-has_unnamed-clause-others
returns-then-not-has_unnamed-clause-others g c told s k other = refl

pub returns-then-not-has_unnamed-clause-flushed : goal.returns-then-not-has_unnamed-clause-flushed
returns-then-not-has_unnamed-clause-flushed g c told flushed = flushed

pub returns-clause-keeps : goal.returns-clause-keeps
returns-clause-keeps g c = c.mark_all.ensures.keeps

pub returns-clause-others : goal.returns-clause-others
returns-clause-others g c = c.mark_all.ensures.others

pub returns-clause-flushed : goal.returns-clause-flushed
returns-clause-flushed g c = c.mark_all.ensures.flushed

pub returns-clause-missing : goal.returns-clause-missing
returns-clause-missing g c = c.mark_all.ensures.missing

pub returns-clause-rest : goal.returns-clause-rest
returns-clause-rest g c = c.mark_all.ensures.rest

pub returns-clause-data : goal.returns-clause-data
returns-clause-data g c = c.mark_all.ensures.data

pub returns-clause-clean : goal.returns-clause-clean
returns-clause-clean g c = c.mark_all.ensures.clean ∙ c.is_clean-clean.ensures
