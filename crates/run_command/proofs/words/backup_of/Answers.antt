use Rattle.std.proofs.Common.{◌≡◌, ℕ, ◌+◌, ◌-◌, ◌≤◌, Bool, true, false, Some, None, length, map, string_bytes, subst, arith}
use Rattle.std.specs.Prelude.{MatchOption, ⊤, if◌then◌else◌, List}
use Rattle.script_argv.specs.declared.command.Command.{Command}
use Rattle.script_argv.specs.Words.{NamedPaths, asked_by as asked_of, command_in, slots_for, told_by}
use Rattle.script_argv.specs.Words.Asked.{Run}
use Rattle.script_argv.proofs.Slots.{asked_few}
use Rattle.run_command.proofs.words.backup_of.Goals as goal

-- a run with a backup has a slot at least
some_backed : (words : List (List ℕ)) (paths : NamedPaths) → command_in words ≡ Some (Run paths) → paths.has_backup ≡ true → 1 ≤ length paths.slots
some_backed words paths asked backed = by_backup paths.has_backup backed (asked_few words (Run paths) asked).last
  where
    by_backup : (b : Bool) → b ≡ true → MatchOption (if b then Some (length paths.slots - 1) else None) ⊤ (λ slot. slot + 1 ≡ length paths.slots) → 1 ≤ length paths.slots
    by_backup true is last = omega (arith, last)
    by_backup false is last = absurd (cc)

pub overflow_sub-result : goal.overflow_sub-result
overflow_sub-result g c =
    let words = map string_bytes c.args.words.now in
    let asked = subst (λ (command : Command). command_in words ≡ Some (asked_of command)) c.in-Run.is c.requires.asked in
    let slots = subst (λ (command : Command). (g.B.Bank.given c.args.bank.now).slots ≡ slots_for (asked_of command)) c.in-Run.is c.requires.slots in
    let some = some_backed words (told_by c.in-Run.paths) asked c.if-paths.true in
    let are = c.slots.ensures in omega (arith, some, slots, are)

pub returns-then-paths-clause-fits : goal.returns-then-paths-clause-fits
returns-then-paths-clause-fits g c =
    let words = map string_bytes c.args.words.now in
    let asked = subst (λ (command : Command). command_in words ≡ Some (asked_of command)) c.in-Run.is c.requires.asked in
    let slots = subst (λ (command : Command). (g.B.Bank.given c.args.bank.now).slots ≡ slots_for (asked_of command)) c.in-Run.is c.requires.slots in
    let some = some_backed words (told_by c.in-Run.paths) asked c.if-paths.true in
    let few = (asked_few words (Run (told_by c.in-Run.paths)) asked).few in
    let are = c.slots.ensures in record { few = omega (arith, few, slots); last = omega (arith, some, slots, are) }
