use Rattle.std.proofs.Common.{◌≡◌, ℕ, List, ◌++◌, take, drop, map, ◌∙◌, ap, sym, subst, arith}
use Rattle.sb_specs.specs.Update.{with_entries, with_entry, entry_for, faulty_role, own_in}
use Rattle.sb_specs.proofs.RoleTables.{entries-first, entries-more}
use Rattle.sb_specs.proofs.roles.entered.Goals as goal

pub loop-slot-init : goal.loop-slot-init
loop-slot-init c = c.clear_roles.ensures ∙ sym (entries-first _ c.args.members.now.own _)

pub loop-slot-preserved : goal.loop-slot-preserved
loop-slot-preserved c =
    let own = c.args.members.now.own in
    let slot = c.loop-slot.slot in
    c.enter.ensures
    ∙ ap (λ e. with_entry e (own_in own slot) c.loop-slot.entries) c.entry_for-entry.ensures.entry
    ∙ ap (λ (l : List ℕ). with_entry (entry_for c.args.members.now c.args.change.now c.args.before c.args.members.now.lost slot) (own_in own slot) l) c.loop-slot.invariant
    ∙ sym (entries-more _ own slot _)

pub returns : goal.returns
returns c =
    let all : c.loop-slot.slot ≡ 32 = omega arith in
    let members = c.args.members.now in
    subst (λ (n : ℕ). c.loop-slot.entries ≡ with_entries (entry_for members c.args.change.now c.args.before members.lost) members.own n
    (map faulty_role (take 128 members.newest.dev_roles) ++ drop 128 members.newest.dev_roles)) all c.loop-slot.invariant
