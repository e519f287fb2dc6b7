use Rattle.std.proofs.Common.{◌≡◌, Option, Some, None, sym, ap, subst, ◌∙◌}
use Rattle.stripe_cache.specs.declared.key.Key.{Key}
use Rattle.stripe_cache.specs.HeldRow.{HeldRow}
use Rattle.stripe_cache.specs.Apart.{IsCache}
use Rattle.stripe_cache.specs.Rows.{Rows, is_meant, without}
use Rattle.stripe_cache.specs.View.{cached_of, rows_of}
use Rattle.stripe_cache.proofs.Laws.{IsCache-without}
use Rattle.stripe_cache.proofs.Views.{IsTaken, taken, untaken}
use Rattle.stripe_cache.proofs.cache.Cache.take.Goals as goal

never : (e : Key × HeldRow) (o : Option (Key × HeldRow)) → o ≡ Some e → o ≡ None → ⊥
never e o f g = absurd (cc)

same_entry : (d e : Key × HeldRow) → Some d ≡ Some e → d ≡ e
same_entry d e h = cc

pub returns-in_err-key-clause-rows : goal.returns-in_err-key-clause-rows
returns-in_err-key-clause-rows c = (untaken (is_meant c.args.which) c.args.self.now (sym c.first.ensures ∙ c.in_err-key.was)).1

pub returns-in_err-key-2-clause-row : goal.returns-in_err-key-2-clause-row
returns-in_err-key-2-clause-row c =
    let at_hand : IsTaken (is_meant c.args.which) c.in_ok-key.key c.self.inside.rows c.args.self.now =
    taken (is_meant c.args.which) c.in_ok-key.key c.self.inside.rows c.args.self.now c.self.view_is c.len.ensures.valid.0 (sym c.in_ok-key.was ∙ c.first.ensures) in
    absurd (never at_hand.entry c.pop_entry.result (c.pop_entry.ensures.value ∙ at_hand.found) c.in_err-key-2.was)

pub returns-in_err-key-2-clause-rows : goal.returns-in_err-key-2-clause-rows
returns-in_err-key-2-clause-rows c =
    let at_hand : IsTaken (is_meant c.args.which) c.in_ok-key.key c.self.inside.rows c.args.self.now =
    taken (is_meant c.args.which) c.in_ok-key.key c.self.inside.rows c.args.self.now c.self.view_is c.len.ensures.valid.0 (sym c.in_ok-key.was ∙ c.first.ensures) in
    absurd (never at_hand.entry c.pop_entry.result (c.pop_entry.ensures.value ∙ at_hand.found) c.in_err-key-2.was)

pub returns-in_err-key-2-clause-cache : goal.returns-in_err-key-2-clause-cache
returns-in_err-key-2-clause-cache c =
    let at_hand : IsTaken (is_meant c.args.which) c.in_ok-key.key c.self.inside.rows c.args.self.now =
    taken (is_meant c.args.which) c.in_ok-key.key c.self.inside.rows c.args.self.now c.self.view_is c.len.ensures.valid.0 (sym c.in_ok-key.was ∙ c.first.ensures) in
    absurd (never at_hand.entry c.pop_entry.result (c.pop_entry.ensures.value ∙ at_hand.found) c.in_err-key-2.was)

pub invariant_of-self : goal.invariant_of-self
invariant_of-self c =
    let at_hand : IsTaken (is_meant c.args.which) c.in_ok-key.key c.self.inside.rows c.args.self.now =
    taken (is_meant c.args.which) c.in_ok-key.key c.self.inside.rows c.args.self.now c.self.view_is c.len.ensures.valid.0 (sym c.in_ok-key.was ∙ c.first.ensures) in
    absurd (never at_hand.entry c.pop_entry.result (c.pop_entry.ensures.value ∙ at_hand.found) c.in_err-key-2.was)

module _ (c : goal.After-cached) where
  at_hand : IsTaken (is_meant c.args.which) c.in_ok-key.key c.self.inside.rows c.args.self.now
  at_hand = taken (is_meant c.args.which) c.in_ok-key.key c.self.inside.rows c.args.self.now c.self.view_is c.len.ensures.valid.0 (sym c.in_ok-key.was ∙ c.first.ensures)

pub returns-clause-row : goal.returns-clause-row
returns-clause-row c =
    ap (λ row. Some row) (c.cached.ensures ∙ ap cached_of (same_entry _ (at_hand c).entry (c.in_ok-key-2.ensures.value ∙ (at_hand c).found))) ∙ sym (at_hand c).row

pub returns-clause-rows : goal.returns-clause-rows
returns-clause-rows c = ap (λ r. rows_of r.entries r.cap) c.pop_entry.ensures.entries ∙ (at_hand c).rest

kept-cache : (c : goal.After-cached) → IsCache (rows_of c.pop_entry.new.self.entries c.pop_entry.new.self.cap)
kept-cache c =
    subst IsCache (sym (ap (λ r. rows_of r.entries r.cap) c.pop_entry.ensures.entries ∙ (at_hand c).rest))
    (IsCache-without (is_meant c.args.which) c.args.self.now (subst IsCache c.self.view_is c.self.invariant))

pub returns-clause-cache : goal.returns-clause-cache
returns-clause-cache c = kept-cache c

pub invariant_of-self-2 : goal.invariant_of-self-2
invariant_of-self-2 c = kept-cache c
