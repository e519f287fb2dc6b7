use Rattle.std.proofs.Common.{◌≡◌, Bool, true, false, if◌then◌else◌, is_some, sym, ap, ◌∙◌, subst}
use Rattle.std.specs.Map.{set_value}
use Rattle.lru.specs.LruCache.{lru_cache, promoted}
use Rattle.raid_types.specs.Sectors.{sectors_of}
use Rattle.stripe_cache.specs.Apart.{IsCache}
use Rattle.stripe_cache.specs.Rows.{Rows}
use Rattle.stripe_cache.specs.View.{rows_of}
use Rattle.stripe_cache.proofs.Laws.{IsCache-kept}
use Rattle.stripe_cache.proofs.Views.{same_key, found_in, none_in, found_length, replaced_in}
use Rattle.stripe_cache.proofs.cache.Cache.replace.Goals as goal
use Rattle.stripe_cache.proofs.cache.Cache.replace.Goals.{in-Some, in-None}

at_true : (b : Bool) (now x y : Rows) → b ≡ true → now ≡ x → now ≡ (if b then x else y)
at_true b now x y e f = rw e f

at_false : (b : Bool) (now x y : Rows) → b ≡ false → now ≡ y → now ≡ (if b then x else y)
at_false b now x y e f = rw e f

pub replace-requires : goal.replace-requires
replace-requires c =
    found_length c.args.side c.args.row c.args.self.now c.in-Some.held.now _
    (found_in c.args.side c.args.row c.of.result c.self.inside.rows.entries c.self.inside.rows.cap c.args.self.now c.of.ensures c.self.view_is c.in-Some.held.now (sym c.in-Some.ensures.value))
    c.requires

pub returns-clause-found : goal.returns-clause-found
returns-clause-found c = elim c.match-get_mut.branch [
  | in-Some w ↦ w.result-is ∙ sym (ap (λ o. is_some o)
      (found_in c.args.side c.args.row c.of.result c.self.inside.rows.entries c.self.inside.rows.cap c.args.self.now c.of.ensures c.self.view_is w.in-Some.held.now (sym w.in-Some.ensures.value)).is)
  | in-None w ↦ w.result-is ∙ sym (ap (λ o. is_some o)
      (none_in c.args.side c.args.row c.of.result c.self.inside.rows.entries c.self.inside.rows.cap c.args.self.now c.of.ensures c.self.view_is (sym w.in-None.ensures.value)))
]

pub returns-clause-rows : goal.returns-clause-rows
returns-clause-rows c = elim c.match-get_mut.branch [
  | in-Some w ↦
      let h : c.match-get_mut.self-inside.rows ≡ lru_cache (set_value (same_key c.of.result) (promoted (same_key c.of.result) c.self.inside.rows.entries) w.replace.new.self) c.self.inside.rows.cap =
      ap (λ i. i.rows) w.self-inside-is in
      at_true c.match-get_mut.result _ _ _ w.result-is
      (replaced_in c.args.side c.args.row c.args.changed (sectors_of c.args.from.now) c.of.result c.self.inside.rows c.args.self.now c.of.ensures c.self.view_is
      w.in-Some.held.now w.replace.new.self (sym w.in-Some.ensures.value) w.replace.ensures c.match-get_mut.self-inside.rows h)
  | in-None w ↦
      let h : c.match-get_mut.self-inside.rows ≡ c.self.inside.rows = ap (λ i. i.rows) w.self-inside-is in
      at_false c.match-get_mut.result _ _ _ w.result-is (ap (λ r. rows_of r.entries r.cap) h ∙ c.self.view_is)
]

pub returns-clause-cache : goal.returns-clause-cache
returns-clause-cache c = elim c.match-get_mut.branch [
  | in-Some w ↦
      let h : c.match-get_mut.self-inside.rows ≡ lru_cache (set_value (same_key c.of.result) (promoted (same_key c.of.result) c.self.inside.rows.entries) w.replace.new.self) c.self.inside.rows.cap =
      ap (λ i. i.rows) w.self-inside-is in
      subst IsCache
      (sym (replaced_in c.args.side c.args.row c.args.changed (sectors_of c.args.from.now) c.of.result c.self.inside.rows c.args.self.now c.of.ensures c.self.view_is
      w.in-Some.held.now w.replace.new.self (sym w.in-Some.ensures.value) w.replace.ensures c.match-get_mut.self-inside.rows h))
      (IsCache-kept (record { side = c.args.side; row = c.args.row; body = sectors_of c.args.from.now; changed = c.args.changed }) c.args.self.now (subst IsCache c.self.view_is c.self.invariant))
  | in-None w ↦
      let h : c.match-get_mut.self-inside.rows ≡ c.self.inside.rows = ap (λ i. i.rows) w.self-inside-is in
      subst IsCache (sym (ap (λ r. rows_of r.entries r.cap) h)) c.self.invariant
]

pub invariant_of-self : goal.invariant_of-self
invariant_of-self c = elim c.match-get_mut.branch [
  | in-Some w ↦
      let h : c.match-get_mut.self-inside.rows ≡ lru_cache (set_value (same_key c.of.result) (promoted (same_key c.of.result) c.self.inside.rows.entries) w.replace.new.self) c.self.inside.rows.cap =
      ap (λ i. i.rows) w.self-inside-is in
      subst IsCache
      (sym (replaced_in c.args.side c.args.row c.args.changed (sectors_of c.args.from.now) c.of.result c.self.inside.rows c.args.self.now c.of.ensures c.self.view_is
      w.in-Some.held.now w.replace.new.self (sym w.in-Some.ensures.value) w.replace.ensures c.match-get_mut.self-inside.rows h))
      (IsCache-kept (record { side = c.args.side; row = c.args.row; body = sectors_of c.args.from.now; changed = c.args.changed }) c.args.self.now (subst IsCache c.self.view_is c.self.invariant))
  | in-None w ↦
      let h : c.match-get_mut.self-inside.rows ≡ c.self.inside.rows = ap (λ i. i.rows) w.self-inside-is in
      subst IsCache (sym (ap (λ r. rows_of r.entries r.cap) h)) c.self.invariant
]
