use Rattle.std.proofs.Common.{◌≡◌, Option, Some, None, MatchOption, option_map, sym, ap, ◌∙◌, subst}
use Rattle.raid_types.specs.Sectors.{sectors_of}
use Rattle.stripe_cache.specs.declared.cached.Cached.{Cached}
use Rattle.stripe_cache.specs.declared.cached.Kept.{Kept}
use Rattle.stripe_cache.specs.declared.cached.Kept.TheVariants.{Here, Evicted}
use Rattle.stripe_cache.specs.Apart.{IsCache}
use Rattle.stripe_cache.specs.Rows.{Rows, kept, leaving, if_delayed}
use Rattle.stripe_cache.specs.View.{cached_of, rows_of}
use Rattle.stripe_cache.specs.Kept.{IsKept}
use Rattle.stripe_cache.proofs.Laws.{IsCache-kept}
use Rattle.stripe_cache.proofs.Views.{inserted_in, leaving_in}
use Rattle.stripe_cache.proofs.cache.Cache.insert.Goals as goal
use Rattle.stripe_cache.proofs.cache.Cache.insert.Goals.{in-Ok-push, in-Err-push}

answered : (cached : Cached) (old new : Rows) (answer : Kept) (o : Option Cached) → leaving cached old ≡ o → new ≡ kept cached old
    → MatchOption o (answer ≡ Here) (λ row. answer ≡ Evicted row) → IsKept cached old new answer
answered cached old new answer None gone now is = subst (λ a. IsKept cached old new a) (sym is) (now, gone)
answered cached old new answer (Some row) gone now is = subst (λ a. IsKept cached old new a) (sym is) (now, gone)

pub returns-clause-kept : goal.returns-clause-kept
returns-clause-kept c = elim c.match-push.branch [
  | in-Ok-push w ↦ answered (record { side = c.args.side; row = c.args.row; body = sectors_of c.args.from.now; changed = c.args.changed }) c.args.self.now _ c.match-push.result _
      (leaving_in c.args.side c.args.row c.args.changed (sectors_of c.args.from.now) c.of.result c.self.inside.rows c.args.self.now c.of.ensures c.self.view_is
      c.in-Ok.held c.requires.absent c.in-Ok.ensures w.in-Ok-push.gone w.in-Ok-push.ensures.old)
      (inserted_in c.args.side c.args.row c.args.changed (sectors_of c.args.from.now) c.of.result c.self.inside.rows c.args.self.now c.of.ensures c.self.view_is
      c.in-Ok.held c.requires.absent c.in-Ok.ensures c.push.new.self w.in-Ok-push.ensures.entries)
      (subst (λ a. MatchOption (if_delayed (option_map cached_of w.in-Ok-push.gone)) (a ≡ Here) (λ row. a ≡ Evicted row)) (sym w.result-is) w.without_entry.ensures)
  | in-Err-push w ↦ subst (λ a. IsKept (record { side = c.args.side; row = c.args.row; body = sectors_of c.args.from.now; changed = c.args.changed }) c.args.self.now
      (rows_of c.push.new.self.entries c.push.new.self.cap) a) (sym w.result-is)
      (ap (λ r. rows_of r.entries r.cap) w.in-Err-push.ensures.err ∙ c.self.view_is, c.requires.absent)
]

pub returns-clause-cache : goal.returns-clause-cache
returns-clause-cache c = elim c.match-push.branch [
  | in-Ok-push w ↦ subst IsCache
      (sym (inserted_in c.args.side c.args.row c.args.changed (sectors_of c.args.from.now) c.of.result c.self.inside.rows c.args.self.now c.of.ensures c.self.view_is
      c.in-Ok.held c.requires.absent c.in-Ok.ensures c.push.new.self w.in-Ok-push.ensures.entries))
      (IsCache-kept (record { side = c.args.side; row = c.args.row; body = sectors_of c.args.from.now; changed = c.args.changed }) c.args.self.now (subst IsCache c.self.view_is c.self.invariant))
  | in-Err-push w ↦ subst IsCache (sym (ap (λ r. rows_of r.entries r.cap) w.in-Err-push.ensures.err)) c.self.invariant
]

pub invariant_of-self : goal.invariant_of-self
invariant_of-self c = elim c.match-push.branch [
  | in-Ok-push w ↦ subst IsCache
      (sym (inserted_in c.args.side c.args.row c.args.changed (sectors_of c.args.from.now) c.of.result c.self.inside.rows c.args.self.now c.of.ensures c.self.view_is
      c.in-Ok.held c.requires.absent c.in-Ok.ensures c.push.new.self w.in-Ok-push.ensures.entries))
      (IsCache-kept (record { side = c.args.side; row = c.args.row; body = sectors_of c.args.from.now; changed = c.args.changed }) c.args.self.now (subst IsCache c.self.view_is c.self.invariant))
  | in-Err-push w ↦ subst IsCache (sym (ap (λ r. rows_of r.entries r.cap) w.in-Err-push.ensures.err)) c.self.invariant
]
