use Rattle.std.proofs.Common.{◌≡◌, ℕ, List, is_some, None, MatchOption, sym, ap, ◌∙◌, subst}
use Rattle.raid_types.specs.Sectors.{sectors_of}
use Rattle.raid_types.specs.declared.places.Side.{Side}
use Rattle.stripe_cache.specs.HeldRow.{HeldRow}
use Rattle.stripe_cache.specs.Apart.{IsCache}
use Rattle.stripe_cache.specs.Rows.{Rows, held_row, used}
use Rattle.stripe_cache.specs.View.{rows_of}
use Rattle.stripe_cache.proofs.Laws.{IsCache-used}
use Rattle.stripe_cache.proofs.Views.{IsFound, found_in, none_in, used_in, found_length}
use Rattle.stripe_cache.proofs.cache.Cache.look.Goals as goal
use Rattle.stripe_cache.proofs.cache.Cache.look.Goals.{in-Some, in-None}

-- what is said of the row at hand
found_body : (side : Side) (row : ℕ) (rows : Rows) (held : HeldRow) (old new : List ℕ) → IsFound side row rows held → sectors_of new ≡ held.body
    → MatchOption (held_row side row rows) (new ≡ old) (λ cached. sectors_of new ≡ cached.body)
found_body side row rows held old new found e =
    subst (λ o. MatchOption o (new ≡ old) (λ cached. sectors_of new ≡ cached.body)) (sym found.is) (e ∙ sym found.body)

none_body : (side : Side) (row : ℕ) (rows : Rows) (old new : List ℕ) → held_row side row rows ≡ None → new ≡ old
    → MatchOption (held_row side row rows) (new ≡ old) (λ cached. sectors_of new ≡ cached.body)
none_body side row rows old new none e = subst (λ o. MatchOption o (new ≡ old) (λ cached. sectors_of new ≡ cached.body)) (sym none) e

pub copy_to-requires : goal.copy_to-requires
copy_to-requires c =
    found_length c.args.side c.args.row c.args.self.now c.in-Some.held.now _
    (found_in c.args.side c.args.row c.of.result c.self.inside.rows.entries c.self.inside.rows.cap c.args.self.now c.of.ensures c.self.view_is c.in-Some.held.now (sym c.in-Some.ensures.value))
    c.requires

pub returns-clause-found : goal.returns-clause-found
returns-clause-found c = elim c.match-get.branch [
  | in-Some w ↦ w.result-is ∙ sym (ap (λ o. is_some o)
      (found_in c.args.side c.args.row c.of.result c.self.inside.rows.entries c.self.inside.rows.cap c.args.self.now c.of.ensures c.self.view_is w.in-Some.held.now (sym w.in-Some.ensures.value)).is)
  | in-None w ↦ w.result-is ∙ sym (ap (λ o. is_some o)
      (none_in c.args.side c.args.row c.of.result c.self.inside.rows.entries c.self.inside.rows.cap c.args.self.now c.of.ensures c.self.view_is (sym w.in-None.ensures.value)))
]

pub returns-clause-body : goal.returns-clause-body
returns-clause-body c = elim c.match-get.branch [
  | in-Some w ↦ found_body c.args.side c.args.row c.args.self.now w.in-Some.held.now c.args.into.now c.match-get.into
      (found_in c.args.side c.args.row c.of.result c.self.inside.rows.entries c.self.inside.rows.cap c.args.self.now c.of.ensures c.self.view_is w.in-Some.held.now (sym w.in-Some.ensures.value))
      (ap sectors_of w.into-is ∙ w.copy_to.ensures)
  | in-None w ↦ none_body c.args.side c.args.row c.args.self.now c.args.into.now c.match-get.into
      (none_in c.args.side c.args.row c.of.result c.self.inside.rows.entries c.self.inside.rows.cap c.args.self.now c.of.ensures c.self.view_is (sym w.in-None.ensures.value))
      w.into-is
]

pub returns-clause-rows : goal.returns-clause-rows
returns-clause-rows c =
    let moved : rows_of c.get.follows.lender-at-none.entries c.get.follows.lender-at-none.cap ≡ used c.args.side c.args.row c.args.self.now =
    used_in c.args.side c.args.row c.of.result c.self.inside.rows.entries c.self.inside.rows.cap c.args.self.now c.of.ensures c.self.view_is
    c.get.follows.lender-at-none c.get.follows.holds-at-none in
    elim c.match-get.branch [
      | in-Some w ↦ ap (λ inside. rows_of inside.rows.entries inside.rows.cap) w.self-inside-is ∙ moved
      | in-None w ↦ ap (λ inside. rows_of inside.rows.entries inside.rows.cap) w.self-inside-is ∙ moved
    ]

pub returns-clause-cache : goal.returns-clause-cache
returns-clause-cache c =
    subst IsCache (sym (returns-clause-rows c)) (IsCache-used c.args.side c.args.row c.args.self.now (subst IsCache c.self.view_is c.self.invariant))

pub invariant_of-self : goal.invariant_of-self
invariant_of-self c =
    subst IsCache (sym (returns-clause-rows c)) (IsCache-used c.args.side c.args.row c.args.self.now (subst IsCache c.self.view_is c.self.invariant))
