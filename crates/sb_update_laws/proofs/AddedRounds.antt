-- A whole update that makes a slot a spare, by what images read.
use Rattle.std.proofs.Common.{◌≡◌, ◌⊎◌, inl, inr, ⊎_elim, ℕ, zero, suc, ◌+◌, ◌^◌, ◌<◌, true, false, List, Option, sym, ◌∙◌, ap, subst, arith}
use Rattle.sb_read_laws.specs.raid_types_Sectors.{Sector}
use Rattle.sb_read_laws.specs.raid_types_Shapes.{has_slot}
use Rattle.sb_read_laws.specs.sb_codec_the_Sb.{Sb}
use Rattle.sb_read_laws.specs.bank_Tape.{Contents, IsIn}
use Rattle.sb_read_laws.specs.sb_specs_the_Give.{Give}
use Rattle.sb_read_laws.specs.sb_specs_the_Change.{Change}
use Rattle.sb_read_laws.specs.sb_specs_the_Members.{Members}
use Rattle.sb_read_laws.specs.sb_specs_Reading.{Scope}
use Rattle.sb_read_laws.specs.sb_specs_Held.{AreDrawn}
use Rattle.sb_read_laws.specs.sb_specs_Rounds.{Round, naming, first_newest, IsRewriting, IsRewritten, IsNaming, AreNamings, IsInNaming, IsCaughtUpTo, IsFirstRewriting, IsFirstRewritten, IsInFirst, IsPastFirst, members_at}
use Rattle.sb_read_laws.specs.sb_specs_Crash.{IsWithin}
use Rattle.sb_read_laws.specs.sb_specs_Adding.{IsReadAsPlannedBut, IsReadInAdding, IsReadyToAdd}
use Rattle.sb_read_laws.proofs.sb_specs_ReadLists.{by_bool}
use Rattle.sb_read_laws.proofs.sb_specs_UpdateReads.{some-or-all}
use Rattle.sb_read_laws.proofs.RoundReads.{IsAt, naming-reads, naming-end}
use Rattle.sb_update_laws.proofs.AddedReads.{added-fit, added-first, added-end}

abbrev Disk : Type 0
Disk = ℕ → ℕ → List Sector

-- more slots may be unnamed, and more lost at the end
less-named : (scope : Scope) (members : Members) (change : Change) (before live last last' : ℕ) (P Q : ℕ → Type 0) (c : Contents) → ((s : ℕ) → P s → Q s) → IsWithin last last'
    → IsReadAsPlannedBut scope members change before live last P c → IsReadAsPlannedBut scope members change before live last' Q c
less-named scope members change before live last last' P Q c more grown r = record {
  newest = r.newest;
  named = r.named;
  gone = r.gone;
  lost = r.lost;
  left = r.left;
  own = r.own;
  are = r.are;
  more = r.more;
  named_gone = r.named_gone;
  unnamed = λ s is. ⊎_elim (λ n. inl n) (λ p. inr (more s p)) (r.unnamed s is);
  grown = r.grown;
  within = λ s is. grown s (r.within s is);
  later = r.later;
  plan = r.plan;
  table = r.table;
  kept = r.kept;
  reads = r.reads;
}

-- more are lost at the end
pub wider : (scope : Scope) (known : ℕ) (members : Members) (change : Change) (before live slot : ℕ) (d : Disk) (P : ℕ → Type 0) (last last' : ℕ) (c : Contents) → IsWithin last last'
    → IsReadInAdding scope known members change before live last slot d P c → IsReadInAdding scope known members change before live last' slot d P c
wider scope known members change before live slot d P last last' c grown r =
    ⊎_elim (λ b. inl b) (λ p. inr (less-named scope members change before live last last' P P c (λ s q. q) grown p)) r

module _ (scope : Scope) (members : Members) (change : Change) (before live known left0 lost0 slot : ℕ) (d : Disk) (ready : IsReadyToAdd scope known left0 lost0 members change live slot d) where
  there : (s : ℕ) → has_slot live s ≡ true → s < scope.sizes.slots
  there s is = (added-fit scope members change before live known left0 lost0 slot d ready).there s is

  first-reads : (mid : Round) → IsCaughtUpTo members.newest members.own live members.lost d mid → (e : Disk) (c : Contents)
      → IsFirstRewriting (first_newest members change before mid.lost members.newest) change.gives members.own live mid.lost mid.disk e → AreDrawn e c
      → IsReadInAdding scope known members change before live mid.lost slot d (λ s. (s ≡ slot) × IsIn (d slot 8) (c slot 8)) c
  first-reads mid caught e c f drawn = added-first scope members change before live known left0 lost0 slot d ready mid caught e c f drawn

  unnamed : (last : ℕ) (c : Contents) → IsReadInAdding scope known members change before live last slot d (λ s. (s ≡ slot) × IsIn (d slot 8) (c slot 8)) c
      → IsReadInAdding scope known members change before live last slot d (λ s. s ≡ slot) c
  unnamed last c r = ⊎_elim (λ b. inl b) (λ p. inr (less-named scope members change before live last last (λ s. (s ≡ slot) × IsIn (d slot 8) (c slot 8)) (λ s. s ≡ slot) c (λ s q. q.0) (λ s is. is) p)) r

  later : (last last' : ℕ) (c : Contents) → IsWithin last last' → IsReadInAdding scope known members change before live last slot d (λ s. s ≡ slot) c
      → IsReadInAdding scope known members change before live last' slot d (λ s. s ≡ slot) c
  later last last' c grown r = wider scope known members change before live slot d (λ s. s ≡ slot) last last' c grown r

  -- no live slot is left, and each image reads so
  abbrev Dead : Round → Type 0
  Dead b = ((s : ℕ) → has_slot live s ≡ true → has_slot b.lost s ≡ false → ⊥)
      × ((c : Contents) → AreDrawn b.disk c → IsReadInAdding scope known members change before live b.lost slot d (λ s. s ≡ slot) c)

  abbrev State : ℕ → Round → Type 0
  State n b = IsAt scope members change before live (λ s. s ≡ slot) n b ⊎ Dead b

  some_left : (lost : ℕ) → ((s : ℕ) × (has_slot live s ≡ true) × (has_slot lost s ≡ false)) ⊎ ((s : ℕ) → has_slot live s ≡ true → has_slot lost s ≡ false → ⊥)
  some_left lost = ⊎_elim (λ found. inl (found.0, found.2.0, found.2.1)) (λ all. inr (λ s is none. all s (there s is) is none))
      (some-or-all scope.sizes.slots (λ s. has_slot live s ≡ true → has_slot lost s ≡ false → ⊥) (λ s. (has_slot live s ≡ true) × (has_slot lost s ≡ false)) (λ s h. ⊎_elim
      (λ is. ⊎_elim (λ gone. inl (λ is' none. absurd (let both = sym gone ∙ none in cc))) (λ none. inr (is, none)) (by_bool (has_slot lost s)))
      (λ not_live. inl (λ is' none. absurd (let both = sym is' ∙ not_live in cc))) (by_bool (has_slot live s))))

  -- what is read of fewer values
  fewer : (newest : Sb) (gives : List Give) (own : List (Option Sb)) (lost : ℕ) (a e : Disk) (c : Contents) → ((s : ℕ) → has_slot live s ≡ true → has_slot lost s ≡ false → ⊥)
      → IsRewriting newest gives own live lost a e → AreDrawn e c → AreDrawn a c
  fewer newest gives own lost a e c none stage drawn s =
      (⊎_elim (λ was. was) (λ w. absurd (none s w.0 w.1)) (stage.values s (c s 8) (drawn s).0), stage.ninth s (c s 9) (drawn s).1)

  first-state : (mid first : Round) → IsCaughtUpTo members.newest members.own live members.lost d mid → IsFirstRewritten members change before live mid first → State 0 first
  first-state mid first caught over =
      let eq : first.newest ≡ first_newest members change before mid.lost members.newest = over.newest ∙ ap (first_newest members change before mid.lost) caught.newest in
      let written = subst (λ (n : Sb). IsRewritten n change.gives members.own live mid.lost first.lost mid.disk first.disk) eq over.written in
      let stage = subst (λ (n : Sb). IsFirstRewriting n change.gives members.own live mid.lost mid.disk first.disk) eq over.stage in
      let same : record { newest = first_newest members change before mid.lost members.newest; lost = first.lost; disk = first.disk } ≡ first = (λ i. record { newest = sym eq i; lost = first.lost; disk = first.disk }) in
      ⊎_elim
      (λ some. inl (subst (IsAt scope members change before live (λ s. s ≡ slot) 0) same
      (added-end scope members change before live known left0 lost0 slot d ready mid caught first.lost first.disk written stage over.kept some)))
      (λ none. inr (none, λ c drawn. later mid.lost first.lost c over.written.more (unnamed mid.lost c (first-reads mid caught first.disk c stage drawn))))
      (some_left first.lost)

  naming-state : (n : ℕ) (a b : Round) → members.newest.events + 2 + n < 2 ^ 62 → State n a → IsNaming members change before live a b → State (suc n) b
  naming-state n a b small (inl at) next =
      let written = subst (λ (m : Sb). IsRewritten m change.gives members.own live a.lost b.lost a.disk b.disk) next.newest next.written in
      let same : record { newest = naming members change before a.lost a.newest; lost = b.lost; disk = b.disk } ≡ b = (λ i. record { newest = sym next.newest i; lost = b.lost; disk = b.disk }) in
      let fit = added-fit scope members change before live known left0 lost0 slot d ready in
      ⊎_elim
      (λ some. inl (subst (IsAt scope members change before live (λ s. s ≡ slot) (suc n)) same
      (naming-end scope members change before live known left0 (λ s. s ≡ slot) fit n a at small b.lost b.disk written some)))
      (λ none. inr (none, λ c drawn. later a.lost b.lost c next.written.more (inr (naming-reads scope members change before live known left0 (λ s. s ≡ slot) fit n a at small b.disk c written.stage drawn))))
      (some_left b.lost)
  naming-state n a b small (inr dead) next = inr (
    (λ s is none. dead.0 s is (unlost s none)),
    (λ c drawn. later a.lost b.lost c next.written.more (dead.1 c (fewer b.newest change.gives members.own a.lost a.disk b.disk c dead.0 next.written.stage drawn))),
  )
    where
      unlost : (s : ℕ) → has_slot b.lost s ≡ false → has_slot a.lost s ≡ false
      unlost s none = ⊎_elim (λ is. absurd (let both = sym (next.written.more s is) ∙ none in cc)) (λ is. is) (by_bool (has_slot a.lost s))

  namings-state : (n : ℕ) (first a b : Round) → members.newest.events + 1 + n < 2 ^ 62 → State 0 a → AreNamings (members_at members first) change before live n a b → State n b
  unfolding AreNamings
  namings-state zero first a b small state same = subst (State 0) same state
  namings-state (suc n) first a b small state (mid, over, next) =
      naming-state n mid b (omega (arith, small)) (namings-state n first a mid (omega (arith, small)) state over) (record { newest = next.newest; written = next.written })

  pub rounds-read : (first : Round) (e : Disk) (c : Contents) → IsPastFirst members change before live d first → (at : IsInNaming (members_at members first) change before live first e)
      → members.newest.events + 2 + at.rounds < 2 ^ 62 → AreDrawn e c → IsReadInAdding scope known members change before live at.start.lost slot d (λ s. s ≡ slot) c
  rounds-read first e c past at small drawn = ⊎_elim
      (λ state. inr (naming-reads scope members change before live known left0 (λ s. s ≡ slot) (added-fit scope members change before live known left0 lost0 slot d ready) at.rounds at.start state small e c at.stage drawn))
      (λ dead. dead.1 c (fewer (naming members change before at.start.lost at.start.newest) change.gives members.own at.start.lost at.start.disk e c dead.0 at.stage drawn))
      (namings-state at.rounds first first at.start (omega (arith, small)) (first-state past.mid first past.caught past.written) at.over)

  pub rounds-end : (first last : Round) (n : ℕ) → IsPastFirst members change before live d first → AreNamings (members_at members first) change before live n first last → members.newest.events + 1 + n < 2 ^ 62
      → (s : ℕ) × (has_slot live s ≡ true) × (has_slot last.lost s ≡ false) → IsAt scope members change before live (λ s. s ≡ slot) n last
  rounds-end first last n past over small some = ⊎_elim (λ state. state) (λ dead. absurd (dead.0 some.0 some.1 some.2))
      (namings-state n first first last small (first-state past.mid first past.caught past.written) over)

  pub in-first-reads : (e : Disk) (c : Contents) (at : IsInFirst members change before live d e) → AreDrawn e c
      → IsReadInAdding scope known members change before live at.mid.lost slot d (λ s. (s ≡ slot) × IsIn (d slot 8) (c slot 8)) c
  in-first-reads e c at drawn = first-reads at.mid at.caught e c
      (subst (λ (n : Sb). IsFirstRewriting (first_newest members change before at.mid.lost n) change.gives members.own live at.mid.lost at.mid.disk e) at.caught.newest at.stage) drawn
