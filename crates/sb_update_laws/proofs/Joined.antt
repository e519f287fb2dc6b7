-- A whole update in turns, by what images read, whichever slots are lost in it.
use Rattle.std.proofs.Common.{◌≡◌, ◌≢◌, ◌⊎◌, inl, inr, ⊎_elim, ℕ, zero, suc, ◌+◌, ◌^◌, ◌<◌, ◌≤◌, ◌==◌, Bool, true, false, not, ◌&&◌, List, length, Option, refl, sym, ◌∙◌, ap, subst, arith}
use Rattle.std.proofs.lemmas.Bool.{cases_lt}
use Rattle.std.proofs.lemmas.List.{get_or_past}
use Rattle.std.proofs.lemmas.Nat.Bits.{bit_at_above}
use Rattle.sb_read_laws.specs.raid_types_Sectors.{Sector}
use Rattle.sb_read_laws.specs.raid_types_Shapes.{has_slot}
use Rattle.sb_read_laws.specs.sb_codec_the_Sb.{Sb}
use Rattle.sb_read_laws.specs.bank_Tape.{Contents, IsIn}
use Rattle.sb_read_laws.specs.sb_specs_the_Give.{Give}
use Rattle.sb_read_laws.specs.sb_specs_the_Give_TheVariants.{Same}
use Rattle.sb_read_laws.specs.sb_specs_the_Change.{Change}
use Rattle.sb_read_laws.specs.sb_specs_the_Members.{Members}
use Rattle.sb_read_laws.specs.sb_specs_Reading.{Scope}
use Rattle.sb_read_laws.specs.sb_specs_Update.{give_of, own_in, is_recovery}
use Rattle.sb_read_laws.specs.sb_specs_Writing.{IsPlanned}
use Rattle.sb_read_laws.specs.sb_specs_Updating.{planned_newest}
use Rattle.sb_read_laws.specs.sb_specs_Outcome.{set_of}
use Rattle.sb_read_laws.specs.sb_specs_Held.{AreDrawn}
use Rattle.sb_read_laws.specs.sb_specs_Rounds.{Round, naming, first_newest, IsRewriting, IsRewritten, IsNaming, AreNamings, IsInNaming, IsCaughtUpTo, IsFirstRewriting, members_at, IsReadInUpdate, IsReady}
use Rattle.sb_read_laws.specs.sb_specs_Losing.{AreRecoveriesOver, AreTakenInTurn, IsPastTurns, planned_at, IsTakingWithout}
use Rattle.sb_read_laws.specs.sb_specs_Updating.{AreRecoveriesKept}
use Rattle.sb_read_laws.specs.sb_specs_Crash.{IsWithin}
use Rattle.sb_read_laws.proofs.sb_specs_ReadLists.{by_bool}
use Rattle.sb_read_laws.proofs.sb_specs_Exact.{alone}
use Rattle.sb_read_laws.proofs.sb_specs_SlotSets.{same_set, set_of-below, set_of-past}
use Rattle.sb_read_laws.proofs.sb_specs_UpdateReads.{some-or-all}
use Rattle.sb_read_laws.proofs.RoundReads.{IsAt, left_set, fit-of, naming-reads, naming-end, all-named, wider}
use Rattle.sb_read_laws.proofs.RoundsRead.{more-held, first-reads, first-end}
use Rattle.sb_update_laws.proofs.NamedTwice.{named-twice}
use Rattle.sb_update_laws.proofs.Wide as wide
use Rattle.sb_update_laws.proofs.Lost as lost
use Rattle.sb_update_laws.proofs.Again.{again-reads, again-end}

abbrev Disk : Type 0
Disk = ℕ → ℕ → List Sector

-- ---- sets

below_pow : (n : ℕ) → n < 2 ^ n
below_pow zero = omega arith
below_pow (suc n) = omega (arith, below_pow n)

none_past : (set s : ℕ) → set ≤ s → has_slot set s ≡ false
none_past set s past = ap (λ (n : ℕ). n == 1) (bit_at_above set set s (below_pow set) past)

-- the slots of a set that pass a test
among : ℕ → (ℕ → Bool) → ℕ
among set test = set_of set (λ s. has_slot set s && test s)

among-is : (set : ℕ) (test : ℕ → Bool) (s : ℕ) → has_slot (among set test) s ≡ (has_slot set s && test s)
unfolding among
among-is set test s = elim (cases_lt s set) [
  | inl below ↦ set_of-below set (λ s. has_slot set s && test s) s below
  | inr past ↦ set_of-past set (λ s. has_slot set s && test s) s past ∙ ap (λ b. b && test s) (sym (none_past set s past))
]

and_left : (a b : Bool) → (a && b) ≡ true → a ≡ true
and_left true b is = refl
and_left false b is = is

and_right : (a b : Bool) → (a && b) ≡ true → b ≡ true
and_right true b is = is
and_right false b is = absurd (cc)

-- of a test of two: the first holds, and the second doesn't
apart_of : (a b : Bool) → not (a && not b) ≡ true → a ≡ true → b ≡ true
apart_of true true is yes_a = refl
apart_of true false is yes_a = absurd (cc)
apart_of false b is yes_a = absurd (cc)

both_of : (a b : Bool) → not (a && not b) ≡ false → (a ≡ true) × (b ≡ false)
both_of true false is = (refl, refl)
both_of true true is = absurd (cc)
both_of false b is = absurd (cc)

module _ (scope : Scope) (members : Members) (change : Change) (before live known left0 : ℕ) (d : Disk) (ready : IsReady scope known left0 members change live d)
    (first_lost : (s : ℕ) → has_slot before s ≡ true → has_slot members.lost s ≡ true) where
  abbrev Reads : ℕ → Contents → Type 0
  Reads last c = IsReadInUpdate scope known members change before live last c

  more-lost : (last last' : ℕ) (c : Contents) → IsWithin last last' → Reads last c → Reads last' c
  more-lost last last' c more r = wider scope known members change before live last last' c more r

  -- no live slot is left, and each image reads so
  abbrev Dead : Round → Type 0
  Dead b = ((s : ℕ) → has_slot live s ≡ true → has_slot b.lost s ≡ false → ⊥) × ((c : Contents) → AreDrawn b.disk c → Reads b.lost c)

  abbrev State : ℕ → Round → Type 0
  State n b = IsAt scope members change before live (λ s. ⊥) n b ⊎ Dead b

  some_left : (set : ℕ) → ((s : ℕ) × (has_slot live s ≡ true) × (has_slot set s ≡ false)) ⊎ ((s : ℕ) → has_slot live s ≡ true → has_slot set s ≡ false → ⊥)
  some_left set = ⊎_elim (λ found. inl (found.0, found.2.0, found.2.1)) (λ all. inr (λ s is none. all s (wide.there scope members change before live known left0 d ready s is) is none))
      (some-or-all scope.sizes.slots (λ s. has_slot live s ≡ true → has_slot set s ≡ false → ⊥) (λ s. (has_slot live s ≡ true) × (has_slot set s ≡ false)) (λ s h. ⊎_elim
      (λ is. ⊎_elim (λ gone. inl (λ is' none. absurd (let both = sym gone ∙ none in cc))) (λ none. inr (is, none)) (by_bool (has_slot set s)))
      (λ not_live. inl (λ is' none. absurd (let both = sym is' ∙ not_live in cc))) (by_bool (has_slot live s))))

  -- what is read of fewer values
  fewer : (newest : Sb) (gives : List Give) (own : List (Option Sb)) (set : ℕ) (a e : Disk) (c : Contents) → ((s : ℕ) → has_slot live s ≡ true → has_slot set s ≡ false → ⊥)
      → IsRewriting newest gives own live set a e → AreDrawn e c → AreDrawn a c
  fewer newest gives own set a e c none stage drawn s =
      (⊎_elim (λ was. was) (λ w. absurd (none s w.0 w.1)) (stage.values s (c s 8) (drawn s).0), stage.ninth s (c s 9) (drawn s).1)

  -- one more round that names the slots that were lost
  naming-state : (n : ℕ) (a b : Round) → members.newest.events + 2 + n < 2 ^ 62 → State n a → IsNaming members change before live a b → State (suc n) b
  naming-state n a b small (inl at) next =
      let written = subst (λ (m : Sb). IsRewritten m change.gives members.own live a.lost b.lost a.disk b.disk) next.newest next.written in
      let same : record { newest = naming members change before a.lost a.newest; lost = b.lost; disk = b.disk } ≡ b = (λ i. record { newest = sym next.newest i; lost = b.lost; disk = b.disk }) in
      ⊎_elim
      (λ some. inl (subst (IsAt scope members change before live (λ s. ⊥) (suc n)) same (naming-end scope members change before live known left0 (λ s. ⊥) (fit-of scope known left0 members change live d ready) n a at small b.lost b.disk written some)))
      (λ none. inr (
        none,
        λ c drawn. more-lost a.lost b.lost c next.written.more (inr (all-named scope members change before live a.lost c
            (naming-reads scope members change before live known left0 (λ s. ⊥) (fit-of scope known left0 members change live d ready) n a at small b.disk c written.stage drawn))),
      ))
      (some_left b.lost)
  naming-state n a b small (inr dead) next = inr (
    (λ s is none. dead.0 s is (wide.outside a.lost b.lost s (next.written.more s) none)),
    (λ c drawn. more-lost a.lost b.lost c next.written.more (dead.1 c (fewer b.newest change.gives members.own a.lost a.disk b.disk c dead.0 next.written.stage drawn))),
  )

  module _ (mid : Round) (caught : IsCaughtUpTo members.newest members.own live members.lost d mid) where
    same_mid : (s : ℕ) → has_slot mid.lost s ≡ true → has_slot mid.lost s ≡ true
    same_mid s is = is

    abbrev Newest : Sb
    Newest = first_newest members change before mid.lost members.newest

    abbrev Mid : Members
    Mid = planned_at members change before mid

    -- while the slots that get a recovery offset are written
    recoveries-read : (e : Disk) (c : Contents) → IsRewriting Newest change.gives members.own live mid.lost mid.disk e → ((s : ℕ) → is_recovery (give_of change.gives s) ≡ false → e s 8 ≡ mid.disk s 8)
        → AreDrawn e c → Reads mid.lost c
    recoveries-read e c stage others drawn = first-reads scope members change before live known left0 d ready mid caught e c
        (record { stage = stage; order = inl (λ s v none is_in. subst (λ (l : List Sector). IsIn l v) (others s none) is_in) }) drawn

    -- a slot that gets a recovery offset is live, where it isn't lost
    recovery_left : (s : ℕ) → has_slot mid.lost s ≡ false → is_recovery (give_of change.gives s) ≡ true → has_slot (left_set scope.sizes.slots live mid.lost) s ≡ true
    recovery_left s none r =
        let role = lost.role-of members.roles (give_of change.gives s) s r in
        wide.of_first scope members change before live known left0 d ready mid caught mid.lost same_mid s none
        (ready.fits.role s role.0 (wide.unlost scope members change before live known left0 d ready mid caught mid.lost same_mid s none) role.1)

    one_recovery : (s t : ℕ) → has_slot mid.lost s ≡ false → has_slot mid.lost t ≡ false → is_recovery (give_of change.gives s) ≡ true → is_recovery (give_of change.gives t) ≡ true → s ≡ t
    one_recovery s t none none' r r' =
        (wide.fits scope members change before live known left0 d ready mid caught mid.lost same_mid).one s t (recovery_left s none r) (recovery_left t none' r') r r'

    module _ (over : Round) (recoveries : AreRecoveriesOver Mid change before live mid.disk over) where
      -- what the others get names exactly those that were lost
      over-newest : over.newest ≡ first_newest members change before over.lost members.newest
      over-newest = ⊎_elim
          (λ none. none.1 ∙ ap (λ (l : ℕ). first_newest members change before l members.newest) (sym none.0))
          (λ named. named ∙ ap (λ (t : List ℕ). record (planned_newest change.shared members.newest) { dev_roles = t })
          (named-twice members change before mid.lost over.lost members.newest.dev_roles (λ s is. caught.more s (first_lost s is)) recoveries.more))
          recoveries.newest

      -- the slot that was lost then
      pub record IsLost : Type 0 where
        pub slot : ℕ
        pub is_gone : has_slot over.lost slot ≡ true
        pub was : has_slot mid.lost slot ≡ false
        pub recovery : is_recovery (give_of change.gives slot) ≡ true
        pub only : (s : ℕ) → s ≢ slot → has_slot over.lost s ≡ true → has_slot mid.lost s ≡ true

      who : (over.lost ≡ mid.lost) ⊎ IsLost
      who = ⊎_elim
          (λ found. inr (record {
            slot = found.0;
            is_gone = found.2.0;
            was = found.2.1;
            recovery = recoveries.who found.0 found.2.0 found.2.1;
            only = λ s differ is. ⊎_elim (λ there. there)
                (λ none. absurd (differ (one_recovery s found.0 none found.2.1 (recoveries.who s is none) (recoveries.who found.0 found.2.0 found.2.1)))) (by_bool (has_slot mid.lost s));
          }))
          (λ all. inl (same_set over.lost mid.lost (λ s. ⊎_elim
          (λ is. is ∙ sym (no_more all s is))
          (λ none. none ∙ sym (wide.outside mid.lost over.lost s (recoveries.more s) none)) (by_bool (has_slot over.lost s)))))
          (some-or-all (length change.gives) (λ s. has_slot over.lost s ≡ true → has_slot mid.lost s ≡ true) (λ s. (has_slot over.lost s ≡ true) × (has_slot mid.lost s ≡ false)) (λ s h. ⊎_elim
          (λ there. inl (λ is. there))
          (λ none. ⊎_elim (λ is. inr (is, none)) (λ not_lost. inl (λ is. absurd (let both = sym is ∙ not_lost in cc))) (by_bool (has_slot over.lost s)))
          (by_bool (has_slot mid.lost s))))
        where
          no_more : ((s : ℕ) → s < length change.gives → has_slot over.lost s ≡ true → has_slot mid.lost s ≡ true) → (s : ℕ) → has_slot over.lost s ≡ true → has_slot mid.lost s ≡ true
          no_more all s is = elim (cases_lt s (length change.gives)) [
            | inl below ↦ all s below is
            | inr past ↦ ⊎_elim (λ there. there)
                (λ none. absurd (let r = recoveries.who s is none in let no_give = ap is_recovery (get_or_past change.gives s Same past) in let both = sym r ∙ no_give in cc)) (by_bool (has_slot mid.lost s))
          ]

      module _ (e : Disk) (stage : IsRewriting over.newest change.gives members.own live over.lost over.disk e) (kept : AreRecoveriesKept change.gives over.disk e) where
        -- where none was lost
        module _ (same : over.lost ≡ mid.lost) where
          same_newest : over.newest ≡ Newest
          same_newest = over-newest ∙ ap (λ (l : ℕ). first_newest members change before l members.newest) same

          pub so_first : IsFirstRewriting Newest change.gives members.own live mid.lost mid.disk e
          so_first = record {
            stage = record {
              values = λ s v is_in. ⊎_elim (λ there. recoveries.stage.values s v there)
                  (λ w. inr (w.0, ap (λ (l : ℕ). has_slot l s) (sym same) ∙ w.1, subst (λ (n : Sb). IsPlanned n (give_of change.gives s) (own_in members.own s) v) same_newest w.2)) (stage.values s v is_in);
              ninth = λ s v is_in. recoveries.stage.ninth s v (stage.ninth s v is_in);
            };
            order = inr (λ s v is none r is_in.
                let p = recoveries.whole s is (ap (λ (l : ℕ). has_slot l s) same ∙ none) r in
                alone p.0 v (λ (x : Sector). IsPlanned Newest (give_of change.gives s) (own_in members.own s) x) p.1 (subst (λ (l : List Sector). IsIn l v) (kept s r ∙ p.2) is_in));
          }

        -- where one was
        pub so_taking : (x : IsLost) → IsTakingWithout Newest (first_newest members change before over.lost members.newest) change.gives members.own (left_set scope.sizes.slots live over.lost) x.slot mid.disk e
        so_taking x = lost.taking scope members change before live known left0 d ready mid caught over.lost x.slot recoveries.more x.only x.is_gone x.was x.recovery over.disk e
            recoveries.stage recoveries.others (subst (λ (n : Sb). IsRewriting n change.gives members.own live over.lost over.disk e) over-newest stage) kept

        pub others-read : (c : Contents) → AreDrawn e c → Reads over.lost c
        others-read c drawn = ⊎_elim
            (λ same. more-lost mid.lost over.lost c recoveries.more (first-reads scope members change before live known left0 d ready mid caught e c (so_first same) drawn))
            (λ x. lost.lost-reads scope members change before live known left0 d ready mid caught over.lost x.slot recoveries.more x.only x.is_gone x.was x.recovery e c (so_taking x) drawn)
            who

    pub turn-reads : (last : ℕ) (e : Disk) (c : Contents) → AreTakenInTurn Mid change before live last mid.disk e → AreDrawn e c → Reads last c
    turn-reads last e c (inl (within, stage, others)) drawn = more-lost mid.lost last c within (recoveries-read e c stage others drawn)
    turn-reads last e c (inr (over, within, recoveries, stage, kept)) drawn = more-lost over.lost last c within (others-read over recoveries e stage kept c drawn)

    -- ---- after the first round

    module _ (first : Round) (past : IsPastTurns Mid change before live mid.disk first) where
      -- what the slots hold that weren't lost
      module _ (same : past.over.lost ≡ mid.lost) where
        first_newest_is : first.newest ≡ Newest
        first_newest_is = past.newest ∙ same_newest past.over past.recoveries first.disk past.stage past.kept same

        -- a slot that was written with a recovery offset isn't counted as lost in this round
        counted : ℕ
        counted = among first.lost (λ s. not (is_recovery (give_of change.gives s) && not (has_slot past.over.lost s)))

        counted_is : (s : ℕ) → has_slot counted s ≡ (has_slot first.lost s && not (is_recovery (give_of change.gives s) && not (has_slot past.over.lost s)))
        unfolding counted
        counted_is s = among-is first.lost (λ s. not (is_recovery (give_of change.gives s) && not (has_slot past.over.lost s))) s

        counted_lost : (s : ℕ) → has_slot counted s ≡ true → has_slot first.lost s ≡ true
        counted_lost s is = and_left (has_slot first.lost s) (not (is_recovery (give_of change.gives s) && not (has_slot past.over.lost s))) (sym (counted_is s) ∙ is)

        -- a slot that gets a recovery offset, and wasn't lost before, holds it
        recovery_held : (s : ℕ) (v : Sector) → has_slot live s ≡ true → has_slot past.over.lost s ≡ false → is_recovery (give_of change.gives s) ≡ true → IsIn (first.disk s 8) v
            → IsPlanned Newest (give_of change.gives s) (own_in members.own s) v
        recovery_held s v is none r is_in =
            let p = past.recoveries.whole s is none r in
            alone p.0 v (λ (x : Sector). IsPlanned Newest (give_of change.gives s) (own_in members.own s) x) p.1 (subst (λ (l : List Sector). IsIn l v) (past.kept s r ∙ p.2) is_in)

        other_held : (s : ℕ) (v : Sector) → has_slot live s ≡ true → has_slot first.lost s ≡ false → is_recovery (give_of change.gives s) ≡ false → IsIn (first.disk s 8) v
            → IsPlanned Newest (give_of change.gives s) (own_in members.own s) v
        other_held s v is none r is_in =
            let p = past.whole s is none r in
            alone p.0 v (λ (x : Sector). IsPlanned Newest (give_of change.gives s) (own_in members.own s) x)
            (subst (λ (n : Sb). IsPlanned n (give_of change.gives s) (own_in members.own s) p.0) (same_newest past.over past.recoveries first.disk past.stage past.kept same) p.1)
            (subst (λ (l : List Sector). IsIn l v) p.2 is_in)

        counted_held : (s : ℕ) (v : Sector) → has_slot live s ≡ true → has_slot counted s ≡ false → IsIn (first.disk s 8) v → IsPlanned Newest (give_of change.gives s) (own_in members.own s) v
        counted_held s v is none is_in = ⊎_elim
            (λ gone.
            let b = both_of (is_recovery (give_of change.gives s)) (has_slot past.over.lost s)
            (ap (λ b. b && not (is_recovery (give_of change.gives s) && not (has_slot past.over.lost s))) (sym gone) ∙ sym (counted_is s) ∙ none) in
            recovery_held s v is b.1 b.0 is_in)
            (λ kept. ⊎_elim (λ r. recovery_held s v is (wide.outside past.over.lost first.lost s (past.more s) kept) r is_in) (λ r. other_held s v is kept r is_in) (by_bool (is_recovery (give_of change.gives s))))
            (by_bool (has_slot first.lost s))

        counted_more : (s : ℕ) → has_slot mid.lost s ≡ true → has_slot counted s ≡ true
        counted_more s is =
            let in_over : has_slot past.over.lost s ≡ true = ap (λ (l : ℕ). has_slot l s) same ∙ is in
            counted_is s ∙ (λ i. past.more s in_over i && not (is_recovery (give_of change.gives s) && not (in_over i))) ∙ drop_it (is_recovery (give_of change.gives s))
          where
            drop_it : (b : Bool) → (true && not (b && not true)) ≡ true
            drop_it true = refl
            drop_it false = refl

        counted_first : (s : ℕ) → is_recovery (give_of change.gives s) ≡ true → has_slot counted s ≡ true → has_slot mid.lost s ≡ true
        counted_first s r is = ap (λ (l : ℕ). has_slot l s) (sym same)
            ∙ apart_of (is_recovery (give_of change.gives s)) (has_slot past.over.lost s)
            (and_right (has_slot first.lost s) (not (is_recovery (give_of change.gives s) && not (has_slot past.over.lost s))) (sym (counted_is s) ∙ is)) r

        so_written : IsFirstRewriting Newest change.gives members.own live mid.lost mid.disk first.disk
        so_written = so_first past.over past.recoveries first.disk past.stage past.kept same

        counted-end : (s : ℕ) × (has_slot live s ≡ true) × (has_slot first.lost s ≡ false) → IsAt scope members change before live (λ s. ⊥) 0 (record { newest = Newest; lost = counted; disk = first.disk })
        counted-end some = first-end scope members change before live known left0 d ready mid caught counted first.disk
            (record { stage = so_written.stage; whole = counted_held; more = counted_more }) so_written counted_first
            (some.0, some.1, wide.outside counted first.lost some.0 (counted_lost some.0) some.2)

        lost-end : (s : ℕ) × (has_slot live s ≡ true) × (has_slot first.lost s ≡ false) → IsAt scope members change before live (λ s. ⊥) 0 (record { newest = Newest; lost = first.lost; disk = first.disk })
        lost-end some =
            let at = counted-end some in
            record {
              known = at.known;
              named = at.named;
              gone = at.gone;
              own = at.own;
              held = more-held scope at.known counted first.lost Newest at.own first.disk counted_lost at.held;
              level = λ s found is none m. at.level s found is (wide.outside counted first.lost s (counted_lost s) none) m;
              exact = λ s sb found is none own_is m. at.exact s sb found is (wide.outside counted first.lost s (counted_lost s) none) own_is m;
              are = at.are;
              more = at.more;
              named_gone = at.named_gone;
              unnamed = at.unnamed;
              grown = λ s is. counted_lost s (at.grown s is);
              later = at.later;
              plan = at.plan;
              own_is = at.own_is;
              own_was = at.own_was;
              events = at.events;
            }

        kept-state : State 0 first
        kept-state =
            let eq : record { newest = Newest; lost = first.lost; disk = first.disk } ≡ first = (λ i. record { newest = sym first_newest_is i; lost = first.lost; disk = first.disk }) in
            ⊎_elim
            (λ some. inl (subst (IsAt scope members change before live (λ s. ⊥) 0) eq (lost-end some)))
            (λ none. inr (none, λ c drawn. more-lost past.over.lost first.lost c past.more (others-read past.over past.recoveries first.disk past.stage past.kept c drawn)))
            (some_left first.lost)

      -- the slot was lost, and a live one is left
      pub record IsHalf : Type 0 where
        pub lost : IsLost past.over past.recoveries
        pub some : (s : ℕ) × (has_slot live s ≡ true) × (has_slot first.lost s ≡ false)

      first-state : State 0 first ⊎ IsHalf
      first-state = ⊎_elim
          (λ same. inl (kept-state same))
          (λ x. ⊎_elim (λ some. inr (record { lost = x; some = some }))
          (λ none. inl (inr (none, λ c drawn. more-lost past.over.lost first.lost c past.more (others-read past.over past.recoveries first.disk past.stage past.kept c drawn)))) (some_left first.lost))
          (who past.over past.recoveries)

      abbrev Named : Sb
      Named = first_newest members change before past.over.lost members.newest

      first_named : first.newest ≡ Named
      first_named = past.newest ∙ over-newest past.over past.recoveries

      -- the slots that are left hold what names it
      half_held : (x : IsLost past.over past.recoveries) (s : ℕ) (v : Sector) → has_slot live s ≡ true → has_slot first.lost s ≡ false → IsIn (first.disk s 8) v
          → IsPlanned Named (give_of change.gives s) (own_in members.own s) v
      half_held x s v is none is_in = ⊎_elim
          (λ r. absurd (
          let in_mid = wide.outside mid.lost past.over.lost s (past.recoveries.more s) (wide.outside past.over.lost first.lost s (past.more s) none) in
          let same = one_recovery s x.slot in_mid x.was r x.recovery in
          let there = past.more x.slot x.is_gone in
          let both = sym there ∙ ap (has_slot first.lost) (sym same) ∙ none in cc))
          (λ r.
          let p = past.whole s is none r in
          alone p.0 v (λ (y : Sector). IsPlanned Named (give_of change.gives s) (own_in members.own s) y)
          (subst (λ (n : Sb). IsPlanned n (give_of change.gives s) (own_in members.own s) p.0) (over-newest past.over past.recoveries) p.1)
          (subst (λ (l : List Sector). IsIn l v) p.2 is_in))
          (by_bool (is_recovery (give_of change.gives s)))

      -- the round that follows
      half-reads : IsHalf → members.newest.events + 2 < 2 ^ 62 → (e : Disk) (c : Contents)
          → IsRewriting (naming members change before first.lost first.newest) change.gives members.own live first.lost first.disk e → AreDrawn e c → Reads first.lost c
      half-reads h small e c stage drawn =
          let x = h.lost in
          again-reads scope members change before live known left0 d ready mid caught past.over.lost x.slot past.recoveries.more x.only x.is_gone x.was x.recovery
          first.lost first.disk (so_taking past.over past.recoveries first.disk past.stage past.kept x) (half_held x) past.more h.some small e c
          (subst (λ (n : Sb). IsRewriting (naming members change before first.lost n) change.gives members.own live first.lost first.disk e) first_named stage) drawn

      half-state : IsHalf → members.newest.events + 2 < 2 ^ 62 → (b : Round) → IsNaming members change before live first b → State 1 b
      half-state h small b next =
          let x = h.lost in
          let eq : b.newest ≡ naming members change before first.lost Named = next.newest ∙ ap (naming members change before first.lost) first_named in
          let written = subst (λ (n : Sb). IsRewritten n change.gives members.own live first.lost b.lost first.disk b.disk) eq next.written in
          let same : record { newest = naming members change before first.lost Named; lost = b.lost; disk = b.disk } ≡ b = (λ i. record { newest = sym eq i; lost = b.lost; disk = b.disk }) in
          ⊎_elim
          (λ some. inl (subst (IsAt scope members change before live (λ s. ⊥) 1) same
          (again-end scope members change before live known left0 d ready mid caught past.over.lost x.slot past.recoveries.more x.only x.is_gone x.was x.recovery
          first.lost first.disk (so_taking past.over past.recoveries first.disk past.stage past.kept x) (half_held x) past.more h.some small b.lost b.disk written some)))
          (λ none. inr (
            none,
            λ c drawn. more-lost first.lost b.lost c next.written.more
                (half-reads h small b.disk c (subst (λ (n : Sb). IsRewriting n change.gives members.own live first.lost first.disk b.disk) next.newest next.written.stage) drawn),
          ))
          (some_left b.lost)

      -- after some rounds: as always, or none was written since the slot was lost
      abbrev After : ℕ → Round → Type 0
      After n b = State n b ⊎ ((n ≡ 0) × (first ≡ b) × IsHalf)

      after-state : (n : ℕ) (b : Round) → members.newest.events + 1 + n < 2 ^ 62 → AreNamings (members_at members first) change before live n first b → After n b
      unfolding AreNamings
      after-state zero b small same = ⊎_elim (λ state. inl (subst (State 0) same state)) (λ h. inr (refl, same, h)) first-state
      after-state (suc n) b small (a, over, next) = inl (⊎_elim
          (λ state. naming-state n a b (omega (arith, small)) state (record { newest = next.newest; written = next.written }))
          (λ h.
          let next' = subst (λ (r : Round). IsNaming members change before live r b) (sym h.1) (record { newest = next.newest; written = next.written }) in
          subst (λ (k : ℕ). State (suc k) b) (sym h.0) (half-state h.2 (omega (arith, small)) b next'))
          (after-state n a (omega (arith, small)) over))

      pub turns-read : (e : Disk) (c : Contents) → (at : IsInNaming (members_at members first) change before live first e) → members.newest.events + 2 + at.rounds < 2 ^ 62 → AreDrawn e c → Reads at.start.lost c
      turns-read e c at small drawn = ⊎_elim
          (λ state. ⊎_elim
          (λ here. inr (all-named scope members change before live at.start.lost c
          (naming-reads scope members change before live known left0 (λ s. ⊥) (fit-of scope known left0 members change live d ready) at.rounds at.start here small e c at.stage drawn)))
          (λ dead. dead.1 c (fewer (naming members change before at.start.lost at.start.newest) change.gives members.own at.start.lost at.start.disk e c dead.0 at.stage drawn))
          state)
          (λ h. subst (λ (r : Round). Reads r.lost c) h.1 (half-reads h.2 (omega (arith, small)) e c
          (subst (λ (r : Round). IsRewriting (naming members change before r.lost r.newest) change.gives members.own live r.lost r.disk e) (sym h.1) at.stage) drawn))
          (after-state at.rounds at.start (omega (arith, small)) at.over)

      pub turns-end : (last : Round) (n : ℕ) → AreNamings (members_at members first) change before live n first last
          → ((s : ℕ) → has_slot past.over.lost s ≡ true → has_slot mid.lost s ≡ false → 0 < n) → members.newest.events + 1 + n < 2 ^ 62
          → (s : ℕ) × (has_slot live s ≡ true) × (has_slot last.lost s ≡ false) → IsAt scope members change before live (λ s. ⊥) n last
      turns-end last n over once small some = ⊎_elim
          (λ state. ⊎_elim (λ here. here) (λ dead. absurd (dead.0 some.0 some.1 some.2)) state)
          (λ h. absurd (let x = h.2.lost in omega (arith, once x.slot x.is_gone x.was, h.0)))
          (after-state n last small over)
