-- What an update that makes a recovering slot whole leaves at its end.
use Rattle.std.proofs.Common.{◌≡◌, ◌≢◌, inl, inr, ⊎_elim, ℕ, ◌+◌, ◌^◌, ◌<◌, ◌≤◌, Bool, true, false, not, ◌&&◌, List, [], ◌∷◌, set, length, replicate, Option, Some, None, refl, sym, ◌∙◌, ap, subst, arith}
use Rattle.std.proofs.lemmas.Bool.{cases_eq, cases_lt}
use Rattle.std.proofs.lemmas.List.{get_or_past, get_or-set_same, get_or-set_other}
use Rattle.sb_read_laws.specs.raid_types_Sectors.{Sector}
use Rattle.sb_read_laws.specs.raid_types_Shapes.{has_slot}
use Rattle.sb_read_laws.specs.sb_codec_the_Sb.{Sb}
use Rattle.sb_read_laws.specs.sb_codec_Superblock.{sb_of, checksum}
use Rattle.sb_read_laws.specs.bank_Tape.{IsIn}
use Rattle.sb_read_laws.specs.sb_specs_the_Give.{Give}
use Rattle.sb_read_laws.specs.sb_specs_the_Give_TheVariants.{Same}
use Rattle.sb_read_laws.specs.sb_specs_the_Give_TheVariants as give
use Rattle.sb_read_laws.specs.sb_specs_the_Change.{Change}
use Rattle.sb_read_laws.specs.sb_specs_the_Members.{Members}
use Rattle.sb_read_laws.specs.sb_specs_Reading.{Scope, is_fresh}
use Rattle.sb_read_laws.specs.sb_specs_Update.{planned, give_of, own_in}
use Rattle.sb_read_laws.specs.sb_specs_Updating.{planned_newest, IsLater, AreNamed}
use Rattle.sb_read_laws.specs.sb_specs_Outcome.{IsStored, IsPlannedOwn, AreStored, is_left}
use Rattle.sb_read_laws.specs.sb_specs_Reads.{IsNewestLike}
use Rattle.sb_read_laws.specs.sb_specs_Held.{MayRead, IsKnown, IsOther, Shows, IsFirstAsNew}
use Rattle.sb_read_laws.specs.sb_specs_Stages.{AreLeft}
use Rattle.sb_read_laws.specs.sb_specs_Rounds.{Round, AreNamings, IsPastFirst, members_at, IsReady}
use Rattle.sb_read_laws.specs.sb_specs_Crash.{AreHeldAsPlanned}
use Rattle.sb_read_laws.specs.Following.{AreHeldAlone}
use Rattle.sb_read_laws.proofs.sb_specs_ReadLists.{by_bool}
use Rattle.sb_read_laws.proofs.sb_specs_PlannedSb.{planned-of}
use Rattle.sb_read_laws.proofs.StageReads.{held-reads}
use Rattle.sb_read_laws.proofs.RoundReads.{fit-of, and_second}
use Rattle.sb_read_laws.proofs.RoundsRead.{rounds-end}
use Rattle.sb_read_laws.proofs.Following.{next-held}
use Rattle.sb_update_laws.proofs.AddedReads.{put, put_here, to_put}
use Rattle.sb_update_laws.specs.MakingWhole.{without_gives, IsMakingWhole}
use Rattle.sb_update_laws.proofs.Wide as wide
use Rattle.sb_update_laws.proofs.OtherOwn.{put_round, put_in, to_ninth, namings_more}
use Rattle.sb_update_laws.proofs.WholeBefore.{roles_same, other_world, whole_own, whole_members, own_slot, own_other, whole_roles, whole_world, slot_live}
use Rattle.sb_update_laws.proofs.MakingReads.{new_alone, ready_whole, whole-past, namings_whole, former-past, former_namings, IsNew, new-past, new_namings, traced}

abbrev Disk : Type 0
Disk = ℕ → ℕ → List Sector

clash : {b : Bool} → b ≡ true → b ≡ false → ⊥
clash is none = absurd (let both = sym is ∙ none in cc)

-- ---- what is kept of a slot

planned_stored : (newest : Sb) (g : Give) (held stored : Option Sb) → IsPlannedOwn newest g held stored → (sb : Sb) × (held ≡ Some sb) × IsStored (planned newest g sb) stored
planned_stored newest g None stored plan = absurd plan
planned_stored newest g (Some sb) stored plan = (sb, refl, plan)

alone-alike : (scope : Scope) (left lost : ℕ) (newest : Sb) (own own' : List (Option Sb)) (d : Disk) → ((s : ℕ) → has_slot left s ≡ true → own_in own s ≡ own_in own' s)
    → AreHeldAlone scope left lost newest own d → AreHeldAlone scope left lost newest own' d
alone-alike scope left lost newest own own' d same alone = record {
  held = record {
    sound = alone.held.sound;
    table = alone.held.table;
    each = λ s is. subst (λ (h : Option Sb). IsKnown scope newest h s d) (same s is) (alone.held.each s is);
    others = alone.held.others;
    top = alone.held.top;
    first = alone.held.first;
    apart = λ s t a b differ p q fresh fresh'. alone.held.apart s t a b differ (shows s a p) (shows t b q) fresh fresh';
  };
  exact = λ s sb found is own_sb m. alone.exact s sb found is (same s is ∙ own_sb) m;
}
  where
    shows : (s : ℕ) (a : Sb) → Shows scope left own' d s a → Shows scope left own d s a
    shows s a (inl (is, own_a)) = inl (is, same s is ∙ own_a)
    shows s a (inr (none, m)) = inr (none, m)

-- ---- a slot that isn't left, by each of its values

module _ (scope : Scope) (left lost : ℕ) (newest : Sb) (own : List (Option Sb)) (d : Disk) (slot : ℕ) (out : has_slot left slot ≡ false)
    (base : AreHeldAlone scope left lost newest own (put slot [] d)) (by_value : (v : Sector) → IsIn (d slot 8) v → AreHeldAlone scope left lost newest own (put slot (v ∷ []) d))
    (some : (t : ℕ) × (sb : Sb) × (has_slot left t ≡ true) × (own_in own t ≡ Some sb) × (sb.events ≡ newest.events)) where
  differs : (s : ℕ) → has_slot left s ≡ true → s ≢ slot
  differs s is same = clash is (subst (λ (t : ℕ). has_slot left t ≡ false) (sym same) out)

  read_alone : (found : Option Sb) (m : MayRead scope d slot found) → MayRead scope (put slot (m.at 8 ∷ []) d) slot found
  read_alone found m = record {
    at = m.at;
    eighth = put_in slot (m.at 8 ∷ []) d slot (m.at 8) refl (inl refl);
    ninth = to_ninth slot (m.at 8 ∷ []) d slot (m.at 9) m.ninth;
    is = m.is;
  }

  known : (s : ℕ) → has_slot left s ≡ true → IsKnown scope newest (own_in own s) s d
  known s is =
      let k = base.held.each s is in
      record {
        sb = k.sb;
        own = k.own;
        reads = λ found m. k.reads found (to_put scope slot [] d s found (differs s is) m);
        second = λ sector is_in. k.second sector (to_ninth slot [] d s sector is_in);
        seen = k.seen;
        long = k.long;
        there = k.there;
        array = k.array;
        fresh = k.fresh;
        number = k.number;
        late = k.late;
        lies = k.lies;
        suited = k.suited;
      }

  other_slot : slot < scope.sizes.slots → IsOther scope newest lost slot d
  other_slot there = record {
    suited = λ sb m. ((by_value (m.at 8) m.eighth).held.others slot there out).suited sb (read_alone (Some sb) m);
    role = λ r found h m. ((by_value (m.at 8) m.eighth).held.others slot there out).role r found h (read_alone found m);
    spare = λ found free m. ((by_value (m.at 8) m.eighth).held.others slot there out).spare found free (read_alone found m);
  }

  others : (s : ℕ) → s < scope.sizes.slots → has_slot left s ≡ false → IsOther scope newest lost s d
  others s there none = elim (cases_eq s slot) [
    | inl same ↦ subst (λ (t : ℕ). IsOther scope newest lost t d) (sym same) (other_slot (subst (λ (t : ℕ). t < scope.sizes.slots) same there))
    | inr apart ↦
        let o = base.held.others s there none in
        record {
          suited = λ sb m. o.suited sb (to_put scope slot [] d s (Some sb) apart m);
          role = λ r found h m. o.role r found h (to_put scope slot [] d s found apart m);
          spare = λ found free m. o.spare found free (to_put scope slot [] d s found apart m);
        }
  ]

  shows_put : (row : List Sector) (s : ℕ) (a : Sb) → s ≢ slot → Shows scope left own d s a → Shows scope left own (put slot row d) s a
  shows_put row s a apart (inl known_) = inl known_
  shows_put row s a apart (inr (none, m)) = inr (none, to_put scope slot row d s (Some a) apart m)

  shown_slot : (s : ℕ) (a : Sb) → s ≡ slot → Shows scope left own d s a → MayRead scope d slot (Some a)
  shown_slot s a same (inl (is, own_a)) = absurd (differs s is same)
  shown_slot s a same (inr (none, m)) = subst (λ (t : ℕ). MayRead scope d t (Some a)) same m

  apart_slot : (a : Sb) → MayRead scope d slot (Some a) → (t : ℕ) (b : Sb) → t ≢ slot → Shows scope left own d t b → is_fresh newest a ≡ true → is_fresh newest b ≡ true → a.dev_number ≢ b.dev_number
  apart_slot a m t b apart q fresh fresh' =
      (by_value (m.at 8) m.eighth).held.apart slot t a b (λ same. apart (sym same)) (inr (out, read_alone (Some a) m)) (shows_put (m.at 8 ∷ []) t b apart q) fresh fresh'

  joined-first : (s : ℕ) (sb : Sb) → IsFirstAsNew scope newest d s sb → IsNewestLike newest sb
  joined-first s sb f = elim (cases_lt s slot) [
    | inl below ↦ base.held.first s sb (record {
      there = f.there;
      shown = f.shown;
      may = λ t low. to_put scope slot [] d t (f.shown t) (omega (arith, low, below)) (f.may t low);
      is = f.is;
      events = f.events;
      none = f.none;
    })
    | inr past ↦
        let m = f.may slot past in
        (by_value (m.at 8) m.eighth).held.first s sb (record {
          there = f.there;
          shown = f.shown;
          may = λ t low. elim (cases_eq t slot) [
            | inl same ↦ subst (λ (u : ℕ). MayRead scope (put slot (m.at 8 ∷ []) d) u (f.shown u)) (sym same) (read_alone (f.shown slot) m)
            | inr other ↦ to_put scope slot (m.at 8 ∷ []) d t (f.shown t) other (f.may t low)
          ];
          is = f.is;
          events = f.events;
          none = f.none;
        })
  ]

  pub joined-alone : AreHeldAlone scope left lost newest own d
  joined-alone = record {
    held = record {
      sound = base.held.sound;
      table = base.held.table;
      each = known;
      others = others;
      top = (
        some.0,
        (known some.0 some.2).there,
        λ found m.
            let x = base.exact some.0 some.1 found some.2 some.3 (to_put scope slot [] d some.0 found (differs some.0 some.2) m) in
            (record some.1 { sb_csum = x.0 }, x.1, some.4),
      );
      first = joined-first;
      apart = λ s t a b differ p q fresh fresh'. elim (cases_eq s slot) [
        | inl same ↦ apart_slot a (shown_slot s a same p) t b (λ e. differ (same ∙ sym e)) q fresh fresh'
        | inr other ↦ elim (cases_eq t slot) [
          | inl same ↦ λ e. apart_slot b (shown_slot t b same q) s a other p fresh' fresh (sym e)
          | inr other' ↦ base.held.apart s t a b differ (shows_put [] s a other p) (shows_put [] t b other' q) fresh fresh'
        ]
      ];
    };
    exact = λ s sb found is own_sb m. base.exact s sb found is own_sb (to_put scope slot [] d s found (differs s is) m);
  }

-- ---- the end

module _ (scope : Scope) (known left : ℕ) (members : Members) (change : Change) (before live slot role : ℕ) (d : Disk) (making : IsMakingWhole members change slot role)
    (ready : IsReady scope known left members (without_gives change) live d) (first last : Round) (n : ℕ) (past : IsPastFirst members change before live d first)
    (over : AreNamings (members_at members first) change before live n first last) (small : members.newest.events + 1 + n < 2 ^ 62)
    (some : (s : ℕ) × (has_slot live s ≡ true) × (has_slot last.lost s ≡ false)) (named : AreNamed members change before last.lost last.newest) (own : List (Option Sb))
    (stored : AreStored last.newest change.gives (is_left live last.lost) members.own own) (rest : ℕ) (are : AreLeft live last.lost rest) where
  abbrev Without : Change
  Without = without_gives change

  abbrev Whole : Members
  Whole = whole_members members change slot role making

  abbrev Own : List (Option Sb)
  Own = whole_own members change slot role making

  long : 128 ≤ length members.newest.dev_roles
  long = omega (arith, ready.held.table)

  rest_kept : (s : ℕ) → has_slot rest s ≡ true → has_slot last.lost s ≡ false
  rest_kept s is = and_second (has_slot live s) (has_slot last.lost s) (sym (are s) ∙ is)

  left_kept : (s : ℕ) → is_left live last.lost s ≡ true → has_slot last.lost s ≡ false
  left_kept s is = and_second (has_slot live s) (has_slot last.lost s) is

  named_whole : AreNamed Whole Without before last.lost last.newest
  named_whole = (named.0, named.1 ∙ sym (whole_roles members change slot role making before last.lost named.0))

  -- of the members in which the slot was whole the same are kept, where the list has that slot's, if it is lost
  stored_whole : (own' : List (Option Sb)) → ((s : ℕ) → s ≢ slot → own_in own' s ≡ own_in own s) → (is_left live last.lost slot ≡ true → own_in own' slot ≡ own_in own slot)
      → (is_left live last.lost slot ≡ false → own_in own' slot ≡ own_in Own slot) → AreStored last.newest (replicate 32 Same) (is_left live last.lost) Own own'
  stored_whole own' agree here gone = record {
    written = λ s is.
        let p = planned_stored last.newest (give_of change.gives s) (own_in members.own s) (own_in own s) (stored.written s is) in
        let w = whole_world members change slot role making long s p.0 tt p.1 in
        subst (λ (h : Option Sb). IsPlannedOwn last.newest (give_of (replicate 32 Same) s) h (own_in own' s)) (sym w.1)
        (subst (λ (z : Sb). IsStored z (own_in own' s)) (sym (w.2 last.newest)) (subst (λ (o : Option Sb). IsStored (planned last.newest (give_of change.gives s) p.0) o) (sym (same s is)) p.2));
    others = λ s no. elim (cases_eq s slot) [
      | inl it ↦ ap (own_in own') it ∙ gone (ap (is_left live last.lost) (sym it) ∙ no) ∙ ap (own_in Own) (sym it)
      | inr apart ↦ agree s apart ∙ stored.others s no ∙ sym (own_other members change slot role making s apart)
    ];
  }
    where
      same : (s : ℕ) → is_left live last.lost s ≡ true → own_in own' s ≡ own_in own s
      same s is = elim (cases_eq s slot) [
        | inl it ↦ ap (own_in own') it ∙ here (ap (is_left live last.lost) (sym it) ∙ is) ∙ ap (own_in own) (sym it)
        | inr apart ↦ agree s apart
      ]

  -- the list with the slot's superblock, were it whole, where it is lost
  abbrev Instead : List (Option Sb)
  Instead = set own slot (Some (planned members.newest (give.Role role None) making.sb))

  instead_other : (s : ℕ) → s ≢ slot → own_in Instead s ≡ own_in own s
  instead_other s apart = get_or-set_other own slot s (Some (planned members.newest (give.Role role None) making.sb)) None apart

  module _ (gone : has_slot last.lost slot ≡ true) where
    not_left : is_left live last.lost slot ≡ true → ⊥
    not_left is = clash gone (left_kept slot is)

    pub out_rest : has_slot rest slot ≡ false
    out_rest = ⊎_elim (λ is. absurd (clash gone (rest_kept slot is))) (λ none. none) (by_bool (has_slot rest slot))

    own_kept : own_in own slot ≡ Some making.sb
    own_kept = stored.others slot (⊎_elim (λ is. absurd (not_left is)) (λ none. none) (by_bool (is_left live last.lost slot))) ∙ making.is

    there : slot < length own
    there = elim (cases_lt slot (length own)) [
      | inl below ↦ below
      | inr above ↦ absurd (let none : None ≡ Some making.sb = sym (get_or_past own slot None above) ∙ own_kept in cc)
    ]

    stored_instead : AreStored last.newest (replicate 32 Same) (is_left live last.lost) Own Instead
    stored_instead = stored_whole Instead instead_other (λ is. absurd (not_left is))
        (λ no. get_or-set_same own slot (Some (planned members.newest (give.Role role None) making.sb)) None there ∙ sym (own_slot members change slot role making))

    rest_alike : (s : ℕ) → has_slot rest s ≡ true → own_in Instead s ≡ own_in own s
    rest_alike s is = instead_other s (λ same. clash is (subst (λ (t : ℕ). has_slot rest t ≡ false) (sym same) out_rest))

  abbrev Follows : Type 0
  Follows = AreHeldAlone scope rest last.lost last.newest own last.disk × IsLater (planned_newest change.shared members.newest) last.newest

  -- the slot wasn't lost in the first round
  kept-follows : has_slot first.lost slot ≡ false → Follows
  kept-follows free =
      let none = wide.outside past.mid.lost first.lost slot (past.written.written.more slot) free in
      let ready' = ready_whole scope known left members change before live slot role d making ready first past none in
      let past' = whole-past scope known left members change before live slot role d making ready first past none first.disk past.written.written.stage
      (new_alone scope known left members change before live slot role d making ready first past free) past.written.written.whole in
      let at = rounds-end scope Whole Without before live known left (put slot [] d) ready' first last n past'
      (namings_whole scope known left members change before live slot role d making ready first past n last over) small some in
      let fit = fit-of scope known left Whole Without live (put slot [] d) ready' in (
        ⊎_elim
            (λ gone. alone-alike scope rest last.lost last.newest Instead own last.disk (rest_alike gone)
            (next-held scope Whole Without before live known left (λ s. ⊥) fit n last at named_whole Instead (stored_instead gone) rest are))
            (λ kept.
            let is_live = slot_live scope known left members change live slot role d making ready (wide.outside members.lost past.mid.lost slot (past.caught.more slot) none) in
            next-held scope Whole Without before live known left (λ s. ⊥) fit n last at named_whole own
            (stored_whole own (λ s apart. refl) (λ is. refl) (λ no. absurd (clash (λ i. is_live i && not (kept i)) no))) rest are)
            (by_bool (has_slot last.lost slot)),
        at.later,
      )

  -- it was
  module _ (gone : has_slot first.lost slot ≡ true) where
    gone_last : has_slot last.lost slot ≡ true
    gone_last = namings_more (members_at members first) change before live n first last over slot gone

    stored_other : AreStored last.newest (replicate 32 Same) (is_left live last.lost) members.own own
    stored_other = record {
      written = λ s is.
          let p = planned_stored last.newest (give_of change.gives s) (own_in members.own s) (own_in own s) (stored.written s is) in
          let w = other_world members change slot role making s p.0 (λ same. clash gone_last (subst (λ (t : ℕ). has_slot last.lost t ≡ false) same (left_kept s is))) p.1 in
          subst (λ (h : Option Sb). IsPlannedOwn last.newest (give_of (replicate 32 Same) s) h (own_in own s)) (sym w.1) (subst (λ (z : Sb). IsStored z (own_in own s)) (sym (w.2 last.newest)) p.2);
      others = stored.others;
    }

    former : (row : List Sector) → ((v : Sector) → IsIn row v → IsIn (first.disk slot 8) v × IsIn (past.mid.disk slot 8) v)
        → AreHeldAlone scope rest last.lost last.newest own (put slot row last.disk) × IsLater (planned_newest change.shared members.newest) last.newest
    former row was =
        let at = rounds-end scope members Without before live known left d ready (put_round slot row first) (put_round slot row last) n
        (former-past scope known left members change before live slot role d making ready first past gone row was)
        (former_namings scope known left members change before live slot role d making ready first past gone row n last over) small some in (
          next-held scope members Without before live known left (λ s. ⊥) (fit-of scope known left members Without live d ready) n (put_round slot row last) at
              (named.0, named.1 ∙ sym (roles_same members change slot role making before last.lost named.0)) own stored_other rest are,
          at.later,
        )

    new : (v : Sector) → IsIn (first.disk slot 8) v → IsNew scope known left members change before live slot role d making ready first past gone v
        → AreHeldAlone scope rest last.lost last.newest own (put slot (v ∷ []) last.disk)
    new v held w =
        let ready' = ready_whole scope known left members change before live slot role d making ready first past w.1 in
        let at = rounds-end scope Whole Without before live known left (put slot [] d) ready' (put_round slot (v ∷ []) first) (put_round slot (v ∷ []) last) n
        (new-past scope known left members change before live slot role d making ready first past gone (v ∷ []) w.1
        (λ x is_in. alone_in (λ y. IsIn (first.disk slot 8) y) held x is_in)
        (λ x is_in. alone_in (IsNew scope known left members change before live slot role d making ready first past gone) w x
        (subst (λ (l : List Sector). IsIn l x) (put_here slot (v ∷ []) first.disk) is_in)))
        (new_namings scope known left members change before live slot role d making ready first past gone (v ∷ []) n last over) small some in
        alone-alike scope rest last.lost last.newest Instead own (put slot (v ∷ []) last.disk) (rest_alike gone_last)
        (next-held scope Whole Without before live known left (λ s. ⊥) (fit-of scope known left Whole Without live (put slot [] d) ready') n (put_round slot (v ∷ []) last) at
        named_whole Instead (stored_instead gone_last) rest are)
      where
        alone_in : (P : Sector → Type 0) → P v → (x : Sector) → IsIn (v ∷ []) x → P x
        alone_in P p x (inl same) = subst P (sym same) p
        alone_in P p x (inr none) = absurd none

    value : (v : Sector) → IsIn (last.disk slot 8) v → AreHeldAlone scope rest last.lost last.newest own (put slot (v ∷ []) last.disk)
    value v held =
        let t = traced scope known left members change before live slot role d making ready first past gone n last over v held in
        ⊎_elim
        (λ was. (former (v ∷ []) (alone_former v (t.0, was))).0)
        (λ w. new v t.0 w) t.1
      where
        alone_former : (v : Sector) → IsIn (first.disk slot 8) v × IsIn (past.mid.disk slot 8) v → (x : Sector) → IsIn (v ∷ []) x → IsIn (first.disk slot 8) x × IsIn (past.mid.disk slot 8) x
        alone_former v p x (inl same) = subst (λ (y : Sector). IsIn (first.disk slot 8) y × IsIn (past.mid.disk slot 8) y) (sym same) p
        alone_former v p x (inr none) = absurd none

    newest_left : (t : ℕ) × (sb : Sb) × (has_slot rest t ≡ true) × (own_in own t ≡ Some sb) × (sb.events ≡ last.newest.events)
    newest_left =
        let is : is_left live last.lost some.0 ≡ true = λ i. some.1 i && not (some.2 i) in
        let p = planned_stored last.newest (give_of change.gives some.0) (own_in members.own some.0) (own_in own some.0) (stored.written some.0 is) in (
          some.0,
          sb_of p.2.bytes,
          are some.0 ∙ is,
          p.2.own,
          ap (λ (z : Sb). z.events) p.2.fields ∙ (planned-of last.newest p.0 (give_of change.gives some.0)).events,
        )

    lost-follows : Follows
    lost-follows =
        let base = former [] (λ v none. absurd none) in
        (joined-alone scope rest last.lost last.newest own last.disk slot (out_rest gone_last) base.0 value newest_left, base.1)

  pub follows : Follows
  follows = ⊎_elim (λ gone. lost-follows gone) (λ free. kept-follows free) (by_bool (has_slot first.lost slot))

  pub ends : AreHeldAsPlanned scope members change before live last
  ends =
      let f = follows in
      record {
        known = rest;
        named = last.lost;
        own = own;
        held = f.0.held;
        exact = λ left' are' s sb found is own_sb m. f.0.exact s sb found (are s ∙ sym (are' s) ∙ is) own_sb m;
        are = are;
        more = λ s is. namings_more (members_at members first) change before live n first last over s (past.written.written.more s (past.caught.more s is));
        grown = λ s is. is;
        later = f.1;
        plan = named;
        kept = λ s sb is own_sb.
            let y = subst (λ (h : Option Sb). IsPlannedOwn last.newest (give_of change.gives s) h (own_in own s)) own_sb (stored.written s (sym (are s) ∙ is)) in
            (checksum y.bytes, y.own ∙ ap (λ (z : Sb). Some z) y.fields);
        reads = λ image drawn. held-reads scope rest last.lost last.newest own last.disk f.0.held rest (λ s is. is) image drawn;
      }
