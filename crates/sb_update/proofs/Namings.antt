-- Rounds that name lost slots, one after the other.
use Rattle.std.proofs.Common.{◌≡◌, inl, inr, ⊎_elim, ℕ, suc, ◌<◌, ◌≤◌, true, false, List, Option, [], append-nil, refl, sym, ◌∙◌, subst, le_refl, arith}
use Rattle.std.proofs.Math.Nat.{le_trans}
use Rattle.bank.specs.raid_types_Sectors.{Sector}
use Rattle.sb_specs.specs.raid_types_Shapes.{has_slot}
use Rattle.sb_specs.specs.sb_codec_the_Sb.{Sb}
use Rattle.bank.specs.declared.bank.Operation.{Operation}
use Rattle.bank.specs.Tape.{IsIn, disk, EachMark}
use Rattle.bank.proofs.Marks.{each_mark-along, each_mark-map, each_mark-then}
use Rattle.sb_specs.specs.declared.change.Give.{Give}
use Rattle.sb_specs.specs.declared.change.Change.{Change}
use Rattle.sb_specs.specs.declared.members.Members.{Members}
use Rattle.sb_specs.specs.Update.{give_of, own_in, is_recovery}
use Rattle.sb_specs.specs.Writing.{IsPlanned, plan_of}
use Rattle.sb_specs.specs.Updating.{IsTouched, IsUpdate, ArePlanned, IsInOrder}
use Rattle.sb_specs.specs.Stages.{AreFirstKept}
use Rattle.sb_specs.specs.Rounds.{Round, naming, IsRewriting, IsRewritten, IsNaming, AreNamings, IsInNamingUpTo, IsNamed, IsFirstRewriting}
use Rattle.sb_specs.proofs.ReadLists.{by_bool}
use Rattle.sb_specs.proofs.Exact.{ninth_of, alone}

abbrev Disk : Type 0
Disk = ℕ → ℕ → List Sector

pub rewriting : {live lost : ℕ} {d e : Disk} (newest : Sb) (gives : List Give) (own : List (Option Sb)) → IsTouched live lost (plan_of newest gives own) d e → IsRewriting newest gives own live lost d e
rewriting {live = live} {lost = lost} {d = d} {e = e} newest gives own t = record {
  values = λ s v held. ⊎_elim
      (λ is. ⊎_elim
      (λ gone. inl (subst (λ (l : List Sector). IsIn l v) (t.gone s 8 gone) held))
      (λ kept. ⊎_elim (λ there. inl there) (λ w. inr (is, kept, w)) (t.values s v held))
      (by_bool (has_slot lost s)))
      (λ none. inl (subst (λ (l : List Sector). IsIn l v) (t.others s 8 none) held))
      (by_bool (has_slot live s));
  ninth = ninth_of t;
}

pub rewritten : {tells : Type 0} {start : ℕ → ℕ → Sector} {old new : List Operation} (newest : Sb) (gives : List Give) (own : List (Option Sb)) (live lost lost' : ℕ)
    → ((s : ℕ) → has_slot lost s ≡ true → has_slot lost' s ≡ true) → tells → IsUpdate tells live lost lost' (plan_of newest gives own) start old new
    → ArePlanned newest gives own live lost' (disk start new) → IsRewritten newest gives own live lost lost' (disk start old) (disk start new)
rewritten {start = start} {old = old} {new = new} newest gives own live lost lost' more told u planned = record {
  stage = rewriting newest gives own (u.end told).touched;
  whole = λ s v is left held.
      let p = planned s is left in
      alone p.0 v (λ (x : Sector). IsPlanned newest (give_of gives s) (own_in own s) x) p.1 (subst (λ (l : List Sector). IsIn l v) p.2 held);
  more = more;
}

pub at_rest : (newest : Sb) (gives : List Give) (own : List (Option Sb)) (live lost : ℕ) (d : Disk) → IsRewriting newest gives own live lost d d
at_rest newest gives own live lost d = record { values = λ s v held. inl held; ninth = λ s v held. held }

module _ (members : Members) (change : Change) (before live : ℕ) where
  pub namings-none : (a : Round) → AreNamings members change before live 0 a a
  unfolding AreNamings
  namings-none a = refl

  pub namings-more : (n : ℕ) (a b c : Round) → AreNamings members change before live n a b → IsNaming members change before live b c → AreNamings members change before live (suc n) a c
  unfolding AreNamings
  namings-more n a b c over next = (b, over, next)

  -- before the first one
  pub naming-none : (tells : Type 0) (start : ℕ → ℕ → Sector) (old : List Operation) (a : Round) → a.disk ≡ disk start old
      → EachMark tells start old old (IsInNamingUpTo members change before live a.lost a.newest.events a)
  naming-none tells start old a is =
      subst (λ (l : List Operation). EachMark tells start old l (IsInNamingUpTo members change before live a.lost a.newest.events a)) (append-nil old)
      (each_mark-along tells start old [] (IsInNamingUpTo members change before live a.lost a.newest.events a) (record {
        at = record {
          rounds = 0;
          start = a;
          over = namings-none a;
          stage = subst (λ (e : Disk). IsRewriting (naming members change before a.lost a.newest) change.gives members.own live a.lost a.disk e) is
              (at_rest (naming members change before a.lost a.newest) change.gives members.own live a.lost a.disk);
        };
        within = λ s is. is;
        earlier = omega arith;
        this = inr (λ s i. sym is i s 8);
      }))

  -- where it ends later
  pub naming-later : {a : Round} {e : Disk} (last last' events events' : ℕ) → ((s : ℕ) → has_slot last s ≡ true → has_slot last' s ≡ true) → events ≤ events'
      → IsInNamingUpTo members change before live last events a e → IsInNamingUpTo members change before live last' events' a e
  naming-later last last' events events' more later up = record {
    at = up.at;
    within = λ s is. more s (up.within s is);
    earlier = omega (arith, up.earlier, later);
    this = ⊎_elim (λ this. inl (le_trans this later)) (λ none. inr none) up.this;
  }

  -- one more
  pub naming-then : {tells : Type 0} (start : ℕ → ℕ → Sector) (old mid new : List Operation) (a b c : Round) → b.disk ≡ disk start mid
      → (tells → IsNamed members change before live a b) → EachMark tells start old mid (IsInNamingUpTo members change before live b.lost b.newest.events a)
      → c.newest ≡ naming members change before b.lost b.newest → ((s : ℕ) → has_slot b.lost s ≡ true → has_slot c.lost s ≡ true) → b.newest.events ≤ c.newest.events
      → IsUpdate tells live b.lost c.lost (plan_of c.newest change.gives members.own) start mid new
      → EachMark tells start old new (IsInNamingUpTo members change before live c.lost c.newest.events a)
  naming-then start old mid new a b c is over marks newest more later u = each_mark-then
      (each_mark-map (IsInNamingUpTo members change before live c.lost c.newest.events a) (λ told e up. naming-later b.lost c.lost b.newest.events c.newest.events more later up) marks)
      (each_mark-map (IsInNamingUpTo members change before live c.lost c.newest.events a) (λ told e at.
      let o = over told in
      record {
        at = record {
          rounds = o.0;
          start = b;
          over = o.1;
          stage = subst (λ (n : Sb). IsRewriting n change.gives members.own live b.lost b.disk e) newest
              (subst (λ (d : Disk). IsRewriting c.newest change.gives members.own live b.lost d e) (sym is) (rewriting c.newest change.gives members.own at.touched));
        };
        within = more;
        earlier = later;
        this = inl (subst (λ (n : Sb). n.events ≤ c.newest.events) newest (le_refl _));
      }) u.marks)

  pub named-then : {tells : Type 0} (start : ℕ → ℕ → Sector) (mid new : List Operation) (a b c : Round) → b.disk ≡ disk start mid → c.disk ≡ disk start new
      → tells → IsNamed members change before live a b → c.newest ≡ naming members change before b.lost b.newest
      → ((s : ℕ) → has_slot b.lost s ≡ true → has_slot c.lost s ≡ true)
      → IsUpdate tells live b.lost c.lost (plan_of c.newest change.gives members.own) start mid new → ArePlanned c.newest change.gives members.own live c.lost (disk start new)
      → IsNamed members change before live a c
  named-then start mid new a b c is is' told over newest more u planned = (
    suc over.0,
    namings-more over.0 a b c over.1 (record {
      newest = newest;
      written = subst (λ (d : Disk). IsRewritten c.newest change.gives members.own live b.lost c.lost d c.disk) (sym is)
          (subst (λ (e : Disk). IsRewritten c.newest change.gives members.own live b.lost c.lost (disk start mid) e) (sym is')
          (rewritten c.newest change.gives members.own live b.lost c.lost more told u planned));
    }),
  )

  pub named-some : {tells : Type 0} (start : ℕ → ℕ → Sector) (mid new : List Operation) (a b c : Round) (is : b.disk ≡ disk start mid) (is' : c.disk ≡ disk start new)
      (told : tells) (over : IsNamed members change before live a b) (newest : c.newest ≡ naming members change before b.lost b.newest)
      (more : (s : ℕ) → has_slot b.lost s ≡ true → has_slot c.lost s ≡ true)
      (u : IsUpdate tells live b.lost c.lost (plan_of c.newest change.gives members.own) start mid new) (planned : ArePlanned c.newest change.gives members.own live c.lost (disk start new))
      → 0 < (named-then start mid new a b c is is' told over newest more u planned).0
  unfolding named-then
  named-some start mid new a b c is is' told over newest more u planned = omega arith

-- ---- the first round

pub first_rewriting : {d e : Disk} (newest : Sb) (gives : List Give) (own : List (Option Sb)) (live lost lost' : ℕ) → AreFirstKept gives lost lost'
    → IsTouched live lost (plan_of newest gives own) d e → IsInOrder newest gives own live lost' d e → IsFirstRewriting newest gives own live lost d e
first_rewriting {d = d} {e = e} newest gives own live lost lost' first t order = record {
  stage = rewriting newest gives own t;
  order = ⊎_elim
      (λ others. inl (λ s v none held. subst (λ (l : List Sector). IsIn l v) (others s none) held))
      (λ written. inr (λ s v is left recovery held.
      let kept = not_lost s left recovery in
      let w = written s is kept recovery in
      alone w.0 v (λ (x : Sector). IsPlanned newest (give_of gives s) (own_in own s) x) w.1 (subst (λ (l : List Sector). IsIn l v) w.2 held)))
      order;
}
  where
    not_lost : (s : ℕ) → has_slot lost s ≡ false → is_recovery (give_of gives s) ≡ true → has_slot lost' s ≡ false
    not_lost s left recovery = ⊎_elim (λ gone. absurd (let both = sym (first s recovery gone) ∙ left in cc)) (λ none. none) (by_bool (has_slot lost' s))
