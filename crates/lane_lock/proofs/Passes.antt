-- What the passes know, taken together.
use Rattle.std.proofs.Common.{◌≡◌, ◌⊎◌, inl, inr, ⊎_elim, ℕ, if◌then◌else◌, List, [], ◌∷◌, ◌++◌, length, sym, refl, ap, ◌∙◌, subst, arith, eqb, length-append, append-nil}
use Rattle.std.specs.Prelude.{Option, Some, None, MatchOption}
use Rattle.atomic_table.specs.Seated.{TableId}
use Rattle.lane_lock.specs.declared.view.Known.{Known}
use Rattle.lane_lock.specs.declared.view.Hand.{Hand}
use Rattle.lane_lock.specs.declared.view.View.{View}
use Rattle.lane_lock.specs.declared.lock.Pass.{Pass}
use Rattle.lane_lock.specs.Ways.{Ways, IsLawful}
use Rattle.lane_lock.specs.Turns.{OnSeen, resting, fresh, mine_of, mine_by, Gathered, Closed}
use Rattle.lane_lock.specs.Passes.{AreNew, calls_by, EachPass, Ended}
use Rattle.lane_lock.proofs.Steps.{one_hand}

module _ {T Q : Type 0} where
  abbrev pub hands_in : List (Pass T Q) → List (Hand Q)
  hands_in [] = []
  hands_in (p ∷ ps) = p.seat.me.0.hands ++ hands_in ps

  pub new_snoc : (id : TableId) (value : T) (cs : List ℕ) (ps : List (Pass T Q)) (c : ℕ) (p : Pass T Q) → AreNew id value cs ps → p.caller ≡ c → p.seat.table_id ≡ id
      → p.seat.me.0 ≡ resting value value (fresh (c ∷ [])) → AreNew id value (cs ++ c ∷ []) (ps ++ p ∷ [])
  new_snoc id value [] [] c p all a b d = (a, b, d, tt)
  new_snoc id value [] (q ∷ ps) c p bad a b d = absurd bad
  new_snoc id value (x ∷ cs) [] c p bad a b d = absurd bad
  new_snoc id value (x ∷ cs) (q ∷ ps) c p all a b d = (all.0, all.1, all.2, new_snoc id value cs ps c p all.3 a b d)

  pub each_parts : (P : Pass T Q → Type 0) (ps qs : List (Pass T Q)) → EachPass P (ps ++ qs) → EachPass P ps × EachPass P qs
  each_parts P [] qs all = (tt, all)
  each_parts P (p ∷ ps) qs all = let r = each_parts P ps qs all.1 in ((all.0, r.0), r.1)

  pub none_left : (ps : List (Pass T Q)) → length ps ≡ 0 → ps ≡ []
  none_left [] e = refl
  none_left (p ∷ ps) e = absurd (omega arith)

  pub hands_count : (ps : List (Pass T Q)) → length (hands_in ps) ≡ length ps
  hands_count [] = refl
  hands_count (p ∷ ps) =
      let r = hands_count ps in
      let one = one_hand p.seat.me.0.hands p.caller p.whose in
      let n : length p.seat.me.0.hands ≡ 1 = ap (λ (z : List (Hand Q)). length z) one.1 in
      omega (arith, length-append p.seat.me.0.hands (hands_in ps))

  pub calls_are : (c : ℕ) (ps : List (Pass T Q)) → mine_by c (hands_in ps) ≡ calls_by c ps
  calls_are c [] = refl
  calls_are c (p ∷ ps) =
      let one = one_hand p.seat.me.0.hands p.caller p.whose in
      let h : Hand Q = one.0 in
      let mine : h.mine ≡ mine_of p.seat.me.0.hands = ap (λ (z : List (Hand Q)). mine_of z) (sym one.1) in
      ap (λ (z : List (Hand Q)). mine_by c (z ++ hands_in ps)) one.1
      ∙ (λ i. if eqb (one.2 i) c then mine i else calls_are c ps i)

module _ {T Q A : Type 0} (w : Ways T Q A) where
  -- what the pass had seen is what the seat has seen, or begins it
  abbrev pub IsBehind : Pass T Q → View T Q → Type 0
  IsBehind p v = (p.seat.me.0.known ≡ v.known) ⊎ OnSeen p.seat.me.0 (λ a. OnSeen v (λ b. w.Begins a b))

  -- a seat at which these passes stand, and which has seen all that they had seen
  pub record AreBehind (ps : List (Pass T Q)) (v : View T Q) : Type 0 where
    pub hands : v.hands ≡ hands_in ps
    pub seen : EachPass (λ p. IsBehind p v) ps

  seen_on : (o q : Option (Known T)) (x : T) → IsLawful w → MatchOption o ⊥ (λ a. MatchOption q ⊥ (λ b. w.Begins a.seen b.seen)) → MatchOption q ⊥ (λ b. w.Begins b.seen x)
      → MatchOption o ⊥ (λ a. w.Begins a.seen x)
  seen_on None q x l p r = absurd p
  seen_on (Some a) None x l p r = absurd p
  seen_on (Some a) (Some b) x l p r = l.further a.seen b.seen x p r

  seen_further : (o q r : Option (Known T)) → IsLawful w → MatchOption o ⊥ (λ a. MatchOption q ⊥ (λ b. w.Begins a.seen b.seen)) → MatchOption q ⊥ (λ b. MatchOption r ⊥ (λ c. w.Begins b.seen c.seen))
      → MatchOption o ⊥ (λ a. MatchOption r ⊥ (λ c. w.Begins a.seen c.seen))
  seen_further None q r l x y = absurd x
  seen_further (Some a) None r l x y = absurd x
  seen_further (Some a) (Some b) None l x y = absurd y
  seen_further (Some a) (Some b) (Some c) l x y = l.further a.seen b.seen c.seen x y

  behind_further : (p : Pass T Q) (v x : View T Q) → IsLawful w → OnSeen v (λ a. OnSeen x (λ b. w.Begins a b)) → IsBehind p v → IsBehind p x
  behind_further p v x l more b = inr (⊎_elim
      (λ e. subst (λ (o : Option (Known T)). MatchOption o ⊥ (λ a. MatchOption x.known ⊥ (λ b. w.Begins a.seen b.seen))) (sym e) more)
      (λ on. seen_further p.seat.me.0.known v.known x.known l on more) b)

  behind_on : (p : Pass T Q) (v : View T Q) (x : T) → IsLawful w → OnSeen v (λ a. w.Begins a x) → IsBehind p v → OnSeen p.seat.me.0 (λ a. w.Begins a x)
  behind_on p v x l more b = ⊎_elim
      (λ e. subst (λ (o : Option (Known T)). MatchOption o ⊥ (λ a. w.Begins a.seen x)) (sym e) more)
      (λ on. seen_on p.seat.me.0.known v.known x l on more) b

  each_further : (ps : List (Pass T Q)) (v x : View T Q) → IsLawful w → OnSeen v (λ a. OnSeen x (λ b. w.Begins a b)) → EachPass (λ p. IsBehind p v) ps → EachPass (λ p. IsBehind p x) ps
  each_further [] v x l more all = tt
  each_further (p ∷ ps) v x l more all = (behind_further p v x l more all.0, each_further ps v x l more all.1)

  each_on : (ps : List (Pass T Q)) (v : View T Q) (x : T) → IsLawful w → OnSeen v (λ a. w.Begins a x) → EachPass (λ p. IsBehind p v) ps
      → EachPass (λ p. OnSeen p.seat.me.0 (λ a. w.Begins a x)) ps
  each_on [] v x l more all = tt
  each_on (p ∷ ps) v x l more all = (behind_on p v x l more all.0, each_on ps v x l more all.1)

  pub first_behind : (p : Pass T Q) (v : View T Q) → v ≡ p.seat.me.0 → AreBehind (p ∷ []) v
  first_behind p v same = record {
    hands = ap (λ (z : View T Q). z.hands) same ∙ sym (append-nil p.seat.me.0.hands);
    seen = (inl (ap (λ (z : View T Q). z.known) (sym same)), tt);
  }

  -- one more pass is gathered
  pub one_behind : (ps : List (Pass T Q)) (p : Pass T Q) (v x : View T Q) → IsLawful w → AreBehind ps v → x.hands ≡ p.seat.me.0.hands ++ v.hands → Gathered w v p.seat.me.0 x → AreBehind (p ∷ ps) x
  one_behind ps p v x l b hands g = record {
    hands = hands ∙ ap (λ (z : List (Hand Q)). p.seat.me.0.hands ++ z) b.hands;
    seen = (inr g.second, each_further ps v x l g.first b.seen);
  }

  pub all_ended : (start x : T) (ps : List (Pass T Q)) (v : View T Q) → IsLawful w → AreBehind ps v → Closed w start v x → Ended w start ps x
  all_ended start x ps v l b c = record {
    sound = c.sound;
    begins = c.begins;
    seen = each_on ps v x l c.seen b.seen;
    made = λ n. subst (w.Made start x n) (ap (λ (z : List (Hand Q)). mine_by n z) b.hands ∙ calls_are n ps) (c.whole n);
  }
