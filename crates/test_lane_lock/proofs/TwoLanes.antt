-- What two lanes know of the end, from what they knew at the start.
use Rattle.std.proofs.Common.{◌≡◌, ◌≢◌, ℕ, Bool, eqb, if◌then◌else◌, List, [], ◌∷◌, ◌++◌, refl, sym, ap, ◌∙◌, subst, eq-eqb, ne_eqb}
use Rattle.lane_lock.specs.declared.call.Call.{Call}
use Rattle.lane_lock.specs.declared.lock.Pass.{Pass}
use Rattle.lane_lock.specs.Turns.{mine_of}
use Rattle.lane_lock.specs.Passes.{LockId, AreNew, calls_by, Ended}
use Rattle.test_lane_lock.specs.declared.entry.Entry.{Entry}
use Rattle.test_lane_lock.specs.declared.entry.Request.{Request}
use Rattle.test_lane_lock.specs.Tallies.{tally_ways, entered}

abbrev Tickets : Type 0
Tickets = List (Pass (List Entry) Request)

-- the two passes that leave a row of two
pub record AreTwo (c d : ℕ) (x y : Pass (List Entry) Request) (rest : Tickets) : Type 0 where
  pub first : x.caller ≡ c
  pub second : y.caller ≡ d
  pub first_none : mine_of x.seat.me.0.hands ≡ []
  pub second_none : mine_of y.seat.me.0.hands ≡ []
  pub none_left : rest ≡ []

two_of : (id : LockId) (value : List Entry) (c d : ℕ) (x y : Pass (List Entry) Request) (rest : Tickets) → AreNew id value (c ∷ d ∷ []) ((rest ++ x ∷ []) ++ y ∷ []) → AreTwo c d x y rest
two_of id value c d x y [] all = record {
  first = all.0;
  second = all.3.0;
  first_none = ap (λ v. mine_of v.hands) all.2;
  second_none = ap (λ v. mine_of v.hands) all.3.2;
  none_left = refl;
}
two_of id value c d x y (p ∷ []) all = absurd all.3.3
two_of id value c d x y (p ∷ q ∷ []) all = absurd all.3.3
two_of id value c d x y (p ∷ q ∷ r ∷ rest) all = absurd all.3.3

pub are_two : (id : LockId) (value : List Entry) (c d : ℕ) (x y : Pass (List Entry) Request) (ps one rest : Tickets) → AreNew id value (c ∷ d ∷ []) ps → ps ≡ one ++ y ∷ [] → one ≡ rest ++ x ∷ []
    → AreTwo c d x y rest
are_two id value c d x y ps one rest all e f =
    two_of id value c d x y rest (subst (λ (z : Tickets). AreNew id value (c ∷ d ∷ []) z) (e ∙ ap (λ (z : Tickets). z ++ y ∷ []) f) all)

pub record AreEntered (start x : List Entry) (c d : ℕ) (p q : List (Call Request)) : Type 0 where
  pub first : entered c start x p
  pub second : entered d start x q
  pub others : (n : ℕ) → n ≢ c → n ≢ d → entered n start x []

pub both_entered : (start x : List Entry) (c d : ℕ) (a b : Pass (List Entry) Request) (ps : Tickets) (p q : List (Call Request)) → d ≢ c → ps ≡ a ∷ b ∷ [] → a.caller ≡ c → b.caller ≡ d
    → mine_of a.seat.me.0.hands ≡ p → mine_of b.seat.me.0.hands ≡ q → Ended tally_ways start ps x → AreEntered start x c d p q
both_entered start x c d a b ps p q apart is a_is b_is a_mine b_mine ended =
    let mine_a = mine_of a.seat.me.0.hands in
    let mine_b = mine_of b.seat.me.0.hands in
    let made : (n : ℕ) → entered n start x (calls_by n (a ∷ b ∷ [])) = λ n. subst (λ (z : Tickets). entered n start x (calls_by n z)) is (ended.made n) in
    let one : calls_by c (a ∷ b ∷ []) ≡ p = ap (λ (t : Bool). if t then mine_a else calls_by c (b ∷ [])) (eq-eqb a.caller c a_is) ∙ a_mine in
    let not_a : eqb a.caller d ≡ Bool.false = ne_eqb a.caller d (λ e. apart (sym e ∙ a_is)) in
    let two : calls_by d (a ∷ b ∷ []) ≡ q = ap (λ (t : Bool). if t then mine_a else calls_by d (b ∷ [])) not_a ∙ (ap (λ (t : Bool). if t then mine_b else []) (eq-eqb b.caller d b_is) ∙ b_mine) in
    record {
      first = subst (λ z. entered c start x z) one (made c);
      second = subst (λ z. entered d start x z) two (made d);
      others = λ n far away.
          let none : calls_by n (a ∷ b ∷ []) ≡ [] = ap (λ (t : Bool). if t then mine_a else calls_by n (b ∷ [])) (ne_eqb a.caller n (λ e. far (sym e ∙ a_is)))
          ∙ ap (λ (t : Bool). if t then mine_b else []) (ne_eqb b.caller n (λ e. away (sym e ∙ b_is))) in
          subst (λ z. entered n start x z) none (made n);
    }
