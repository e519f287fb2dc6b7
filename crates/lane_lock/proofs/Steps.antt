-- Each step of the lock keeps its rule.
use Rattle.std.proofs.Common.{◌≡◌, ◌≢◌, ◌⊎◌, inl, inr, ⊎_elim, ℕ, zero, suc, ◌+◌, ◌*◌, ◌<◌, ◌≤◌, nat_lt, if◌then◌else◌, Bool, true, false, eqb, List, [], ◌∷◌, ◌++◌, length, get_or, set, sym, refl, ap, ◌∙◌, subst, arith, eq-eqb, ne_eqb, length-append}
use Rattle.std.specs.Prelude.{Option, Some, None, IsSome, MatchBool, MatchOption, ⊤}
use mathlib.Core.Logic.{dite}
use mathlib.Core.Option.{some, none, some-injective, some-ne-none}
use native.Mathlib.Decide.{ℕ_discrete}
use Rattle.std.proofs.lemmas.Bool.Decides.{nat_tests}
use lib.ListN.{get_elem?}
use prog.Atomic.{either}
use Rattle.atomic_table.specs.Table.{Act, Step, keeps, takes, gives, step, stepped, Allows, Valid, put_back, carried_after, rest, Splits, Joins, Final, Seen, opening}
use Rattle.atomic_table.proofs.Lists.{at_set, set_again, set_else, set_here, at_longer}
use Rattle.lane_lock.specs.declared.call.Call.{Call}
use Rattle.lane_lock.specs.declared.view.Origin.{Origin}
use Rattle.lane_lock.specs.declared.view.Known.{Known}
use Rattle.lane_lock.specs.declared.view.Hand.{Hand}
use Rattle.lane_lock.specs.declared.view.View.{View}
use Rattle.lane_lock.specs.Ways.{Ways, IsLawful, call_to}
use Rattle.lane_lock.specs.Turns.{Board, Sat, Each, AllHands, Apart, fresh, known_as, hands_of, newcomer, spent, calm, copied, later_hands, first_hand, cut_left, cut_right, OnKnown, holding, resting, with_call, joined_known, joined, IsKnown, IsView, Home, Out, Opening, KeptBy, Kept, Took, Takes, Turned, hands_after, Releases, Starts, Learns, DiffersFrom, AreDistinct, callers_of, HasCaller, mine_by, StandsAt, mine_of, Called, Closed}

-- ---- lists

-- a fact of each view stays where one view is changed to one of which it holds
each_set : {V : Type 0} (P Q : ℕ → V → Type 0) (views : List V) (id : ℕ) (w : V) → Each P views → Q id w
    → ((i : ℕ) (v : V) → i ≢ id → P i v → Q i v) → Each Q (set views id w)
each_set {V} P Q views id w all here others i v at =
    ⊎_elim (λ t. subst (λ (z : ℕ × V). Q z.0 z.1) (λ k. (sym t.0 k, t.1 k)) here)
    (λ t. others i v t.0 (all i v t.1)) (at_set views id i w v at)

-- at_snoc, with the place
at_end : {V : Type 0} (l : List V) (a b : V) (j : ℕ) → get_elem? (l ++ a ∷ []) j ≡ some b → (get_elem? l j ≡ some b) ⊎ ((j ≡ length l) × (a ≡ b))
at_end [] a b zero e = inr (refl, some-injective a b e)
at_end [] a b (suc j) e = absurd (some-ne-none b (sym e))
at_end (x ∷ xs) a b zero e = inl e
at_end (x ∷ xs) a b (suc j) e = ⊎_elim (λ old. inl old) (λ t. inr (ap suc t.0, t.1)) (at_end xs a b j e)

last_of : {V : Type 0} (l : List V) (a : V) → get_elem? (l ++ a ∷ []) (length l) ≡ some a
last_of [] a = refl
last_of (x ∷ xs) a = last_of xs a

each_snoc : {V : Type 0} (P : ℕ → V → Type 0) (views : List V) (w : V) → Each P views → P (length views) w → Each P (views ++ w ∷ [])
each_snoc {V} P views w all here i v at =
    ⊎_elim (λ old. all i v old) (λ t. subst (λ (z : ℕ × V). P z.0 z.1) (λ k. (sym t.0 k, t.1 k)) here) (at_end views w v i at)

within : {V : Type 0} (l : List V) (i : ℕ) (v : V) → get_elem? l i ≡ some v → i < length l
within [] i v e = absurd (some-ne-none v (sym e))
within (x ∷ xs) zero v e = omega arith
within (x ∷ xs) (suc i) v e = let r = within xs i v e in omega arith

same_words : (ws : List ℕ) (n : ℕ) → length ws ≡ 1 → n ≡ get_or ws 0 0 → set ws 0 n ≡ ws
same_words [] n one is = absurd (omega arith)
same_words (x ∷ xs) n one is = ap (λ (y : ℕ). y ∷ xs) is

some_of : {X : Type 0} (o : Option X) → MatchOption o ⊥ (λ _. ⊤) → (x : X) × (o ≡ Some x)
some_of None bad = absurd bad
some_of (Some x) good = (x, refl)

-- ---- the callers of a seat

hands_map : {Q : Type 0} (P R : Hand Q → Type 0) (hs : List (Hand Q)) → ((h : Hand Q) → P h → R h) → AllHands P hs → AllHands R hs
hands_map P R [] f all = tt
hands_map P R (h ∷ hs) f all = (f h all.0, hands_map P R hs f all.1)

hands_both : {Q : Type 0} (P R S : Hand Q → Type 0) (hs : List (Hand Q)) → ((h : Hand Q) → P h → R h → S h) → AllHands P hs → AllHands R hs → AllHands S hs
hands_both P R S [] f p r = tt
hands_both P R S (h ∷ hs) f p r = (f h p.0 r.0, hands_both P R S hs f p.1 r.1)

hands_join : {Q : Type 0} (P : Hand Q → Type 0) (gs hs : List (Hand Q)) → AllHands P gs → AllHands P hs → AllHands P (gs ++ hs)
hands_join P [] hs a b = b
hands_join P (g ∷ gs) hs a b = (a.0, hands_join P gs hs a.1 b)

apart_join : {Q : Type 0} (owner : ℕ → ℕ) (i j : ℕ) (gs hs : List (Hand Q)) → i ≢ j → AllHands (λ h. owner h.caller ≡ i) gs → AllHands (λ h. owner h.caller ≡ j) hs
    → Apart gs → Apart hs → Apart (gs ++ hs)
apart_join owner i j [] hs ne a b p q = q
apart_join owner i j (g ∷ gs) hs ne a b p q = (
  hands_join (λ h. h.caller ≢ g.caller) gs hs p.0 (hands_map (λ h. owner h.caller ≡ j) (λ h. h.caller ≢ g.caller) hs (λ h is e. ne (sym a.0 ∙ (ap owner (sym e) ∙ is))) b),
  apart_join owner i j gs hs ne a.1 b p.1 q,
)

-- a seat at which just this caller stands
pub one_hand : {Q : Type 0} (hs : List (Hand Q)) (c : ℕ) → callers_of hs ≡ c ∷ [] → (h : Hand Q) × (hs ≡ h ∷ []) × (h.caller ≡ c)
one_hand [] c e = absurd (cc)
one_hand (h ∷ []) c e = (h, refl, cc)
one_hand (h ∷ g ∷ gs) c e = let n : length (callers_of (h ∷ g ∷ gs)) ≡ 1 = ap (λ (z : List ℕ). length z) e in absurd (omega arith)

has_left : {Q : Type 0} (c : ℕ) (gs hs : List (Hand Q)) → HasCaller c gs → HasCaller c (gs ++ hs)
has_left c [] hs bad = absurd bad
has_left c (g ∷ gs) hs has = ⊎_elim (λ e. inl e) (λ r. inr (has_left c gs hs r)) has

has_right : {Q : Type 0} (c : ℕ) (gs hs : List (Hand Q)) → HasCaller c hs → HasCaller c (gs ++ hs)
has_right c [] hs has = has
has_right c (g ∷ gs) hs has = inr (has_right c gs hs has)

has_some : {Q : Type 0} (c : ℕ) (hs : List (Hand Q)) → HasCaller c hs → 0 < length hs
has_some c [] bad = absurd bad
has_some c (h ∷ hs) has = omega arith

-- where all calls of a caller are known here, they are what is kept of it here
mine_is : {Q : Type 0} (mine : ℕ → List (Call Q)) (c : ℕ) (hs : List (Hand Q)) → AllHands (λ h. h.mine ≡ mine h.caller) hs → (mine c ≡ []) ⊎ HasCaller c hs → mine_by c hs ≡ mine c
mine_is mine c [] all has = ⊎_elim (λ idle. sym idle) (λ bad. absurd bad) has
mine_is {Q} mine c (h ∷ hs) all has = dite (ℕ_discrete h.caller c)
    (λ e. ap (λ (b : Bool). if b then h.mine else mine_by c hs) (eq-eqb h.caller c e) ∙ (all.0 ∙ ap mine e))
    (λ ne. ap (λ (b : Bool). if b then h.mine else mine_by c hs) (ne_eqb h.caller c ne)
    ∙ mine_is mine c hs all.1 (⊎_elim (λ idle. inl idle) (λ x. ⊎_elim (λ e. absurd (ne e)) (λ r. inr r) x) has))

-- the calls of each caller, where one makes one more
more_mine : {Q : Type 0} → (ℕ → List (Call Q)) → ℕ → Call Q → ℕ → List (Call Q)
more_mine mine c x d = if eqb d c then mine d ++ x ∷ [] else mine d

more_here : {Q : Type 0} (mine : ℕ → List (Call Q)) (c : ℕ) (x : Call Q) → more_mine mine c x c ≡ mine c ++ x ∷ []
unfolding more_mine
more_here {Q} mine c x = ap (λ (b : Bool). if b then mine c ++ x ∷ [] else mine c) (eq-eqb c c refl)

more_else : {Q : Type 0} (mine : ℕ → List (Call Q)) (c : ℕ) (x : Call Q) (d : ℕ) → d ≢ c → more_mine mine c x d ≡ mine d
unfolding more_mine
more_else {Q} mine c x d ne = ap (λ (b : Bool). if b then mine d ++ x ∷ [] else mine d) (ne_eqb d c ne)

-- the seat of each caller, where one changes
moved : (ℕ → ℕ) → ℕ → ℕ → ℕ → ℕ
moved owner c i d = if eqb d c then i else owner d

moved_here : (owner : ℕ → ℕ) (c i : ℕ) → moved owner c i c ≡ i
unfolding moved
moved_here owner c i = ap (λ (b : Bool). if b then i else owner c) (eq-eqb c c refl)

moved_else : (owner : ℕ → ℕ) (c i d : ℕ) → d ≢ c → moved owner c i d ≡ owner d
unfolding moved
moved_else owner c i d ne = ap (λ (b : Bool). if b then i else owner d) (ne_eqb d c ne)

-- the seat of each caller, where all of one seat go to another
merged : (ℕ → ℕ) → ℕ → ℕ → ℕ → ℕ
merged owner from to d = if eqb (owner d) from then to else owner d

merged_here : (owner : ℕ → ℕ) (from to d : ℕ) → owner d ≡ from → merged owner from to d ≡ to
unfolding merged
merged_here owner from to d is = ap (λ (b : Bool). if b then to else owner d) (eq-eqb (owner d) from is)

merged_else : (owner : ℕ → ℕ) (from to d : ℕ) → owner d ≢ from → merged owner from to d ≡ owner d
unfolding merged
merged_else owner from to d ne = ap (λ (b : Bool). if b then to else owner d) (ne_eqb (owner d) from ne)

module _ {T Q : Type 0} where
  hands-set : (l : List (View T Q)) (i : ℕ) (v w : View T Q) → get_elem? l i ≡ some v → hands_of (set l i w) + length v.hands ≡ hands_of l + length w.hands
  hands-set [] i v w e = absurd (some-ne-none v (sym e))
  hands-set (x ∷ xs) zero v w e = let is : length x.hands ≡ length v.hands = ap (λ (m : View T Q). length m.hands) (some-injective x v e) in omega arith
  hands-set (x ∷ xs) (suc i) v w e = let r = hands-set xs i v w e in omega arith

  hands-snoc : (l : List (View T Q)) (w : View T Q) → hands_of (l ++ w ∷ []) ≡ hands_of l + length w.hands
  hands-snoc [] w = omega arith
  hands-snoc (x ∷ xs) w = let r = hands-snoc xs w in omega arith

  hands-at : (l : List (View T Q)) (i : ℕ) (v : View T Q) → get_elem? l i ≡ some v → length v.hands ≤ hands_of l
  hands-at [] i v e = absurd (some-ne-none v (sym e))
  hands-at (x ∷ xs) zero v e = let is : length x.hands ≡ length v.hands = ap (λ (m : View T Q). length m.hands) (some-injective x v e) in omega arith
  hands-at (x ∷ xs) (suc i) v e = let r = hands-at xs i v e in omega arith

  -- a view is changed, and its callers stay
  standing_set : (l : List (View T Q)) (mine : ℕ → List (Call Q)) (owner : ℕ → ℕ) (i : ℕ) (v w : View T Q) → get_elem? l i ≡ some v → ((c : ℕ) → HasCaller c v.hands → HasCaller c w.hands)
      → ((c : ℕ) → StandsAt l mine owner c) → (c : ℕ) → StandsAt (set l i w) mine owner c
  standing_set l mine owner i v w at stay all c =
      ⊎_elim (λ idle. inl idle) (λ t. inr (dite (ℕ_discrete (owner c) i)
      (λ e.
      let here : get_elem? l i ≡ some t.0 = subst (λ (k : ℕ). get_elem? l k ≡ some t.0) e t.1 in
      let is : t.0 ≡ v = some-injective t.0 v (sym here ∙ at) in
      (w, subst (λ (k : ℕ). get_elem? (set l i w) k ≡ some w) (sym e) (set_here l i w (within l i v at)), stay c (subst (λ (z : View T Q). HasCaller c z.hands) is t.2)))
      (λ ne. (t.0, set_else l i (owner c) w ne ∙ t.1, t.2)))) (all c)

  standing_snoc : (l : List (View T Q)) (mine : ℕ → List (Call Q)) (owner : ℕ → ℕ) (w : View T Q) → ((c : ℕ) → StandsAt l mine owner c) → (c : ℕ) → StandsAt (l ++ w ∷ []) mine owner c
  standing_snoc l mine owner w all c = ⊎_elim (λ idle. inl idle) (λ t. inr (t.0, at_longer l (w ∷ []) (owner c) t.0 t.1, t.2)) (all c)

  -- one caller alone stands at a seat, and makes one more call
  standing_more : (l : List (View T Q)) (mine : ℕ → List (Call Q)) (owner : ℕ → ℕ) (d : ℕ) (call : Call Q) (i : ℕ) (v : View T Q) (h : Hand Q) (w : View T Q) → get_elem? l i ≡ some v → v.hands ≡ h ∷ []
      → owner d ≡ i → w.hands ≡ record { caller = d; mine = h.mine ++ call ∷ [] } ∷ [] → h.caller ≡ d → ((c : ℕ) → StandsAt l mine owner c) → (c : ℕ) → StandsAt (set l i w) (more_mine mine d call) owner c
  standing_more l mine owner d call i v h w at one is new caller all c =
      dite (ℕ_discrete c d)
      (λ e. inr (w, subst (λ (k : ℕ). get_elem? (set l i w) k ≡ some w) (sym (ap owner e ∙ is)) (set_here l i w (within l i v at)), subst (λ (z : List (Hand Q)). HasCaller c z) (sym new) (inl (sym e))))
      (λ ne. ⊎_elim (λ idle. inl (more_else mine d call c ne ∙ idle)) (λ t. inr t)
      (standing_set l mine owner i v w at
      (λ b x. subst (λ (z : List (Hand Q)). HasCaller b z) (sym new) (⊎_elim (λ e. inl (sym caller ∙ e)) (λ bad. absurd bad) (subst (λ (z : List (Hand Q)). HasCaller b z) one x))) all c))

  -- the first caller of a seat gets a seat of its own
  standing_cut : (l : List (View T Q)) (mine : ℕ → List (Call Q)) (owner : ℕ → ℕ) (i : ℕ) (v : View T Q) (h : Hand Q) (hs : List (Hand Q)) (left right : View T Q) → get_elem? l i ≡ some v → v.hands ≡ h ∷ hs
      → left.hands ≡ hs → right.hands ≡ h ∷ [] → ((c : ℕ) → StandsAt l mine owner c) → (c : ℕ) → StandsAt (set l i left ++ right ∷ []) mine (moved owner h.caller (length (set l i left))) c
  standing_cut l mine owner i v h hs left right at is left_is right_is all c =
      let owner' : ℕ → ℕ = moved owner h.caller (length (set l i left)) in
      dite (ℕ_discrete c h.caller)
      (λ e. inr (
        right,
        subst (λ (k : ℕ). get_elem? (set l i left ++ right ∷ []) k ≡ some right) (sym (ap owner' e ∙ moved_here owner h.caller (length (set l i left)))) (last_of (set l i left) right),
        subst (λ (z : List (Hand Q)). HasCaller c z) (sym right_is) (inl (sym e)),
      ))
      (λ ne. ⊎_elim (λ idle. inl idle) (λ t. inr (dite (ℕ_discrete (owner c) i)
      (λ e.
      let here : get_elem? l i ≡ some t.0 = subst (λ (k : ℕ). get_elem? l k ≡ some t.0) e t.1 in
      let same : t.0 ≡ v = some-injective t.0 v (sym here ∙ at) in
      let among : HasCaller c (h ∷ hs) = subst (λ (z : List (Hand Q)). HasCaller c z) (ap (λ (z : View T Q). z.hands) same ∙ is) t.2 in (
        left,
        subst (λ (k : ℕ). get_elem? (set l i left ++ right ∷ []) k ≡ some left) (sym (moved_else owner h.caller (length (set l i left)) c ne ∙ e))
            (at_longer (set l i left) (right ∷ []) i left (set_here l i left (within l i v at))),
        subst (λ (z : List (Hand Q)). HasCaller c z) (sym left_is) (⊎_elim (λ f. absurd (ne (sym f))) (λ x. x) among),
      ))
      (λ far. (
        t.0,
        subst (λ (k : ℕ). get_elem? (set l i left ++ right ∷ []) k ≡ some t.0) (sym (moved_else owner h.caller (length (set l i left)) c ne))
            (at_longer (set l i left) (right ∷ []) (owner c) t.0 (set_else l i (owner c) left far ∙ t.1)),
        t.2,
      )))) (all c))

  -- all callers of one seat go to another
  standing_joined : (l : List (View T Q)) (mine : ℕ → List (Call Q)) (owner : ℕ → ℕ) (i j : ℕ) (v u both gone : View T Q) → get_elem? l i ≡ some v → get_elem? l j ≡ some u → i ≢ j
      → both.hands ≡ u.hands ++ v.hands → ((c : ℕ) → StandsAt l mine owner c) → (c : ℕ) → StandsAt (set (set l i both) j gone) mine (merged owner j i) c
  standing_joined l mine owner i j v u both gone at at_other differ both_is all c =
      let next : List (View T Q) = set (set l i both) j gone in
      let here : get_elem? next i ≡ some both = set_else (set l i both) j i gone differ ∙ set_here l i both (within l i v at) in
      let found : (z : View T Q) → HasCaller c z.hands → owner c ≡ i → (z ≡ v) → (w : View T Q) × (get_elem? next (merged owner j i c) ≡ some w) × HasCaller c w.hands =
      λ z has e same. (
        both,
        subst (λ (k : ℕ). get_elem? next k ≡ some both) (sym (merged_else owner j i c (λ x. differ (sym e ∙ x)) ∙ e)) here,
        subst (λ (y : List (Hand Q)). HasCaller c y) (sym both_is) (has_right c u.hands v.hands (subst (λ (y : View T Q). HasCaller c y.hands) same has)),
      ) in
      ⊎_elim (λ idle. inl idle) (λ t. inr (dite (ℕ_discrete (owner c) j)
      (λ e.
      let there : get_elem? l j ≡ some t.0 = subst (λ (k : ℕ). get_elem? l k ≡ some t.0) e t.1 in
      let same : t.0 ≡ u = some-injective t.0 u (sym there ∙ at_other) in (
        both,
        subst (λ (k : ℕ). get_elem? next k ≡ some both) (sym (merged_here owner j i c e)) here,
        subst (λ (y : List (Hand Q)). HasCaller c y) (sym both_is) (has_left c u.hands v.hands (subst (λ (y : View T Q). HasCaller c y.hands) same t.2)),
      ))
      (λ far. dite (ℕ_discrete (owner c) i)
      (λ e. found t.0 t.2 e (some-injective t.0 v (sym (subst (λ (k : ℕ). get_elem? l k ≡ some t.0) e t.1) ∙ at)))
      (λ apart. (
        t.0,
        subst (λ (k : ℕ). get_elem? next k ≡ some t.0) (sym (merged_else owner j i c far)) (set_else (set l i both) j (owner c) gone far ∙ (set_else l i (owner c) both apart ∙ t.1)),
        t.2,
      ))))) (all c)

  same_count : (l : List (View T Q)) (i n : ℕ) (v w : View T Q) → get_elem? l i ≡ some v → length w.hands ≡ length v.hands → hands_of l ≡ n → hands_of (set l i w) ≡ n
  same_count l i n v w at e total = let r = hands-set l i v w at in omega arith

module _ {T Q A : Type 0} (w : Ways T Q A) where
  one_word : (o : Origin T) (s : Board T Q) → Kept w o s → length s.words ≡ 1
  one_word o s (now, mine, owner, k) =
      ⊎_elim (λ (h : Home w s now). ap length h.words)
      (⊎_elim (λ (t : Out w s now). ap length t.words) (λ (t : Opening w o s now). ap length t.words)) k.place

  -- nothing changes
  stays : (o : Origin T) (s : Board T Q) (id n : ℕ) (me : Sat T Q) → Kept w o s → get_elem? s.views id ≡ some me.0 → n ≡ get_or s.words 0 0
      → length s.words ≡ 1 → Kept w o (stepped s 0 n id me.1 me.0 keeps)
  stays o s id n me k at is one =
      let ws = same_words s.words n one is in
      let vs = set_again s.views id me.0 at in
      let whole : stepped s 0 n id me.1 me.0 keeps ≡ s = λ i. record { words = ws i; homes = s.homes; views = vs i } in
      subst (Kept w o) (sym whole) k

  known_now : (start now : T) → IsLawful w → w.IsSound now → IsKnown w start now (known_as start now)
  known_now start now l sound = record {
    start_is = refl;
    sound = sound;
    begins = l.same now sound;
    one = l.same now sound;
    two = l.same now sound;
  }

  -- the holder of the turn fits the rule
  view_holding : (o : Origin T) (now : T) (mine : ℕ → List (Call Q)) (owner : ℕ → ℕ) (i : ℕ) (v : View T Q) → IsLawful w → w.IsSound now → 0 < length v.hands
      → IsView w o.value now mine owner i v → IsView w o.value now mine owner i (holding o.value now v.hands)
  view_holding o now mine owner i v l sound some_hand is = record {
    known = known_now o.value now l sound;
    hands = is.hands;
    apart = is.apart;
    turn = λ _. (some_hand, refl);
  }

  -- ---- the turn is taken where the value is at home

  taken : (o : Origin T) (s : Board T Q) (now : T) (mine : ℕ → List (Call Q)) (owner : ℕ → ℕ) (id half : ℕ) (me : Sat T Q) → IsLawful w → KeptBy w o s now mine owner → Home w s now
      → get_or s.words 0 0 ≡ 2 * half → get_elem? s.views id ≡ some me.0 → 0 < length me.0.hands
      → Kept w o (stepped s 0 (2 * half + 1) id me.1 (holding o.value now me.0.hands) (takes 0 (Some now)))
  taken o s now mine owner id half me l k h hit at some_hand =
      let u : View T Q = holding o.value now me.0.hands in
      let found : get_or s.words 0 0 ≡ 2 * w.size now = ap (λ (ws : List ℕ). get_or ws 0 0) h.words in
      let odd : 2 * half + 1 ≡ 2 * w.size now + 1 = omega arith in
      let out : Out w (stepped s 0 (2 * half + 1) id me.1 u (takes 0 (Some now))) now = record {
        words = ap (λ (ws : List ℕ). set ws 0 (2 * half + 1)) h.words ∙ ap (λ (y : ℕ). y ∷ []) odd;
        homes = ap (λ hs. set hs 0 none) h.homes;
        holder = id;
        held = (u, set_here s.views id u (within s.views id me.0 at), refl);
        alone = each_set (λ i v. v.turn ≡ false) (λ i v. v.turn ≡ true → i ≡ id) s.views id u h.idle (λ _. refl) (λ i v ne no yes. absurd (cc));
        begun = each_set (λ i v. v.first ≡ false) (λ i v. v.first ≡ false) s.views id u h.begun refl (λ i v ne no. no);
      } in (
        now,
        mine,
        owner,
        record {
          sound = k.sound;
          begun = k.begun;
          made = k.made;
          views = each_set (IsView w o.value now mine owner) (IsView w o.value now mine owner) s.views id u k.views
              (view_holding o now mine owner id me.0 l k.sound some_hand (k.views id me.0 at)) (λ i v ne p. p);
          standing = standing_set s.views mine owner id me.0 u at (λ c x. x) k.standing;
          count = same_count s.views id (length o.callers.items) me.0 u at refl k.count;
          place = inr (inl out);
        },
      )

  abbrev Takable : (o : Origin T) (slots id : ℕ) (me : Sat T Q) (half : ℕ) (s : Board T Q) → Type 0
  Takable o slots id me half s =
      let x : ℕ = get_or s.words 0 0 in
      (u : View T Q) × (a : Act (Option T)) × Valid s.homes me.1 a × Kept w o (stepped s 0 (either (eqb x (2 * half)) (2 * half + 1) x) id me.1 u a)
      × Takes w (step slots 0 (2 * half) (2 * half + 1) none) me x (u, carried_after me.1 a)

  takes_miss : (o : Origin T) (slots id : ℕ) (me : Sat T Q) (half : ℕ) (s : Board T Q) → Kept w o s → get_elem? s.views id ≡ some me.0 → get_or s.words 0 0 ≢ 2 * half
      → Takable o slots id me half s
  takes_miss o slots id me half s k at miss =
      let x : ℕ = get_or s.words 0 0 in (
        me.0,
        keeps,
        tt,
        subst (λ (b : Bool). Kept w o (stepped s 0 (either b (2 * half + 1) x) id me.1 me.0 keeps)) (sym (ne_eqb x (2 * half) miss)) (stays o s id x me k at refl (one_word o s k)),
        subst (λ (b : Bool). MatchBool b (Took w me me) (me ≡ me)) (sym (ne_eqb x (2 * half) miss)) refl,
      )

  known_is : (start now : T) (ok : Option (Known T)) (k : Known T) → ok ≡ Some k → MatchOption ok ⊤ (IsKnown w start now) → IsKnown w start now k
  known_is start now ok k e is = subst (λ (z : Option (Known T)). MatchOption z ⊤ (IsKnown w start now)) e is

  takes_home : (o : Origin T) (slots id : ℕ) (me : Sat T Q) (half : ℕ) (s : Board T Q) (now : T) (mine : ℕ → List (Call Q)) (owner : ℕ → ℕ) → IsLawful w → KeptBy w o s now mine owner → Home w s now
      → get_elem? s.views id ≡ some me.0 → get_or s.words 0 0 ≡ 2 * half → 0 < length me.0.hands → OnKnown me.0 (λ _. ⊤) → Takable o slots id me half s
  takes_home o slots id me half s now mine owner l k h at hit some_hand live =
      let x : ℕ = get_or s.words 0 0 in
      let m : Sat T Q = (holding o.value now me.0.hands, (0, Some now) ∷ me.1) in
      let there = some_of me.0.known live in
      let kn = known_is o.value now me.0.known there.0 there.1 (k.views id me.0 at).known in
      let took : Took w me m = record {
        value = now;
        start = o.value;
        start_is = subst (λ (z : Option (Known T)). MatchOption z ⊥ (λ (y : Known T). y.start ≡ o.value)) (sym there.1) kn.start_is;
        slot = refl;
        view = refl;
        sound = k.sound;
        later = subst (λ (z : Option (Known T)). MatchOption z ⊥ (λ (y : Known T). w.Begins y.seen now)) (sym there.1) kn.begins;
        made = hands_map (λ h. (owner h.caller ≡ id) × (h.mine ≡ mine h.caller)) (λ h. w.Made o.value now h.caller h.mine) me.0.hands
            (λ h is. subst (λ (calls : List (Call Q)). w.Made o.value now h.caller calls) (sym is.1) (k.made h.caller)) (k.views id me.0 at).hands;
      } in (
        holding o.value now me.0.hands,
        takes 0 (Some now),
        ap (λ hs. get_elem? hs 0) h.homes,
        subst (λ (b : Bool). Kept w o (stepped s 0 (either b (2 * half + 1) x) id me.1 (holding o.value now me.0.hands) (takes 0 (Some now)))) (sym (eq-eqb x (2 * half) hit)) (taken o s now mine owner id half me l k h hit at some_hand),
        subst (λ (b : Bool). MatchBool b (Took w me m) (m ≡ me)) (sym (eq-eqb x (2 * half) hit)) took,
      )

  takes_hit : (o : Origin T) (slots id : ℕ) (me : Sat T Q) (half : ℕ) (s : Board T Q) → IsLawful w → Kept w o s → get_elem? s.views id ≡ some me.0 → get_or s.words 0 0 ≡ 2 * half
      → 0 < length me.0.hands → OnKnown me.0 (λ _. ⊤) → Takable o slots id me half s
  takes_hit o slots id me half s l (now, mine, owner, k) at hit some_hand live =
      ⊎_elim (λ (h : Home w s now). takes_home o slots id me half s now mine owner l k h at hit some_hand live)
      (⊎_elim (λ (t : Out w s now). let f : get_or s.words 0 0 ≡ 2 * w.size now + 1 = ap (λ (ws : List ℕ). get_or ws 0 0) t.words in absurd (omega arith))
      (λ (t : Opening w o s now). let f : get_or s.words 0 0 ≡ 2 * w.size now + 1 = ap (λ (ws : List ℕ). get_or ws 0 0) t.words in absurd (omega arith)))
      k.place

  pub takes_turn : (o : Origin T) (slots id : ℕ) (me : Sat T Q) (half : ℕ) → IsLawful w → 0 < length me.0.hands → OnKnown me.0 (λ _. ⊤)
      → Allows (Kept w o) slots id me 0 (λ n. either (eqb n (2 * half)) (2 * half + 1) n) (Takes w (step slots 0 (2 * half) (2 * half + 1) none) me)
  takes_turn o slots id me half l some_hand live s k len at small =
      dite (ℕ_discrete (get_or s.words 0 0) (2 * half)) (λ hit. takes_hit o slots id me half s l k at hit some_hand live) (takes_miss o slots id me half s k at)

  -- ---- the first turn

  opens : (o : Origin T) (slots id : ℕ) (me : Sat T Q) → IsLawful w → me.1 ≡ [] → me.0 ≡ newcomer o → 0 < length o.callers.items → (s : Board T Q) (now : T) (mine : ℕ → List (Call Q)) (owner : ℕ → ℕ)
      → KeptBy w o s now mine owner → Opening w o s now → get_elem? s.views id ≡ some me.0 → 0 < length me.0.hands
      → (u : View T Q) × (a : Act (Option T)) × Valid s.homes me.1 a × Kept w o (stepped s 0 (get_or s.words 0 0) id me.1 u a)
      × Starts w (step slots 0 0 0 none) me (get_or s.words 0 0) (u, carried_after me.1 a)
  opens o slots id me l free new some_caller s now mine owner k t at some_hand =
      let x : ℕ = get_or s.words 0 0 in
      let u : View T Q = holding o.value o.value me.0.hands in
      let found : x ≡ 2 * w.size now + 1 = ap (λ (ws : List ℕ). get_or ws 0 0) t.words in
      let is : IsView w o.value now mine owner id u = subst (λ (z : T). IsView w o.value now mine owner id (holding o.value z me.0.hands)) t.new
      (view_holding o now mine owner id me.0 l k.sound some_hand (k.views id me.0 at)) in
      let out : Out w (stepped s 0 x id me.1 u (takes 0 None)) now = record {
        words = ap (λ (ws : List ℕ). set ws 0 x) t.words ∙ ap (λ (y : ℕ). y ∷ []) found;
        homes = ap (λ hs. set hs 0 none) t.homes;
        holder = id;
        held = (u, set_here s.views id u (within s.views id me.0 at), refl);
        alone = each_set (λ i v. v.turn ≡ false) (λ i v. v.turn ≡ true → i ≡ id) s.views id u t.idle (λ _. refl) (λ i v ne no yes. absurd (cc));
        begun = each_set (λ i v. (i ≡ 0) × (v.first ≡ true)) (λ i v. v.first ≡ false) s.views id u t.lone refl (λ i v ne z. absurd (ne (z.0 ∙ sym (t.lone id me.0 at).0)));
      } in (
        u,
        takes 0 None,
        ap (λ hs. get_elem? hs 0) t.homes,
        (
          now,
          mine,
          owner,
          record {
            sound = k.sound;
            begun = k.begun;
            made = k.made;
            views = each_set (IsView w o.value now mine owner) (IsView w o.value now mine owner) s.views id u k.views is (λ i v ne p. p);
            standing = standing_set s.views mine owner id me.0 u at (λ c x. x) k.standing;
            count = same_count s.views id (length o.callers.items) me.0 u at refl k.count;
            place = inr (inl out);
          },
        ),
        (
          subst (λ (z : View T Q). OnKnown z (λ y. u ≡ holding y.start y.start me.0.hands)) (sym new) refl,
          ap (λ c. (0, None) ∷ c) free,
        ),
      )

  pub starts : (o : Origin T) (slots id : ℕ) (me : Sat T Q) → IsLawful w → me.1 ≡ [] → me.0 ≡ newcomer o → 0 < length o.callers.items → 0 < length me.0.hands
      → Allows (Kept w o) slots id me 0 (λ n. n) (Starts w (step slots 0 0 0 none) me)
  starts o slots id me l free new some_caller some_hand s (now, mine, owner, k) len at small =
      let fresh_first : me.0.first ≡ true = ap (λ (z : View T Q). z.first) new in
      ⊎_elim (λ (h : Home w s now). let no : me.0.first ≡ false = h.begun id me.0 at in absurd (cc))
      (⊎_elim (λ (t : Out w s now). let no : me.0.first ≡ false = t.begun id me.0 at in absurd (cc))
      (λ (t : Opening w o s now). opens o slots id me l free new some_caller s now mine owner k t at some_hand))
      k.place

  pub learns : (o : Origin T) (slots id : ℕ) (me : Sat T Q) → Allows (Kept w o) slots id me 0 (λ n. n) (Learns w (step slots 0 0 0 none) me)
  learns o slots id me s (now, mine, owner, k) len at small =
      let x : ℕ = get_or s.words 0 0 in
      let kept : Kept w o s = (now, mine, owner, k) in
      (me.0, keeps, tt, stays o s id x me kept at refl (one_word o s kept), (refl, told me.0.known (k.views id me.0 at).known))
    where
      told : (ok : Option (Known T)) → MatchOption ok ⊤ (IsKnown w o.value now) → MatchOption ok ⊤ (λ k. w.Begins k.one k.seen × w.Begins k.two k.seen)
      told None is = tt
      told (Some k) is = (is.one, is.two)

  -- ---- the value is given back

  abbrev Givable : (o : Origin T) (slots id : ℕ) (me : Sat T Q) (requests : List Q) (y : T) (s : Board T Q) → Type 0
  Givable o slots id me requests y s =
      (u : View T Q) × (a : Act (Option T)) × Valid s.homes me.1 a × Kept w o (stepped s 0 (2 * w.size y) id me.1 u a)
      × Releases w requests (step slots 0 (2 * w.size y) 0 none) me (2 * w.size y) (u, carried_after me.1 a)

  -- what the rule says of the place, once the value y is back
  home_after : (o : Origin T) (s : Board T Q) (now y : T) (id : ℕ) (me : Sat T Q) (hands : List (Hand Q)) → Out w s now → get_elem? s.views id ≡ some me.0 → me.0.turn ≡ true → me.1 ≡ (0, Some y) ∷ []
      → Home w (stepped s 0 (2 * w.size y) id me.1 (resting o.value y hands) gives) y
  home_after o s now y id me hands t at turn held =
      let u : View T Q = resting o.value y hands in
      let here = t.alone id me.0 at turn in
      record {
        words = ap (λ (ws : List ℕ). set ws 0 (2 * w.size y)) t.words;
        homes = ap (λ c. put_back s.homes c) held ∙ ap (λ hs. set hs 0 (some (Some y))) t.homes;
        idle = each_set (λ i v. v.turn ≡ true → i ≡ t.holder) (λ i v. v.turn ≡ false) s.views id u t.alone refl
            (λ i v ne p. not_turn v.turn (λ yes. ne (p yes ∙ sym here)));
        begun = each_set (λ i v. v.first ≡ false) (λ i v. v.first ≡ false) s.views id u t.begun refl (λ i v ne no. no);
      }
    where
      not_turn : (b : Bool) → ¬ (b ≡ true) → b ≡ false
      not_turn false f = refl
      not_turn true f = absurd (f refl)

  other_view : IsLawful w → (o : Origin T) (x y : T) (mine : ℕ → List (Call Q)) (owner : ℕ → ℕ) (c id holder : ℕ) (call : Call Q) → w.Begins x y → owner c ≡ id → id ≡ holder
      → (i : ℕ) (v : View T Q) → i ≢ id → (v.turn ≡ true → i ≡ holder) → IsView w o.value x mine owner i v → IsView w o.value y (more_mine mine c call) owner i v
  other_view l o x y mine owner c id holder call more is held i v ne alone p = record {
    known = later v.known p.known;
    hands = hands_map (λ h. (owner h.caller ≡ i) × (h.mine ≡ mine h.caller)) (λ h. (owner h.caller ≡ i) × (h.mine ≡ more_mine mine c call h.caller)) v.hands
        (λ h q. (q.0, q.1 ∙ sym (more_else mine c call h.caller (λ e. ne (sym q.0 ∙ (ap owner e ∙ is)))))) p.hands;
    apart = p.apart;
    turn = λ yes. absurd (ne (alone yes ∙ sym held));
  }
    where
      later : (ok : Option (Known T)) → MatchOption ok ⊤ (IsKnown w o.value x) → MatchOption ok ⊤ (IsKnown w o.value y)
      later None k = tt
      later (Some known) k = record { start_is = k.start_is; sound = k.sound; begins = l.further known.seen x y k.begins more; one = k.one; two = k.two }

  view_resting : (o : Origin T) (now : T) (mine : ℕ → List (Call Q)) (owner : ℕ → ℕ) (i : ℕ) (v : View T Q) → IsLawful w → w.IsSound now
      → IsView w o.value now mine owner i v → IsView w o.value now mine owner i (resting o.value now v.hands)
  view_resting o now mine owner i v l sound is = record {
    known = known_now o.value now l sound;
    hands = is.hands;
    apart = is.apart;
    turn = λ yes. absurd (cc);
  }

  after_same : (x y : T) (hands : List (Hand Q)) (requests : List Q) → eqb (w.size y) (w.size x) ≡ true → hands_after w x y hands requests ≡ hands
  after_same x y hands [] same = refl
  after_same x y hands (q ∷ qs) same = ap (λ (b : Bool). if b then hands else with_call hands (call_to w q y)) same

  -- the holder's start and value, from its view
  holder_is : (a b x y : T) (hands : List (Hand Q)) (v : View T Q) → v ≡ holding a x hands → v ≡ holding b y hands → (a ≡ b) × (x ≡ y)
  holder_is a b x y hands v p q =
      let k : Some (known_as a x) ≡ Some (known_as b y) = ap (λ (z : View T Q). z.known) (sym p ∙ q) in
      let e : known_as a x ≡ known_as b y = cc in
      (ap (λ (z : Known T). z.start) e, ap (λ (z : Known T). z.seen) e)

  top_of : List (ℕ × Option T) → Option T
  top_of [] = None
  top_of (z ∷ zs) = z.1

  pub slot_is : (x y : T) (c : List (ℕ × Option T)) → c ≡ (0, Some x) ∷ [] → c ≡ (0, Some y) ∷ [] → x ≡ y
  unfolding top_of
  slot_is x y c p q = let e : Some x ≡ Some y = ap top_of (sym p ∙ q) in cc

  given_same : (o : Origin T) (slots id : ℕ) (me : Sat T Q) (requests : List Q) (s : Board T Q) (now : T) (mine : ℕ → List (Call Q)) (owner : ℕ → ℕ) → IsLawful w → KeptBy w o s now mine owner → Out w s now
      → get_elem? s.views id ≡ some me.0 → me.0 ≡ holding o.value now me.0.hands → me.1 ≡ (0, Some now) ∷ [] → Givable o slots id me requests now s
  given_same o slots id me requests s now mine owner l k t at is held =
      let hands : List (Hand Q) = me.0.hands in
      let u : View T Q = resting o.value now hands in
      let turn : me.0.turn ≡ true = ap (λ (z : View T Q). z.turn) is in
      let old = k.views id me.0 at in (
        u,
        gives,
        tt,
        (
          now,
          mine,
          owner,
          record {
            sound = k.sound;
            begun = k.begun;
            made = k.made;
            views = each_set (IsView w o.value now mine owner) (IsView w o.value now mine owner) s.views id u k.views (view_resting o now mine owner id me.0 l k.sound old) (λ i v ne p. p);
            standing = standing_set s.views mine owner id me.0 u at (λ c x. x) k.standing;
            count = same_count s.views id (length o.callers.items) me.0 u at refl k.count;
            place = inl (home_after o s now now id me hands t at turn held);
          },
        ),
        (λ start x y e slot.
            let a = holder_is o.value start now x hands me.0 is e in
            let b = slot_is now y me.1 held slot in (
              ap (λ (hs : List (Hand Q)). resting o.value now hs) (sym (after_same now now hands requests (eq-eqb (w.size now) (w.size now) refl)))
                  ∙ (λ i. resting (a.0 i) (b i) (hands_after w (a.1 i) (b i) hands requests)),
              ap rest held,
              hands_map (λ h. (owner h.caller ≡ id) × (h.mine ≡ mine h.caller)) (λ h. w.Made start y h.caller h.mine) hands
                  (λ h p. subst (λ (z : T × (T × List (Call Q))). w.Made z.0 z.1.0 h.caller z.1.1) (λ i. (a.0 i, (b i, sym p.1 i))) (k.made h.caller)) old.hands,
            )),
      )

  given_more : (o : Origin T) (slots id : ℕ) (me : Sat T Q) (requests : List Q) (y : T) (s : Board T Q) (now : T) (mine : ℕ → List (Call Q)) (owner : ℕ → ℕ) → IsLawful w → KeptBy w o s now mine owner → Out w s now
      → get_elem? s.views id ≡ some me.0 → me.0 ≡ holding o.value now me.0.hands → me.1 ≡ (0, Some y) ∷ []
      → eqb (w.size y) (w.size now) ≡ false → (h : Hand Q) (q : Q) (a : A) → me.0.hands ≡ h ∷ [] → requests ≡ q ∷ [] → w.Adds now y h.caller q a → Givable o slots id me requests y s
  given_more o slots id me requests y s now mine owner l k t at is held longer h q a one asked adds =
      let hands : List (Hand Q) = me.0.hands in
      let call : Call Q = call_to w q y in
      let more : Hand Q = record { caller = h.caller; mine = h.mine ++ call ∷ [] } in
      let u : View T Q = resting o.value y (more ∷ []) in
      let turn : me.0.turn ≡ true = ap (λ (z : View T Q). z.turn) is in
      let g = l.grows now y h.caller q a k.sound adds in
      let after : ℕ → List (Call Q) = more_mine mine h.caller call in
      let own = subst (λ (z : List (Hand Q)). AllHands (λ (f : Hand Q). (owner f.caller ≡ id) × (f.mine ≡ mine f.caller)) z) one (k.views id me.0 at).hands in
      let mine_is : h.mine ++ call ∷ [] ≡ after h.caller = ap (λ (m : List (Call Q)). m ++ call ∷ []) own.0.1 ∙ sym (more_here mine h.caller call) in
      let made : (c : ℕ) → w.Made o.value y c (after c) = λ c. dite (ℕ_discrete c h.caller)
      (λ e. subst (λ (d : ℕ). w.Made o.value y d (after d)) (sym e)
      (subst (w.Made o.value y h.caller) (sym (more_here mine h.caller call)) (l.own o.value now y h.caller q a (mine h.caller) k.sound k.begun adds (k.made h.caller))))
      (λ ne. subst (w.Made o.value y c) (sym (more_else mine h.caller call c ne)) (l.others o.value now y h.caller c q a (mine c) k.sound k.begun adds ne (k.made c))) in
      let view : IsView w o.value y after owner id u = record { known = known_now o.value y l g.0; hands = ((own.0.0, mine_is), tt); apart = (tt, tt); turn = λ yes. absurd (cc) } in (
        u,
        gives,
        tt,
        (
          y,
          after,
          owner,
          record {
            sound = g.0;
            begun = l.further o.value now y k.begun g.1;
            made = made;
            views = each_set (λ i v. IsView w o.value now mine owner i v × (v.turn ≡ true → i ≡ t.holder)) (IsView w o.value y after owner) s.views id u
                (λ i v e. (k.views i v e, t.alone i v e)) view
                (λ i v ne p. other_view l o now y mine owner h.caller id t.holder call g.1 own.0.0 (t.alone id me.0 at turn) i v ne p.1 p.0);
            standing = standing_more s.views mine owner h.caller call id me.0 h u at one own.0.0 refl refl k.standing;
            count = same_count s.views id (length o.callers.items) me.0 u at (sym (ap (λ (z : List (Hand Q)). length z) one)) k.count;
            place = inl (home_after o s now y id me (more ∷ []) t at turn held);
          },
        ),
        (λ start x z e slot.
            let b = holder_is o.value start now x hands me.0 is e in
            let c = slot_is y z me.1 held slot in
            let hands_are : hands_after w now y hands requests ≡ more ∷ [] = (λ i. hands_after w now y (one i) (asked i)) ∙ ap (λ (t : Bool). if t then h ∷ [] else more ∷ []) longer in (
              ap (λ (hs : List (Hand Q)). resting o.value y hs) (sym hands_are) ∙ (λ i. resting (b.0 i) (c i) (hands_after w (b.1 i) (c i) hands requests)),
              ap rest held,
              (
                subst (λ (z : T × (T × List (Call Q))). w.Made z.0 z.1.0 h.caller z.1.1) (λ i. (b.0 i, (c i, sym mine_is i))) (made h.caller),
                tt,
              ),
            )),
      )

  given_either : (o : Origin T) (slots id : ℕ) (me : Sat T Q) (requests : List Q) (y : T) (s : Board T Q) (now : T) (mine : ℕ → List (Call Q)) (owner : ℕ → ℕ) → IsLawful w → KeptBy w o s now mine owner → Out w s now
      → get_elem? s.views id ≡ some me.0 → me.0 ≡ holding o.value now me.0.hands → me.1 ≡ (0, Some y) ∷ []
      → (b : Bool) → eqb (w.size y) (w.size now) ≡ b
      → MatchBool b (y ≡ now) ((h : Hand Q) × (q : Q) × (a : A) × (me.0.hands ≡ h ∷ []) × (requests ≡ q ∷ []) × w.Adds now y h.caller q a) → Givable o slots id me requests y s
  given_either o slots id me requests y s now mine owner l k t at is held true e same =
      subst (λ (z : T). Givable o slots id me requests z s) (sym same) (given_same o slots id me requests s now mine owner l k t at is (held ∙ ap (λ (z : T). (0, Some z) ∷ []) same))
  given_either o slots id me requests y s now mine owner l k t at is held false e (h, q, a, one, asked, adds) =
      given_more o slots id me requests y s now mine owner l k t at is held e h q a one asked adds

  given : (o : Origin T) (slots id : ℕ) (me : Sat T Q) (requests : List Q) (start x y : T) → IsLawful w → me.0 ≡ holding start x me.0.hands → me.1 ≡ (0, Some y) ∷ [] → Turned w x y me.0.hands requests
      → (s : Board T Q) (now : T) (mine : ℕ → List (Call Q)) (owner : ℕ → ℕ) → KeptBy w o s now mine owner → Out w s now → get_elem? s.views id ≡ some me.0 → Givable o slots id me requests y s
  given o slots id me requests start x y l is held turned s now mine owner k t at =
      let v = k.views id me.0 at in
      let known : me.0.known ≡ Some (known_as start x) = ap (λ (z : View T Q). z.known) is in
      let turn : me.0.turn ≡ true = ap (λ (z : View T Q). z.turn) is in
      let start_is : start ≡ o.value = (known_is o.value now me.0.known (known_as start x) known v.known).start_is in
      let x_is : x ≡ now = subst (λ (z : Option (Known T)). MatchOption z ⊥ (λ (y : Known T). y.seen ≡ now)) known (v.turn turn).1 in
      let is' : me.0 ≡ holding o.value now me.0.hands = is ∙ (λ i. holding (start_is i) (x_is i) me.0.hands) in
      given_either o slots id me requests y s now mine owner l k t at is' held (eqb (w.size y) (w.size now)) refl
      (subst (λ (z : T). Turned w z y me.0.hands requests) x_is turned)

  pub releases_turn : (o : Origin T) (slots id : ℕ) (me : Sat T Q) (requests : List Q) (start x y : T) → IsLawful w → me.0 ≡ holding start x me.0.hands → me.1 ≡ (0, Some y) ∷ [] → Turned w x y me.0.hands requests
      → Allows (Kept w o) slots id me 0 (λ _. 2 * w.size y) (λ _. Releases w requests (step slots 0 (2 * w.size y) 0 none) me (2 * w.size y))
  releases_turn o slots id me requests start x y l is held turned s (now, mine, owner, k) len at small =
      let turn : me.0.turn ≡ true = ap (λ (z : View T Q). z.turn) is in
      ⊎_elim (λ (h : Home w s now). let no : me.0.turn ≡ false = h.idle id me.0 at in absurd (cc))
      (⊎_elim (λ (t : Out w s now). given o slots id me requests start x y l is held turned s now mine owner k t at)
      (λ (t : Opening w o s now). let no : me.0.turn ≡ false = t.idle id me.0 at in absurd (cc)))
      k.place

  -- ---- copies of a seat

  quiet_home : (s : Board T Q) (now : T) (id : ℕ) (u : View T Q) → u.turn ≡ false → u.first ≡ false → Home w s now
      → Home w record { words = s.words; homes = s.homes; views = set s.views id u } now
  quiet_home s now id u idle old h = record {
    words = h.words;
    homes = h.homes;
    idle = each_set (λ i v. v.turn ≡ false) (λ i v. v.turn ≡ false) s.views id u h.idle idle (λ i v ne p. p);
    begun = each_set (λ i v. v.first ≡ false) (λ i v. v.first ≡ false) s.views id u h.begun old (λ i v ne p. p);
  }

  -- the holder of the turn is another seat than one that holds none
  not_holder : (s : Board T Q) (now : T) (id : ℕ) (v : View T Q) (t : Out w s now) → get_elem? s.views id ≡ some v → v.turn ≡ false → t.holder ≢ id
  not_holder s now id v t at idle e =
      let u : View T Q = t.held.0 in
      let here : get_elem? s.views id ≡ some u = subst (λ (i : ℕ). get_elem? s.views i ≡ some u) e t.held.1 in
      let same : u ≡ v = some-injective u v (sym here ∙ at) in
      let good : u.turn ≡ true = t.held.2 in
      let good' : v.turn ≡ true = subst (λ (z : View T Q). z.turn ≡ true) same good in
      absurd (cc)

  quiet_out : (s : Board T Q) (now : T) (id : ℕ) (v u : View T Q) → get_elem? s.views id ≡ some v → v.turn ≡ false → u.turn ≡ false → u.first ≡ false → Out w s now
      → Out w record { words = s.words; homes = s.homes; views = set s.views id u } now
  quiet_out s now id v u at was idle old t = record {
    words = t.words;
    homes = t.homes;
    holder = t.holder;
    held = (t.held.0, set_else s.views id t.holder u (not_holder s now id v t at was) ∙ t.held.1, t.held.2);
    alone = each_set (λ i z. z.turn ≡ true → i ≡ t.holder) (λ i z. z.turn ≡ true → i ≡ t.holder) s.views id u t.alone (λ good. absurd (cc)) (λ i z ne p. p);
    begun = each_set (λ i z. z.first ≡ false) (λ i z. z.first ≡ false) s.views id u t.begun old (λ i z ne p. p);
  }

  more_home : (s : Board T Q) (now : T) (u : View T Q) → u.turn ≡ false → u.first ≡ false → Home w s now
      → Home w record { words = s.words; homes = s.homes; views = s.views ++ u ∷ [] } now
  more_home s now u idle old h = record {
    words = h.words;
    homes = h.homes;
    idle = each_snoc (λ i z. z.turn ≡ false) s.views u h.idle idle;
    begun = each_snoc (λ i z. z.first ≡ false) s.views u h.begun old;
  }

  more_out : (s : Board T Q) (now : T) (u : View T Q) → u.turn ≡ false → u.first ≡ false → Out w s now
      → Out w record { words = s.words; homes = s.homes; views = s.views ++ u ∷ [] } now
  more_out s now u idle old t = record {
    words = t.words;
    homes = t.homes;
    holder = t.holder;
    held = (t.held.0, at_longer s.views (u ∷ []) t.holder t.held.0 t.held.1, t.held.2);
    alone = each_snoc (λ i z. z.turn ≡ true → i ≡ t.holder) s.views u t.alone (λ good. absurd (cc));
    begun = each_snoc (λ i z. z.first ≡ false) s.views u t.begun old;
  }

  split_place : (o : Origin T) (s : Board T Q) (now : T) (id : ℕ) (v l r : View T Q) → get_elem? s.views id ≡ some v → v.turn ≡ false → v.first ≡ false
      → l.turn ≡ false → l.first ≡ false → r.turn ≡ false → r.first ≡ false → Home w s now ⊎ (Out w s now ⊎ Opening w o s now)
      → let next : Board T Q = record { words = s.words; homes = s.homes; views = set s.views id l ++ r ∷ [] } in Home w next now ⊎ (Out w next now ⊎ Opening w o next now)
  split_place o s now id v l r at was old l_idle l_old r_idle r_old place =
      let mid : Board T Q = record { words = s.words; homes = s.homes; views = set s.views id l } in
      ⊎_elim (λ (h : Home w s now). inl (more_home mid now r r_idle r_old (quiet_home s now id l l_idle l_old h)))
      (⊎_elim (λ (t : Out w s now). inr (inl (more_out mid now r r_idle r_old (quiet_out s now id v l at was l_idle l_old t))))
      (λ (t : Opening w o s now). let new : v.first ≡ true = (t.lone id v at).1 in absurd (cc)))
      place

  view_calm : (o : Origin T) (now : T) (mine : ℕ → List (Call Q)) (owner : ℕ → ℕ) (i : ℕ) (v : View T Q)
      → IsView w o.value now mine owner i v → IsView w o.value now mine owner i (calm v)
  view_calm o now mine owner i v p = record { known = p.known; hands = p.hands; apart = p.apart; turn = λ good. absurd (cc) }

  view_copied : (o : Origin T) (now : T) (mine : ℕ → List (Call Q)) (owner : ℕ → ℕ) (i j : ℕ) (v : View T Q)
      → IsView w o.value now mine owner i v → IsView w o.value now mine owner j (copied v)
  view_copied o now mine owner i j v p = record { known = p.known; hands = tt; apart = tt; turn = λ good. absurd (cc) }

  -- a copy that stands for no caller
  pub copies : (o : Origin T) (id : ℕ) (v : View T Q) → v.turn ≡ false → v.first ≡ false → Splits (Kept w o) id v (calm v) (copied v)
  copies o id v was old s (now, mine, owner, k) at =
      let one = hands-set s.views id v (calm v) at in
      let two = hands-snoc (set s.views id (calm v)) (copied v) in
      let total = k.count in (
        now,
        mine,
        owner,
        record {
          sound = k.sound;
          begun = k.begun;
          made = k.made;
          views = each_snoc (IsView w o.value now mine owner) (set s.views id (calm v)) (copied v)
              (each_set (IsView w o.value now mine owner) (IsView w o.value now mine owner) s.views id (calm v) k.views (view_calm o now mine owner id v (k.views id v at)) (λ i z ne p. p))
              (view_copied o now mine owner id (length (set s.views id (calm v))) v (k.views id v at));
          standing = standing_snoc (set s.views id (calm v)) mine owner (copied v) (standing_set s.views mine owner id v (calm v) at (λ c x. x) k.standing);
          count = omega arith;
          place = split_place o s now id v (calm v) (copied v) at was old refl refl refl refl k.place;
        },
      )

  -- the first caller of a seat gets a seat of its own
  pub cuts : (o : Origin T) (id : ℕ) (v : View T Q) (h : Hand Q) (hs : List (Hand Q)) → v.hands ≡ h ∷ hs → v.turn ≡ false → v.first ≡ false → Splits (Kept w o) id v (cut_left v) (cut_right v)
  cuts o id v h hs is was old s (now, mine, owner, k) at =
      let l : View T Q = cut_left v in
      let r : View T Q = cut_right v in
      let end : ℕ = length (set s.views id l) in
      let owner' : ℕ → ℕ = moved owner h.caller end in
      let old_view = k.views id v at in
      let own = subst (λ (z : List (Hand Q)). AllHands (λ (f : Hand Q). (owner f.caller ≡ id) × (f.mine ≡ mine f.caller)) z) is old_view.hands in
      let apart = subst Apart is old_view.apart in
      let left_hands : AllHands (λ f. (owner' f.caller ≡ id) × (f.mine ≡ mine f.caller)) hs =
      hands_both (λ f. f.caller ≢ h.caller) (λ f. (owner f.caller ≡ id) × (f.mine ≡ mine f.caller)) (λ f. (owner' f.caller ≡ id) × (f.mine ≡ mine f.caller)) hs
      (λ f ne p. (moved_else owner h.caller end f.caller ne ∙ p.0, p.1)) apart.0 own.1 in
      let left : IsView w o.value now mine owner' id l = record {
        known = old_view.known;
        hands = subst (λ (z : List (Hand Q)). AllHands (λ f. (owner' f.caller ≡ id) × (f.mine ≡ mine f.caller)) (later_hands z)) (sym is) left_hands;
        apart = subst (λ (z : List (Hand Q)). Apart (later_hands z)) (sym is) apart.1;
        turn = λ good. absurd (cc);
      } in
      let right : IsView w o.value now mine owner' end r = record {
        known = old_view.known;
        hands = subst (λ (z : List (Hand Q)). AllHands (λ f. (owner' f.caller ≡ end) × (f.mine ≡ mine f.caller)) (first_hand z)) (sym is) ((moved_here owner h.caller end, own.0.1), tt);
        apart = subst (λ (z : List (Hand Q)). Apart (first_hand z)) (sym is) (tt, tt);
        turn = λ good. absurd (cc);
      } in
      let lengths : length l.hands + length r.hands ≡ length v.hands = subst (λ (z : List (Hand Q)). length (later_hands z) + length (first_hand z) ≡ length z) (sym is) (omega arith) in
      let one = hands-set s.views id v l at in
      let two = hands-snoc (set s.views id l) r in
      let total = k.count in (
        now,
        mine,
        owner',
        record {
          sound = k.sound;
          begun = k.begun;
          made = k.made;
          views = each_snoc (IsView w o.value now mine owner') (set s.views id l) r
              (each_set (IsView w o.value now mine owner) (IsView w o.value now mine owner') s.views id l k.views left
              (λ i z ne p. record {
                known = p.known;
                hands = hands_map (λ f. (owner f.caller ≡ i) × (f.mine ≡ mine f.caller)) (λ f. (owner' f.caller ≡ i) × (f.mine ≡ mine f.caller)) z.hands
                    (λ f q. (moved_else owner h.caller end f.caller (λ e. ne (sym q.0 ∙ (ap owner e ∙ own.0.0))) ∙ q.0, q.1)) p.hands;
                apart = p.apart;
                turn = p.turn;
              }))
              right;
          standing = standing_cut s.views mine owner id v h hs l r at is (ap later_hands is) (ap first_hand is) k.standing;
          count = omega arith;
          place = split_place o s now id v l r at was old refl refl refl refl k.place;
        },
      )

  -- ---- two seats made one

  longer_known : (o : Origin T) (now : T) → IsLawful w → w.IsSound now → (a b : Known T) → IsKnown w o.value now a → IsKnown w o.value now b
      → (t : Bool) → nat_lt (w.size a.seen) (w.size b.seen) ≡ t → IsKnown w o.value now record { start = a.start; seen = if t then b.seen else a.seen; one = a.seen; two = b.seen }
  longer_known o now l sound a b p q true e = record {
    start_is = p.start_is;
    sound = q.sound;
    begins = q.begins;
    one = l.either a.seen b.seen now p.sound q.sound sound p.begins q.begins (grind (arith, nat_tests));
    two = l.same b.seen q.sound;
  }
  longer_known o now l sound a b p q false e = record {
    start_is = p.start_is;
    sound = p.sound;
    begins = p.begins;
    one = l.same a.seen p.sound;
    two = l.either b.seen a.seen now q.sound p.sound sound q.begins p.begins (grind (arith, nat_tests));
  }

  joined_is : (o : Origin T) (now : T) → IsLawful w → w.IsSound now → (a b : Option (Known T)) → MatchOption a ⊤ (IsKnown w o.value now) → MatchOption b ⊤ (IsKnown w o.value now)
      → MatchOption (joined_known w a b) ⊤ (IsKnown w o.value now)
  joined_is o now l sound (Some a) (Some b) p q = longer_known o now l sound a b p q (nat_lt (w.size a.seen) (w.size b.seen)) refl
  joined_is o now l sound (Some a) None p q = tt
  joined_is o now l sound None (Some b) p q = tt
  joined_is o now l sound None None p q = tt

  pub unites : (o : Origin T) (id : ℕ) (v : View T Q) (other : ℕ) (u : View T Q) → IsLawful w → v.turn ≡ false → v.first ≡ false → u.turn ≡ false → Joins (Kept w o) id v other u (joined w v u) spent
  unites o id v other u l was old idle s (now, mine, owner, k) at apart at_other =
      let both : View T Q = joined w v u in
      let gone : View T Q = spent {T = T} {Q = Q} in
      let mid : Board T Q = record { words = s.words; homes = s.homes; views = set s.views id both } in
      let u_at : get_elem? s.views other ≡ some u = sym (set_else s.views id other both apart) ∙ at_other in
      let owner' : ℕ → ℕ = merged owner other id in
      let p = k.views id v at in
      let q = k.views other u u_at in
      let differ : id ≢ other = λ e. apart (sym e) in
      let view : IsView w o.value now mine owner' id both = record {
        known = joined_is o now l k.sound v.known u.known p.known q.known;
        hands = hands_join (λ f. (owner' f.caller ≡ id) × (f.mine ≡ mine f.caller)) u.hands v.hands
            (hands_map (λ f. (owner f.caller ≡ other) × (f.mine ≡ mine f.caller)) (λ f. (owner' f.caller ≡ id) × (f.mine ≡ mine f.caller)) u.hands
            (λ f z. (merged_here owner other id f.caller z.0, z.1)) q.hands)
            (hands_map (λ f. (owner f.caller ≡ id) × (f.mine ≡ mine f.caller)) (λ f. (owner' f.caller ≡ id) × (f.mine ≡ mine f.caller)) v.hands
            (λ f z. (merged_else owner other id f.caller (λ e. differ (sym z.0 ∙ e)) ∙ z.0, z.1)) p.hands);
        apart = apart_join owner other id u.hands v.hands apart
            (hands_map (λ f. (owner f.caller ≡ other) × (f.mine ≡ mine f.caller)) (λ f. owner f.caller ≡ other) u.hands (λ f z. z.0) q.hands)
            (hands_map (λ f. (owner f.caller ≡ id) × (f.mine ≡ mine f.caller)) (λ f. owner f.caller ≡ id) v.hands (λ f z. z.0) p.hands) q.apart p.apart;
        turn = λ good. absurd (cc);
      } in
      let none_left : IsView w o.value now mine owner' other gone = record { known = tt; hands = tt; apart = tt; turn = λ good. absurd (cc) } in
      let lengths : length both.hands ≡ length u.hands + length v.hands = length-append u.hands v.hands in
      let one = hands-set s.views id v both at in
      let two = hands-set (set s.views id both) other u gone at_other in
      let total = k.count in (
        now,
        mine,
        owner',
        record {
          sound = k.sound;
          begun = k.begun;
          made = k.made;
          views = each_set (λ i z. (i ≡ other) ⊎ IsView w o.value now mine owner' i z) (IsView w o.value now mine owner') (set s.views id both) other gone
              (each_set (IsView w o.value now mine owner) (λ i z. (i ≡ other) ⊎ IsView w o.value now mine owner' i z) s.views id both k.views (inr view)
              (λ i z ne r. dite (ℕ_discrete i other) (λ e. inl e) (λ ne'. inr record {
                known = r.known;
                hands = hands_map (λ f. (owner f.caller ≡ i) × (f.mine ≡ mine f.caller)) (λ f. (owner' f.caller ≡ i) × (f.mine ≡ mine f.caller)) z.hands
                    (λ f x. (merged_else owner other id f.caller (λ e. ne' (sym x.0 ∙ e)) ∙ x.0, x.1)) r.hands;
                apart = r.apart;
                turn = r.turn;
              })))
              none_left
              (λ i z ne r. ⊎_elim (λ e. absurd (ne e)) (λ y. y) r);
          standing = standing_joined s.views mine owner id other v u both gone at u_at differ refl k.standing;
          count = omega arith;
          place = ⊎_elim (λ (h : Home w s now). inl (quiet_home mid now other gone refl refl (quiet_home s now id both refl refl h)))
              (⊎_elim (λ (t : Out w s now). inr (inl (quiet_out mid now other u gone at_other idle refl refl (quiet_out s now id v both at was refl refl t))))
              (λ (t : Opening w o s now). let new : v.first ≡ true = (t.lone id v at).1 in absurd (cc))) k.place;
        },
      )

  -- ---- the end

  -- with all callers in one seat that holds no turn, the value is at home
  pub closes : (o : Origin T) (id : ℕ) (v : View T Q) (ws : List ℕ) (xs : List (Option T)) → v.turn ≡ false → v.first ≡ false → length v.hands ≡ length o.callers.items → Final (Seen (Kept w o) id v) ws xs
      → (x : T) × (get_elem? xs 0 ≡ some (Some x)) × w.IsSound x × w.Begins o.value x × MatchOption v.known ⊤ (λ k. w.Begins k.seen x) × AllHands (λ h. w.Made o.value x h.caller h.mine) v.hands
      × ((c : ℕ) → w.Made o.value x c (mine_by c v.hands))
  closes o id v ws xs was old all (s, ((now, mine, owner, k), at), same, len, values) =
      ⊎_elim (λ (h : Home w s now). (
        now,
        values 0 (Some now) (ap (λ hs. get_elem? hs 0) h.homes),
        k.sound,
        k.begun,
        seen v.known (k.views id v at).known,
        hands_map (λ f. (owner f.caller ≡ id) × (f.mine ≡ mine f.caller)) (λ f. w.Made o.value now f.caller f.mine) v.hands
            (λ f p. subst (w.Made o.value now f.caller) (sym p.1) (k.made f.caller)) (k.views id v at).hands,
        (λ c. subst (w.Made o.value now c) (sym (whole c)) (k.made c)),
      ))
      (⊎_elim (λ (t : Out w s now).
      let u : View T Q = t.held.0 in
      let some_hand : 0 < length u.hands = ((k.views t.holder u t.held.1).turn t.held.2).0 in
      let gone : View T Q = spent {T = T} {Q = Q} in
      let there : get_elem? (set s.views id gone) t.holder ≡ some u = set_else s.views id t.holder gone (not_holder s now id v t at was) ∙ t.held.1 in
      let others = hands-set s.views id v gone at in
      let most = hands-at (set s.views id gone) t.holder u there in
      let total = k.count in
      absurd (omega arith))
      (λ (t : Opening w o s now). let new : v.first ≡ true = (t.lone id v at).1 in absurd (cc)))
      k.place
    where
      -- a caller that stands at another seat would be one too many
      here : (c : ℕ) → StandsAt s.views mine owner c → (mine c ≡ []) ⊎ HasCaller c v.hands
      here c st = ⊎_elim (λ idle. inl idle) (λ t. dite (ℕ_discrete (owner c) id)
          (λ e. inr (subst (λ (z : View T Q). HasCaller c z.hands) (some-injective t.0 v (sym (subst (λ (i : ℕ). get_elem? s.views i ≡ some t.0) e t.1) ∙ at)) t.2))
          (λ ne.
          let gone : View T Q = spent {T = T} {Q = Q} in
          let there : get_elem? (set s.views id gone) (owner c) ≡ some t.0 = set_else s.views id (owner c) gone ne ∙ t.1 in
          let others = hands-set s.views id v gone at in
          let most = hands-at (set s.views id gone) (owner c) t.0 there in
          let one = has_some c t.0.hands t.2 in
          let total = k.count in
          absurd (omega arith))) st

      whole : (c : ℕ) → mine_by c v.hands ≡ mine c
      whole c = mine_is mine c v.hands (hands_map (λ f. (owner f.caller ≡ id) × (f.mine ≡ mine f.caller)) (λ f. f.mine ≡ mine f.caller) v.hands (λ f p. p.1) (k.views id v at).hands) (here c (k.standing c))

      seen : (ok : Option (Known T)) → MatchOption ok ⊤ (IsKnown w o.value now) → MatchOption ok ⊤ (λ k. w.Begins k.seen now)
      seen None p = tt
      seen (Some y) p = p.begins

  -- ---- the start

  fresh_apart : (cs : List ℕ) → AreDistinct cs → Apart (fresh {Q = Q} cs)
  fresh_apart [] d = tt
  fresh_apart (c ∷ cs) d = (differs c cs d.0, fresh_apart cs d.1)
    where
      differs : (c : ℕ) (cs : List ℕ) → DiffersFrom c cs → AllHands (λ (g : Hand Q). g.caller ≢ c) (fresh cs)
      differs c [] d = tt
      differs c (e ∷ es) d = (d.0, differs c es d.1)

  fresh_hands : (cs : List ℕ) → AllHands (λ (h : Hand Q). (zero ≡ zero) × (h.mine ≡ [])) (fresh cs)
  fresh_hands [] = tt
  fresh_hands (c ∷ cs) = ((refl, refl), fresh_hands cs)

  fresh_length : (cs : List ℕ) → length (fresh {Q = Q} cs) ≡ length cs
  fresh_length [] = refl
  fresh_length (c ∷ cs) = ap suc (fresh_length cs)

  each_one : (P : ℕ → View T Q → Type 0) (v : View T Q) → P 0 v → Each P (v ∷ [])
  each_one P v here zero u at = subst (P 0) (some-injective v u at) here
  each_one P v here (suc i) u at = absurd (some-ne-none u (sym at))

  pub begins_so : (o : Origin T) → IsLawful w → w.IsSound o.value → AreDistinct o.callers.items → Kept w o (opening ((2 * w.size o.value + 1) ∷ []) (None ∷ []) (newcomer {Q = Q} o))
  begins_so o l sound distinct = (
    o.value,
    (λ c. []),
    (λ c. 0),
    record {
      sound = sound;
      begun = l.same o.value sound;
      made = λ c. l.none o.value c sound;
      views = each_one (IsView w o.value o.value (λ c. []) (λ c. 0)) (newcomer o) record {
        known = known_now o.value o.value l sound;
        hands = fresh_hands o.callers.items;
        apart = fresh_apart o.callers.items distinct;
        turn = λ good. absurd (cc);
      };
      standing = λ c. inl refl;
      count = let n = fresh_length o.callers.items in omega arith;
      place = inr (inr record {
        new = refl;
        words = refl;
        homes = refl;
        idle = each_one (λ i v. v.turn ≡ false) (newcomer o) refl;
        lone = each_one (λ i v. (i ≡ 0) × (v.first ≡ true)) (newcomer o) (refl, refl);
      });
    },
  )

  -- ---- what a call tells

  pub live_of : (v : View T Q) → IsSome v.known → OnKnown v (λ _. ⊤)
  live_of v live = alive v.known live
    where
      alive : (o : Option (Known T)) → IsSome o → MatchOption o ⊥ (λ _. ⊤)
      alive None bad = absurd (cc)
      alive (Some x) good = tt

  pub some_hand : (hs : List (Hand Q)) (c : ℕ) → callers_of hs ≡ c ∷ [] → 0 < length hs
  some_hand hs c e = let one = one_hand hs c e in let n : length hs ≡ 1 = ap (λ (z : List (Hand Q)). length z) one.1 in omega arith

  pub turned_by : IsLawful w → (x y : T) (c : ℕ) (hs : List (Hand Q)) (request : Q) (reply : A) → w.IsSound x → callers_of hs ≡ c ∷ []
      → MatchBool (w.is_done reply) (w.Adds x y c request reply) (y ≡ x) → Turned w x y hs (request ∷ [])
  turned_by l x y c hs request reply sound one served = by_reply (w.is_done reply) served
    where
      by_reply : (b : Bool) → MatchBool b (w.Adds x y c request reply) (y ≡ x) → Turned w x y hs (request ∷ [])
      by_reply true adds =
          let h = one_hand hs c one in
          let more = (l.grows x y c request reply sound adds).2 in
          let differ : eqb (w.size y) (w.size x) ≡ false = ne_eqb (w.size y) (w.size x) (λ e. omega arith) in
          subst (λ (b : Bool). MatchBool b (y ≡ x) ((h : Hand Q) × (q : Q) × (a : A) × (hs ≡ h ∷ []) × (request ∷ [] ≡ q ∷ []) × w.Adds x y h.caller q a)) (sym differ)
          (h.0, request, reply, h.1, refl, subst (λ (d : ℕ). w.Adds x y d request reply) (sym h.2) adds)
      by_reply false same =
          subst (λ (b : Bool). MatchBool b (y ≡ x) ((h : Hand Q) × (q : Q) × (a : A) × (hs ≡ h ∷ []) × (request ∷ [] ≡ q ∷ []) × w.Adds x y h.caller q a))
          (sym (eq-eqb (w.size y) (w.size x) (ap w.size same))) same

  pub record Told (v : View T Q) (caller : ℕ) (request : Q) (reply : A) (m : Sat T Q) : Type 0 where
    pub called : Called w v caller request reply m.0
    pub idle : (m.1 ≡ []) × (m.0.turn ≡ false) × (m.0.first ≡ false)
    pub live : IsSome m.0.known
    pub whose : callers_of m.0.hands ≡ caller ∷ []

  abbrev Answer : (mine : List (Call Q)) (x y : T) (c : ℕ) (request : Q) (reply : A) → Bool → List (Hand Q) → Type 0
  Answer mine x y c request reply b z = MatchBool b (w.Adds x y c request reply × (mine_of z ≡ mine ++ call_to w request y ∷ [])) ((y ≡ x) × (mine_of z ≡ mine))

  pub tells : IsLawful w → (m m1 m2 : Sat T Q) (t : Took w m m1) (y : T) (c : ℕ) (request : Q) (reply : A) (st : Step (Option T)) (n : ℕ) → callers_of m.0.hands ≡ c ∷ []
      → MatchBool (w.is_done reply) (w.Adds t.value y c request reply) (y ≡ t.value)
      → Releases w (request ∷ []) st (m1.0, (0, Some y) ∷ []) n m2 → Told m.0 c request reply m2
  tells l m m1 m2 t y c request reply st n one served gave =
      let hands : m1.0.hands ≡ m.0.hands = ap (λ (z : View T Q). z.hands) t.view in
      let view : m1.0 ≡ holding t.start t.value m1.0.hands = t.view ∙ (λ i. holding t.start t.value (sym hands i)) in
      let g = gave t.start t.value y view refl in
      let h = one_hand m.0.hands c one in
      let out : List (Hand Q) = hands_after w t.value y (h.0 ∷ []) (request ∷ []) in
      let hands_are : m2.0.hands ≡ out = ap (λ (z : View T Q). z.hands) g.0 ∙ (λ i. hands_after w t.value y ((hands ∙ h.1) i) (request ∷ [])) in
      let mine : mine_of m.0.hands ≡ h.0.mine = ap (λ (z : List (Hand Q)). mine_of z) h.1 in
      let made : AllHands (λ f. w.Made t.start y f.caller f.mine) out = subst (λ (z : List (Hand Q)). AllHands (λ f. w.Made t.start y f.caller f.mine) z) hands_are g.2 in
      let rest = by_reply (w.is_done reply) h.0 h.2 mine served made in
      let called : Called w m.0 c request reply m2.0 = record {
        start = t.start;
        found = t.value;
        after = y;
        start_is = t.start_is;
        later = t.later;
        before = subst (λ (z : List (Hand Q)). w.Made t.start t.value c (mine_of z)) (sym h.1)
            (subst (λ (d : ℕ). w.Made t.start t.value d h.0.mine) h.2 (subst (λ (z : List (Hand Q)). AllHands (λ f. w.Made t.start t.value f.caller f.mine) z) h.1 t.made).0);
        seen = ap (λ (z : View T Q). z.known) g.0;
        answered = subst (λ (z : List (Hand Q)). Answer (mine_of m.0.hands) t.value y c request reply (w.is_done reply) z) (sym hands_are) rest.0;
        made = subst (λ (z : List (Hand Q)). w.Made t.start y c (mine_of z)) (sym hands_are) rest.1;
      } in
      record {
        called = called;
        idle = (g.1, ap (λ (z : View T Q). z.turn) g.0, ap (λ (z : View T Q). z.first) g.0);
        live = subst (λ (z : View T Q). IsSome z.known) (sym g.0) refl;
        whose = ap (λ (z : List (Hand Q)). callers_of z) hands_are ∙ rest.2;
      }
    where
      by_reply : (b : Bool) (h : Hand Q) → h.caller ≡ c → mine_of m.0.hands ≡ h.mine → MatchBool b (w.Adds t.value y c request reply) (y ≡ t.value)
          → AllHands (λ f. w.Made t.start y f.caller f.mine) (hands_after w t.value y (h ∷ []) (request ∷ []))
          → Answer (mine_of m.0.hands) t.value y c request reply b (hands_after w t.value y (h ∷ []) (request ∷ [])) × w.Made t.start y c (mine_of (hands_after w t.value y (h ∷ []) (request ∷ [])))
          × (callers_of (hands_after w t.value y (h ∷ []) (request ∷ [])) ≡ c ∷ [])
      by_reply true h is mine adds made =
          let more = (l.grows t.value y c request reply t.sound adds).2 in
          let differ : eqb (w.size y) (w.size t.value) ≡ false = ne_eqb (w.size y) (w.size t.value) (λ e. omega arith) in
          let call : Call Q = call_to w request y in
          let more_hand : Hand Q = record { caller = h.caller; mine = h.mine ++ call ∷ [] } in
          let e : hands_after w t.value y (h ∷ []) (request ∷ []) ≡ more_hand ∷ [] = ap (λ (b : Bool). if b then h ∷ [] else more_hand ∷ []) differ in
          let made' = (subst (λ (z : List (Hand Q)). AllHands (λ f. w.Made t.start y f.caller f.mine) z) e made).0 in (
            (adds, ap (λ (z : List (Hand Q)). mine_of z) e ∙ ap (λ (z : List (Call Q)). z ++ call ∷ []) (sym mine)),
            subst (λ (z : List (Hand Q)). w.Made t.start y c (mine_of z)) (sym e) (subst (λ (d : ℕ). w.Made t.start y d (h.mine ++ call ∷ [])) is made'),
            ap (λ (z : List (Hand Q)). callers_of z) e ∙ ap (λ (d : ℕ). d ∷ []) is,
          )
      by_reply false h is mine same made =
          let e : hands_after w t.value y (h ∷ []) (request ∷ []) ≡ h ∷ [] = after_same t.value y (h ∷ []) (request ∷ []) (eq-eqb (w.size y) (w.size t.value) (ap w.size same)) in
          let made' = (subst (λ (z : List (Hand Q)). AllHands (λ f. w.Made t.start y f.caller f.mine) z) e made).0 in (
            (same, ap (λ (z : List (Hand Q)). mine_of z) e ∙ sym mine),
            subst (λ (z : List (Hand Q)). w.Made t.start y c (mine_of z)) (sym e) (subst (λ (d : ℕ). w.Made t.start y d h.mine) is made'),
            ap (λ (z : List (Hand Q)). callers_of z) e ∙ ap (λ (d : ℕ). d ∷ []) is,
          )

  -- ---- the start and the end

  pub starts_so : (o : Origin T) (slots id : ℕ) (me : Sat T Q) → IsLawful w → me.1 ≡ [] → me.0 ≡ newcomer o → 0 < length o.callers.items
      → Allows (Kept w o) slots id me 0 (λ n. n) (Starts w (step slots 0 0 0 none) me)
  starts_so o slots id me l free new some_caller =
      let n = fresh_length o.callers.items in
      let e : length me.0.hands ≡ length (fresh {Q = Q} o.callers.items) = ap (λ (z : View T Q). length z.hands) new in
      starts o slots id me l free new some_caller (omega arith)

  pub first_turn : (o : Origin T) (st : Step (Option T)) (n : ℕ) (me m : Sat T Q) → me.0 ≡ newcomer o → Starts w st me n m → m.0 ≡ holding o.value o.value (fresh o.callers.items)
  first_turn o st n me m new told = subst (λ (z : View T Q). OnKnown z (λ k. m.0 ≡ holding k.start k.start z.hands)) new told.0

  pub turned_same : (x : T) (hs : List (Hand Q)) (requests : List Q) → Turned w x x hs requests
  turned_same x hs requests =
      subst (λ (b : Bool). MatchBool b (x ≡ x) ((h : Hand Q) × (q : Q) × (a : A) × (hs ≡ h ∷ []) × (requests ≡ q ∷ []) × w.Adds x x h.caller q a)) (sym (eq-eqb (w.size x) (w.size x) refl)) refl

  pub held_again : (x : T) (hs : List (Hand Q)) (v : View T Q) → v ≡ holding x x hs → v ≡ holding x x v.hands
  held_again x hs v e = e ∙ (λ i. holding x x (sym (ap (λ (z : View T Q). z.hands) e) i))

  pub first_rest : (x : T) (hs : List (Hand Q)) (m m' : Sat T Q) (st : Step (Option T)) (n : ℕ) → m.0 ≡ holding x x hs → Releases w [] st (m.0, (0, Some x) ∷ []) n m' → m' ≡ (resting x x hs, [])
  first_rest x hs m m' st n e gave =
      let g = gave x x x (held_again x hs m.0 e) refl in
      let view : m'.0 ≡ resting x x hs = g.0 ∙ (λ i. resting x x ((ap (λ (z : View T Q). z.hands) e) i)) in
      λ i. (view i, g.1 i)

  seen_there : (o : Option (Known T)) (x : T) → IsSome o → MatchOption o ⊤ (λ k. w.Begins k.seen x) → MatchOption o ⊥ (λ k. w.Begins k.seen x)
  seen_there None x bad told = absurd (cc)
  seen_there (Some k) x good told = told

  pub closes_so : (o : Origin T) (id : ℕ) (v : View T Q) (ws : List ℕ) (xs : List (Option T)) → v.turn ≡ false → v.first ≡ false → IsSome v.known → length v.hands ≡ length o.callers.items → Final (Seen (Kept w o) id v) ws xs
      → (x : T) × (get_elem? xs 0 ≡ some (Some x)) × Closed w o.value v x
  closes_so o id v ws xs was old live all final =
      let t = closes o id v ws xs was old all final in
      (t.0, t.1, record { sound = t.2; begins = t.3; seen = seen_there v.known t.0 live t.4; made = t.5; whole = t.6 })
