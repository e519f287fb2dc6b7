-- The rule of the lock's word, slot and seats, and what each step tells its caller.
use Rattle.std.specs.Prelude.{◌≡◌, ◌≢◌, ◌⊎◌, ℕ, ◌+◌, ◌*◌, ◌<◌, ◌==◌, nat_lt, if◌then◌else◌, true, false, List, [], ◌∷◌, ◌++◌, length, Option, Some, None, MatchBool, MatchOption, ⊤}
use mathlib.Core.Option.{some, none}
use lib.ListN.{get_elem?}
use Rattle.atomic_table.specs.Table.{State, Me, Step}
use Rattle.lane_lock.specs.declared.call.Call.{Call}
use Rattle.lane_lock.specs.declared.view.Origin.{Origin}
use Rattle.lane_lock.specs.declared.view.Known.{Known}
use Rattle.lane_lock.specs.declared.view.Hand.{Hand}
use Rattle.lane_lock.specs.declared.view.View.{View}
use Rattle.lane_lock.specs.Ways.{Ways, call_to}

abbrev pub Board : Type 0 → Type 0 → Type 0
Board T Q = State (Option T) (View T Q)

abbrev pub Sat : Type 0 → Type 0 → Type 0
Sat T Q = Me (Option T) (View T Q)

-- what holds of each view
abbrev pub Each : {V : Type 0} → (ℕ → V → Type 0) → List V → Type 0
Each {V} P views = (i : ℕ) (v : V) → get_elem? views i ≡ some v → P i v

-- what holds of each caller of a seat
abbrev pub AllHands : {Q : Type 0} → (Hand Q → Type 0) → List (Hand Q) → Type 0
AllHands P [] = ⊤
AllHands P (h ∷ hs) = P h × AllHands P hs

-- no caller stands twice
abbrev pub Apart : {Q : Type 0} → List (Hand Q) → Type 0
Apart [] = ⊤
Apart (h ∷ hs) = AllHands (λ g. g.caller ≢ h.caller) hs × Apart hs

abbrev pub DiffersFrom : ℕ → List ℕ → Type 0
DiffersFrom c [] = ⊤
DiffersFrom c (d ∷ ds) = (d ≢ c) × DiffersFrom c ds

abbrev pub AreDistinct : List ℕ → Type 0
AreDistinct [] = ⊤
AreDistinct (c ∷ cs) = DiffersFrom c cs × AreDistinct cs

abbrev pub fresh : {Q : Type 0} → List ℕ → List (Hand Q)
fresh [] = []
fresh (c ∷ cs) = record { caller = c; mine = [] } ∷ fresh cs

abbrev pub known_as : {T : Type 0} → T → T → Known T
known_as start x = record { start = start; seen = x; one = x; two = x }

abbrev pub later_hands : {Q : Type 0} → List (Hand Q) → List (Hand Q)
later_hands [] = []
later_hands (h ∷ hs) = hs

abbrev pub first_hand : {Q : Type 0} → List (Hand Q) → List (Hand Q)
first_hand [] = []
first_hand (h ∷ hs) = h ∷ []

-- the seat's first caller has made one more call
abbrev pub with_call : {Q : Type 0} → List (Hand Q) → Call Q → List (Hand Q)
with_call [] c = []
with_call (h ∷ hs) c = record { caller = h.caller; mine = h.mine ++ c ∷ [] } ∷ hs

abbrev pub callers_of : {Q : Type 0} → List (Hand Q) → List ℕ
callers_of [] = []
callers_of (h ∷ hs) = h.caller ∷ callers_of hs

-- whether a caller stands here
abbrev pub HasCaller : {Q : Type 0} → ℕ → List (Hand Q) → Type 0
HasCaller c [] = ⊥
HasCaller c (h ∷ hs) = (h.caller ≡ c) ⊎ HasCaller c hs

-- the calls of one caller; none, where it doesn't stand here
abbrev pub mine_by : {Q : Type 0} → ℕ → List (Hand Q) → List (Call Q)
mine_by c [] = []
mine_by c (h ∷ hs) = if h.caller == c then h.mine else mine_by c hs

-- the calls of the seat's first caller
abbrev pub mine_of : {Q : Type 0} → List (Hand Q) → List (Call Q)
mine_of [] = []
mine_of (h ∷ hs) = h.mine

module _ {T Q : Type 0} where
  -- the callers of all seats, counted
  abbrev pub hands_of : List (View T Q) → ℕ
  hands_of [] = 0
  hands_of (v ∷ vs) = length v.hands + hands_of vs

  abbrev pub newcomer : Origin T → View T Q
  newcomer o = record { known = Some (known_as o.value o.value); hands = fresh o.callers.items; turn = false; first = true }

  abbrev pub spent : View T Q
  spent = record { known = None; hands = []; turn = false; first = false }

  abbrev pub calm : View T Q → View T Q
  calm v = record { known = v.known; hands = v.hands; turn = false; first = false }

  abbrev pub copied : View T Q → View T Q
  copied v = record { known = v.known; hands = []; turn = false; first = false }

  abbrev pub cut_left : View T Q → View T Q
  cut_left v = record { known = v.known; hands = later_hands v.hands; turn = false; first = false }

  abbrev pub cut_right : View T Q → View T Q
  cut_right v = record { known = v.known; hands = first_hand v.hands; turn = false; first = false }

  -- a caller that has made calls stands at its seat
  abbrev pub StandsAt : List (View T Q) → (ℕ → List (Call Q)) → (ℕ → ℕ) → ℕ → Type 0
  StandsAt views mine owner c = (mine c ≡ []) ⊎ ((v : View T Q) × (get_elem? views (owner c) ≡ some v) × HasCaller c v.hands)

  -- a seat that has seen something, of which this holds
  abbrev pub OnKnown : View T Q → (Known T → Type 0) → Type 0
  OnKnown v P = MatchOption v.known ⊥ P

  abbrev pub OnSeen : View T Q → (T → Type 0) → Type 0
  OnSeen v P = MatchOption v.known ⊥ (λ k. P k.seen)

  -- the holder of the turn: it has seen the whole history
  abbrev pub holding : T → T → List (Hand Q) → View T Q
  holding start x hands = record { known = Some (known_as start x); hands = hands; turn = true; first = false }

  abbrev pub resting : T → T → List (Hand Q) → View T Q
  resting start x hands = record { known = Some (known_as start x); hands = hands; turn = false; first = false }

module _ {T Q A : Type 0} (w : Ways T Q A) where
  -- two seats made one: it keeps the longer of what they had seen, and both; the callers of the second stand first
  abbrev pub joined_known : Option (Known T) → Option (Known T) → Option (Known T)
  joined_known (Some a) (Some b) = Some record { start = a.start; seen = if nat_lt (w.size a.seen) (w.size b.seen) then b.seen else a.seen; one = a.seen; two = b.seen }
  joined_known a None = None
  joined_known None (Some b) = None

  abbrev pub joined : View T Q → View T Q → View T Q
  joined v u = record { known = joined_known v.known u.known; hands = u.hands ++ v.hands; turn = false; first = false }

  pub record IsKnown (start now : T) (k : Known T) : Type 0 where
    pub start_is : k.start ≡ start
    pub sound : w.IsSound k.seen
    pub begins : w.Begins k.seen now
    pub one : w.Begins k.one k.seen
    pub two : w.Begins k.two k.seen

  -- what holds of a seat's view, by the value now, the calls of each caller and the seat of each
  pub record IsView (start now : T) (mine : ℕ → List (Call Q)) (owner : ℕ → ℕ) (i : ℕ) (v : View T Q) : Type 0 where
    pub known : MatchOption v.known ⊤ (IsKnown start now)
    pub hands : AllHands (λ h. (owner h.caller ≡ i) × (h.mine ≡ mine h.caller)) v.hands
    pub apart : Apart v.hands
    pub turn : v.turn ≡ true → (0 < length v.hands) × OnSeen v (λ x. x ≡ now)

  -- between two turns: the value is at home
  pub record Home (s : Board T Q) (now : T) : Type 0 where
    pub words : s.words ≡ (2 * w.size now) ∷ []
    pub homes : s.homes ≡ some (Some now) ∷ []
    pub idle : Each (λ i v. v.turn ≡ false) s.views
    pub begun : Each (λ i v. v.first ≡ false) s.views

  -- within a turn: the slot is out with one seat, which has seen the whole history
  pub record Out (s : Board T Q) (now : T) : Type 0 where
    pub words : s.words ≡ (2 * w.size now + 1) ∷ []
    pub homes : s.homes ≡ none ∷ []
    pub holder : ℕ
    pub held : (u : View T Q) × (get_elem? s.views holder ≡ some u) × (u.turn ≡ true)
    pub alone : Each (λ i v. v.turn ≡ true → i ≡ holder) s.views
    pub begun : Each (λ i v. v.first ≡ false) s.views

  -- at the start: the slot is at home and empty
  pub record Opening (o : Origin T) (s : Board T Q) (now : T) : Type 0 where
    pub new : now ≡ o.value
    pub words : s.words ≡ (2 * w.size now + 1) ∷ []
    pub homes : s.homes ≡ some None ∷ []
    pub idle : Each (λ i v. v.turn ≡ false) s.views
    pub lone : Each (λ i v. (i ≡ 0) × (v.first ≡ true)) s.views

  -- the rule, by the value now, the calls that each caller has made, and the seat at which it stands
  pub record KeptBy (o : Origin T) (s : Board T Q) (now : T) (mine : ℕ → List (Call Q)) (owner : ℕ → ℕ) : Type 0 where
    pub sound : w.IsSound now
    pub begun : w.Begins o.value now
    pub made : (c : ℕ) → w.Made o.value now c (mine c)
    pub views : Each (IsView o.value now mine owner) s.views
    pub standing : (c : ℕ) → StandsAt s.views mine owner c
    pub count : hands_of s.views ≡ length o.callers.items
    pub place : Home s now ⊎ (Out s now ⊎ Opening o s now)

  abbrev pub Kept : Origin T → Board T Q → Type 0
  Kept o s = (now : T) × (mine : ℕ → List (Call Q)) × (owner : ℕ → ℕ) × KeptBy o s now mine owner

  -- the turn was taken with the value, whose history begins with all that was seen
  pub record Took (m m' : Sat T Q) : Type 0 where
    pub value : T
    pub start : T
    pub start_is : OnKnown m.0 (λ k. k.start ≡ start)
    pub slot : m'.1 ≡ (0, Some value) ∷ m.1
    pub view : m'.0 ≡ holding start value m.0.hands
    pub sound : w.IsSound value
    pub later : OnSeen m.0 (λ x. w.Begins x value)
    pub made : AllHands (λ h. w.Made start value h.caller h.mine) m.0.hands

  abbrev pub Takes : Step (Option T) → Sat T Q → ℕ → Sat T Q → Type 0
  Takes st m found m' = MatchBool (found == st.first) (Took m m') (m' ≡ m)

  -- the value after a turn is the one that was taken, or it has one more call of the seat's one caller
  abbrev pub Turned : T → T → List (Hand Q) → List Q → Type 0
  Turned x y hands requests =
      MatchBool (w.size y == w.size x) (y ≡ x)
      ((h : Hand Q) × (q : Q) × (a : A) × (hands ≡ h ∷ []) × (requests ≡ q ∷ []) × w.Adds x y h.caller q a)

  abbrev pub hands_after : T → T → List (Hand Q) → List Q → List (Hand Q)
  hands_after x y hands [] = hands
  hands_after x y hands (q ∷ qs) = if w.size y == w.size x then hands else with_call hands (call_to w q y)

  -- the value is given back, and the seat has seen its whole history
  abbrev pub Releases : List Q → Step (Option T) → Sat T Q → ℕ → Sat T Q → Type 0
  Releases requests st m found m' =
      (start x y : T) → m.0 ≡ holding start x m.0.hands → m.1 ≡ (0, Some y) ∷ []
      → (m'.0 ≡ resting start y (hands_after x y m.0.hands requests)) × (m'.1 ≡ []) × AllHands (λ h. w.Made start y h.caller h.mine) m'.0.hands

  -- the first seat has the turn, and the empty slot
  abbrev pub Starts : Step (Option T) → Sat T Q → ℕ → Sat T Q → Type 0
  Starts st m found m' = OnKnown m.0 (λ k. m'.0 ≡ holding k.start k.start m.0.hands) × (m'.1 ≡ (0, None) ∷ [])

  -- nothing changes, and what two seats had seen before they met begins what is seen now
  abbrev pub Learns : Step (Option T) → Sat T Q → ℕ → Sat T Q → Type 0
  Learns st m found m' = (m' ≡ m) × MatchOption m.0.known ⊤ (λ k. w.Begins k.one k.seen × w.Begins k.two k.seen)

  -- The request was answered at the end of a history that begins with all that was seen, in which the caller had made just its own calls. These
  -- have this one added, or nothing has changed.
  pub record Called (v : View T Q) (caller : ℕ) (request : Q) (reply : A) (v' : View T Q) : Type 0 where
    pub start : T
    pub found : T
    pub after : T
    pub start_is : OnKnown v (λ k. k.start ≡ start)
    pub later : OnSeen v (λ x. w.Begins x found)
    pub before : w.Made start found caller (mine_of v.hands)
    pub seen : v'.known ≡ Some (known_as start after)
    pub answered : MatchBool (w.is_done reply) (w.Adds found after caller request reply × (mine_of v'.hands ≡ mine_of v.hands ++ call_to w request after ∷ []))
        ((after ≡ found) × (mine_of v'.hands ≡ mine_of v.hands))
    pub made : w.Made start after caller (mine_of v'.hands)

  -- Both have seen the same, which begins with all that each had seen.
  pub record Met (v u v' u' : View T Q) : Type 0 where
    pub seen : OnSeen v' (λ x. OnSeen u' (λ y. x ≡ y))
    pub first : OnSeen v (λ a. OnSeen v' (λ x. w.Begins a x))
    pub second : OnSeen u (λ a. OnSeen v' (λ x. w.Begins a x))
    pub starts : OnKnown v (λ a. OnKnown v' (λ x. x.start ≡ a.start))

  -- What each had seen begins what is seen now.
  pub record Gathered (v u x : View T Q) : Type 0 where
    pub first : OnSeen v (λ a. OnSeen x (λ b. w.Begins a b))
    pub second : OnSeen u (λ a. OnSeen x (λ b. w.Begins a b))
    pub starts : OnKnown v (λ a. OnKnown x (λ b. b.start ≡ a.start))

  -- The value at the end: its history begins with all that was seen, and since the start it has just these calls of each caller, and none of
  -- anybody else.
  pub record Closed (start : T) (v : View T Q) (x : T) : Type 0 where
    pub sound : w.IsSound x
    pub begins : w.Begins start x
    pub seen : OnSeen v (λ a. w.Begins a x)
    pub made : AllHands (λ h. w.Made start x h.caller h.mine) v.hands
    pub whole : (c : ℕ) → w.Made start x c (mine_by c v.hands)
