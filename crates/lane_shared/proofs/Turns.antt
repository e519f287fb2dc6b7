-- One turn more of a worker.
use Rattle.std.proofs.Common.{◌≡◌, ℕ, ◌+◌, List, [], ◌∷◌, ◌++◌, length, map, refl, sym, ap, subst, subst₂, Option, Some, None, MatchOption, IfSome, arith, length-append}
use Rattle.std.proofs.lemmas.List.{map-append}
use Rattle.std.proofs.lemmas.List.Sums.{sum_by-append}
use Rattle.history_caller_laws.specs.history_the_Request.{Request}
use Rattle.history_caller_laws.specs.history_the_Request_TheVariants.{Steps as AsksSteps}
use Rattle.array_requests.specs.declared.reply.Reply.{Reply}
use Rattle.array_requests.specs.declared.reply.Reply.TheVariants.{Done, NoMemory as Short}
use Rattle.lane_shared.specs.declared.worker.Worked.{Worked}
use Rattle.lane_shared.specs.Carried.{Carried, GoesOn, IsAnswered}
use Rattle.lane_shared.specs.Lane.{AreCalls, AreDone}
use Rattle.lane_shared.specs.Worker.{done_in, left_after, AreTurns, HasWorked}
use Rattle.lane_shared.proofs.Done.{none-done, AllEntered, calls-one, done-one}

abbrev Turn : Type 0
Turn = ℕ × Reply

abbrev no-turn : List Turn
no-turn = []

-- a turn behind which another follows was entered
goes-entered : (reply : Reply) (more : ℕ) (replies : List Reply) → left_after reply ≡ Some more → AllEntered replies → AllEntered (reply ∷ replies)
goes-entered (Done at event) more replies is all = all
goes-entered Short more replies is all = absurd cc

not-none : (before : List Turn) (t : Turn) → before ++ t ∷ [] ≡ [] → ⊥
not-none [] t is = cc
not-none (b ∷ before) t is = cc

module _ (answers : ℕ → ℕ → ℕ → Type 0) (last : Turn) (more : ℕ) (goes : left_after last.1 ≡ Some more) where
  all-entered : (before : List Turn) (turn left : ℕ) → AreTurns answers turn left (before ++ last ∷ []) → AllEntered (map (λ (t : Turn). t.1) (before ++ last ∷ []))
  all-entered [] turn left turns = goes-entered last.1 more [] goes tt
  all-entered (b ∷ before) turn left turns = one (λ n rest. all-entered before (turn + 1) n rest) (left_after b.1) refl turns.1
    where
      one : ((n : ℕ) → AreTurns answers (turn + 1) n (before ++ last ∷ []) → AllEntered (map (λ (t : Turn). t.1) (before ++ last ∷ [])))
          → (found : Option ℕ) → left_after b.1 ≡ found → MatchOption found (before ++ last ∷ [] ≡ []) (λ more. AreTurns answers (turn + 1) more (before ++ last ∷ []))
          → AllEntered (map (λ (t : Turn). t.1) ((b ∷ before) ++ last ∷ []))
      one later None is none = absurd (not-none before last none)
      one later (Some n) is rest = goes-entered b.1 n (map (λ (t : Turn). t.1) (before ++ last ∷ [])) is (later n rest)

  asked-more : (before : List Turn) (turn left : ℕ) (next : Turn) → AreTurns answers turn left (before ++ last ∷ []) → answers (turn + length (before ++ last ∷ [])) more next.0
      → AreTurns answers turn left ((before ++ last ∷ []) ++ next ∷ [])
  asked-more [] turn left next turns asked = (
    turns.0,
    subst (λ (found : Option ℕ). MatchOption found (next ∷ [] ≡ []) (λ m. AreTurns answers (turn + 1) m (next ∷ []))) (sym goes) (asked, ends (left_after next.1)),
  )
    where
      ends : (found : Option ℕ) → MatchOption found (no-turn ≡ []) (λ m. AreTurns answers (turn + 1 + 1) m [])
      ends None = refl
      ends (Some m) = tt
  asked-more (b ∷ before) turn left next turns asked = (
    turns.0,
    one (λ m rest. asked-more before (turn + 1) m next rest (subst (λ (n : ℕ). answers n more next.0) (omega arith) asked)) (left_after b.1) turns.1,
  )
    where
      one : ((m : ℕ) → AreTurns answers (turn + 1) m (before ++ last ∷ []) → AreTurns answers (turn + 1) m ((before ++ last ∷ []) ++ next ∷ []))
          → (found : Option ℕ) → MatchOption found (before ++ last ∷ [] ≡ []) (λ m. AreTurns answers (turn + 1) m (before ++ last ∷ []))
          → MatchOption found ((before ++ last ∷ []) ++ next ∷ [] ≡ []) (λ m. AreTurns answers (turn + 1) m ((before ++ last ∷ []) ++ next ∷ []))
      one later None none = absurd (not-none before last none)
      one later (Some m) rest = later m rest

-- where more can be asked for, a weaker fact holds too
pub if-more : {A B : Type 0} (found : Option ℕ) → (A → B) → IfSome found (λ m. A) → IfSome found (λ m. B)
if-more None weaker fact = tt
if-more (Some m) weaker fact = weaker fact

-- the first turn
pub first-turn : {tells P : Type 0} (answered : P → Request → Reply → P → Type 0) (carried : P → Carried) (answers : ℕ → ℕ → ℕ → Type 0) (left most : ℕ) (old new : P) (reply : Reply) (done : ℕ) → answers 0 left most
    → answered old (AsksSteps most) reply new → GoesOn tells (carried old) (carried new) → IsAnswered tells (carried old) (AsksSteps most) reply (carried new)
    → done ≡ done_in reply → HasWorked answered carried answers left old new (record { turns = 1; done = done; last = reply })
first-turn answered carried answers left most old new reply done asked call goes entered is = record {
  turns = (most, reply) ∷ [];
  calls = calls-one answered old old new [] [] (AsksSteps most) reply refl tt call;
  made = done-one (carried old) (carried old) (carried new) [] [] (AsksSteps most) (none-done (carried old)) tt goes reply entered;
  asked = (asked, ends (left_after reply));
  count = refl;
  done = omega (arith, is);
  last = ([], most, refl);
}
  where
    ends : (found : Option ℕ) → MatchOption found (no-turn ≡ []) (λ m. AreTurns answers (0 + 1) m [])
    ends None = refl
    ends (Some m) = tt

-- one more
pub turn-more : {tells P : Type 0} (answered : P → Request → Reply → P → Type 0) (carried : P → Carried) (answers : ℕ → ℕ → ℕ → Type 0) (left more most : ℕ)
    (old mid new : P) (worked : Worked) (reply : Reply) (done : ℕ)
    → left_after worked.last ≡ Some more → HasWorked answered carried answers left old mid worked → answers worked.turns more most
    → answered mid (AsksSteps most) reply new → GoesOn tells (carried mid) (carried new) → IsAnswered tells (carried mid) (AsksSteps most) reply (carried new)
    → done ≡ done_in reply
    → HasWorked answered carried answers left old new (record { turns = worked.turns + 1; done = worked.done + done; last = reply })
turn-more answered carried answers left more most old mid new worked reply done is was asked call goes entered tells-done =
    let turns = was.turns in
    let before = was.last.0 in
    let last : Turn = (was.last.1, worked.last) in
    let turns-is : turns ≡ before ++ last ∷ [] = was.last.2 in
    let next : Turn = (most, reply) in
    let all : AllEntered (map (λ (t : Turn). t.1) turns) =
    subst (λ (l : List Turn). AllEntered (map (λ (t : Turn). t.1) l)) (sym turns-is)
    (all-entered answers last more is before 0 left (subst (λ (l : List Turn). AreTurns answers 0 left l) turns-is was.asked)) in
    record {
      turns = turns ++ next ∷ [];
      calls = subst₂ (λ (qs : List Request) (rs : List Reply). AreCalls answered old qs rs new) (sym (map-append (λ (t : Turn). AsksSteps t.0) turns (next ∷ [])))
          (sym (map-append (λ (t : Turn). t.1) turns (next ∷ [])))
          (calls-one answered old mid new (map (λ (t : Turn). AsksSteps t.0) turns) (map (λ (t : Turn). t.1) turns) (AsksSteps most) reply was.calls all call);
      made = subst₂ (λ (qs : List Request) (rs : List Reply). AreDone (carried old) (carried new) qs rs) (sym (map-append (λ (t : Turn). AsksSteps t.0) turns (next ∷ [])))
          (sym (map-append (λ (t : Turn). t.1) turns (next ∷ [])))
          (done-one (carried old) (carried mid) (carried new) (map (λ (t : Turn). AsksSteps t.0) turns) (map (λ (t : Turn). t.1) turns) (AsksSteps most) was.made all goes reply entered);
      asked = subst (λ (l : List Turn). AreTurns answers 0 left (l ++ next ∷ [])) (sym turns-is)
          (asked-more answers last more is before 0 left next (subst (λ (l : List Turn). AreTurns answers 0 left l) turns-is was.asked)
          (subst (λ (n : ℕ). answers n more most) (let count = was.count in let long = ap (λ (l : List Turn). length l) turns-is in omega (arith, count, long)) asked));
      count = (let count = was.count in let long = length-append turns (next ∷ []) in omega (arith, count, long));
      done = (let so-far = was.done in let sum = sum_by-append (λ (t : Turn). done_in t.1) turns (next ∷ []) in omega (arith, so-far, tells-done, sum));
      last = (turns, most, refl);
    }
