-- What the calls of a lane add to it.
use Rattle.std.proofs.Common.{◌≡◌, ℕ, ◌+◌, ◌-◌, ◌<◌, List, [], ◌∷◌, ◌++◌, length, get_or, refl, ap, ◌∙◌, subst, arith, length-append}
use Rattle.std.specs.Prelude.{MatchBool}
use Rattle.lane_lock.specs.declared.call.Call.{Call}
use Rattle.lane_lock.specs.declared.view.View.{View}
use Rattle.lane_lock.specs.Turns.{Called, mine_of}
use Rattle.lane_lock.specs.Ways.{call_to}
use Rattle.test_lane_lock.specs.declared.entry.Entry.{Entry}
use Rattle.test_lane_lock.specs.declared.entry.Request.{Request}
use Rattle.test_lane_lock.specs.declared.entry.Reply.{Reply}
use Rattle.test_lane_lock.specs.declared.entry.Reply.TheVariants.{Done, NoRoom}
use Rattle.test_lane_lock.specs.declared.tally.Tally.{Tally}
use Rattle.test_lane_lock.specs.Tallies.{tally_ways, is_reply}
use Rattle.test_lane_lock.specs.Lanes.{calls_made, AreDone}

pub call_at : Request → ℕ → Call Request
call_at request at = record { request = request; at = at }

pub done_snoc : (rs : List Reply) (at sum : ℕ) → AreDone rs → AreDone (rs ++ Done at sum ∷ [])
done_snoc [] at sum all = tt
done_snoc (Done a s ∷ rs) at sum all = done_snoc rs at sum all
done_snoc (NoRoom ∷ rs) at sum bad = absurd bad

pub not_done : (rs : List Reply) → AreDone (rs ++ NoRoom ∷ []) → ⊥
not_done [] bad = bad
not_done (Done a s ∷ rs) all = not_done rs all
not_done (NoRoom ∷ rs) bad = bad

pub calls_snoc : (qs : List Request) (rs : List Reply) (at sum : ℕ) (d : Request) → AreDone rs → length rs < length qs
    → calls_made qs (rs ++ Done at sum ∷ []) ≡ calls_made qs rs ++ call_at (get_or qs (length rs) d) at ∷ []
unfolding call_at
calls_snoc [] rs at sum d all small = absurd (omega arith)
calls_snoc (q ∷ []) [] at sum d all small = refl
calls_snoc (q ∷ p ∷ qs) [] at sum d all small = refl
calls_snoc (q ∷ qs) (Done a s ∷ rs) at sum d all small = ap (λ (l : List (Call Request)). record { request = q; at = a } ∷ l) (calls_snoc qs rs at sum d all (omega arith))
calls_snoc (q ∷ qs) (NoRoom ∷ rs) at sum d bad small = absurd bad

pub calls_same : (qs : List Request) (rs : List Reply) → AreDone rs → calls_made qs (rs ++ NoRoom ∷ []) ≡ calls_made qs rs
calls_same [] rs all = refl
calls_same (q ∷ qs) [] all = refl
calls_same (q ∷ qs) (Done a s ∷ rs) all = ap (λ (l : List (Call Request)). record { request = q; at = a } ∷ l) (calls_same qs rs all)
calls_same (q ∷ qs) (NoRoom ∷ rs) bad = absurd bad

pub calls_none : (qs : List Request) → calls_made qs [] ≡ []
calls_none [] = refl
calls_none (q ∷ qs) = refl

-- what a call tells of the caller's own calls
pub call_adds : (v v' : View Tally Request) (caller : ℕ) (request : Request) (reply : Reply) (at sum : ℕ) → reply ≡ Done at sum → Called tally_ways v caller request reply v'
    → mine_of v'.hands ≡ mine_of v.hands ++ call_at request at ∷ []
unfolding call_at
call_adds v v' caller request reply at sum is k =
    let told = subst (λ (z : Reply). MatchBool (is_reply z) (tally_ways.Adds k.found k.after caller request z × (mine_of v'.hands ≡ mine_of v.hands ++ call_to tally_ways request k.after ∷ []))
    ((k.after ≡ k.found) × (mine_of v'.hands ≡ mine_of v.hands))) is k.answered in
    let before : List Entry = k.found in
    let n : length k.after ≡ length before + 1 = ap (λ (l : List Entry). length l) told.0.0 ∙ length-append before _ in
    let at_is : at ≡ length before = told.0.1 in
    let place : length k.after - 1 ≡ at = omega arith in
    told.1 ∙ ap (λ (m : ℕ). mine_of v.hands ++ record { request = request; at = m } ∷ []) place

pub call_leaves : (v v' : View Tally Request) (caller : ℕ) (request : Request) (reply : Reply) → reply ≡ NoRoom → Called tally_ways v caller request reply v' → mine_of v'.hands ≡ mine_of v.hands
call_leaves v v' caller request reply is k =
    (subst (λ (z : Reply). MatchBool (is_reply z) (tally_ways.Adds k.found k.after caller request z × (mine_of v'.hands ≡ mine_of v.hands ++ call_to tally_ways request k.after ∷ []))
    ((k.after ≡ k.found) × (mine_of v'.hands ≡ mine_of v.hands))) is k.answered).1
