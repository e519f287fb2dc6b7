-- The entries of a call that ends at one moment: how many were made by a mark, and how the opening's list stays.
use Rattle.std.proofs.Common.{◌≡◌, ℕ, suc, ◌+◌, ◌<◌, ◌≤◌, Bool, true, false, cond, List, [], ◌∷◌, ◌++◌, length, refl, ap, ◌∙◌, arith, leb}
use Rattle.std.proofs.lemmas.Bool.{lt-leb, le-leb}
use Rattle.raid_types.specs.declared.answers.Who.{Who}
use Rattle.history_append.specs.bank_the_Operation.{Operation}
use Rattle.history_append.proofs.bank_Laws.{contents-earlier}
use Rattle.history_append.specs.history_Stands.{stands}
use Rattle.history_append.specs.history_the_Entry.{Entry}
use Rattle.history_append.specs.history_the_Event.{Event}
use Rattle.history_append.specs.history_Flat.{rest_of_call}
use Rattle.history_append.specs.history_Plain.{entries_of}
use Rattle.history_append.specs.history_World.{World, opening_list}
use Rattle.history_append.specs.history_CrashSafe.{made_by, first_call_len}
use Rattle.history_append.specs.history_Growing.{grown, EndBy, MadeFrom}
use Rattle.history_append.proofs.PlainLaws.{rest_whole}

pub made-past : (mark : ℕ) (xs : List Entry) → EndBy mark xs → made_by mark xs ≡ length xs
made-past mark [] ends = refl
made-past mark (x ∷ xs) ends = rw (le-leb x.end mark ends.0) (let rest : made_by mark xs ≡ length xs = made-past mark xs ends.1 in omega (arith, rest))

pub made-both : (mark : ℕ) (xs ys : List Entry) → made_by mark (xs ++ ys) ≡ made_by mark xs + made_by mark ys
made-both mark [] ys = omega arith
made-both mark (x ∷ xs) ys = by (leb x.end mark) (made-both mark xs ys)
  where
    by : (b : Bool) → made_by mark (xs ++ ys) ≡ made_by mark xs + made_by mark ys
        → cond b (1 + made_by mark (xs ++ ys)) (made_by mark (xs ++ ys)) ≡ cond b (1 + made_by mark xs) (made_by mark xs) + made_by mark ys
    by true e = omega (arith, e)
    by false e = e

pub made-before : (mark end : ℕ) (who : Who) (events : List Event) → mark < end → made_by mark (entries_of who end events) ≡ 0
made-before mark end who [] before = refl
made-before mark end who (event ∷ events) before = rw (lt-leb end mark before) (made-before mark end who events before)

pub length-entries : (who : Who) (end : ℕ) (events : List Event) → length (entries_of who end events) ≡ length events
length-entries who end [] = refl
length-entries who end (event ∷ events) = ap suc (length-entries who end events)

-- the entries of one call
pub call-length : (who : Who) (end : ℕ) (events : List Event) → first_call_len (entries_of who end events) ≡ length events
call-length who end [] = refl
call-length who end (event ∷ events) =
    let rest : length (rest_of_call (record { caller = who.caller; number = who.number; end = end; event = event }) (entries_of who end events)) ≡ length events =
    ap length (rest_whole who end event events) ∙ length-entries who end events in
    omega (arith, rest)

pub made-from : (mark end : ℕ) (who : Who) (events : List Event) → mark ≤ end → MadeFrom mark (entries_of who end events)
made-from mark end who [] from = tt
made-from mark end who (event ∷ events) from = (from, made-from mark end who events from)

pub ends-by : (mark later : ℕ) (xs : List Entry) → mark ≤ later → EndBy mark xs → EndBy later xs
ends-by mark later [] le by = tt
ends-by mark later (x ∷ xs) le by = (let at = by.0 in omega (arith, le, at), ends-by mark later xs le by.1)

pub opening-grown : (world : World) (more : List Operation) → world.first ≤ length world.tape → opening_list (grown world more) ≡ opening_list world
unfolding opening_list
opening-grown world more within =
    ap (stands world.scope) (λ i slot at. contents-earlier world.start world.tape more world.first slot at within i)
