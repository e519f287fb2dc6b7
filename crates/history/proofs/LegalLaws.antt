-- Legal histories stay legal, and calls add up.
use Rattle.std.proofs.Common.{◌≡◌, ℕ, ◌≤◌, Bool, true, false, ◌&&◌, ◌==◌, cond, List, [], ◌∷◌, ◌++◌, length, refl, sym, ap, subst, subst₂, Option, Some, None, unwrap_or, append_assoc, append-nil, eqb-true}
use Rattle.std.proofs.lemmas.List.{take-append-le}
use Rattle.history.specs.declared.events.Entry.{Entry}
use Rattle.bank.specs.declared.bank.Operation.{Operation}
use Rattle.history.specs.Flat.{rest_of_call, is_same_call, last_of}
use Rattle.history.specs.World.{World, until}
use Rattle.history.specs.Legal.{AreLegal, IsLegalEntry, call_end}
use Rattle.history.specs.Growing.{grown, EndBy, HistoriesStayLegal, CallsAddUp, BeginAnother}

-- ---- more operations

pub until-grown : (world : World) (more : List Operation) (mark : ℕ) → mark ≤ length world.tape
    → until mark (grown world more) ≡ until mark world
until-grown world more mark within =
    ap (λ tape. record { start = world.start; tape = tape; scope = world.scope; first = world.first })
    (take-append-le mark world.tape more within)

rest-end : (mark : ℕ) (e : Entry) (entries : List Entry) → EndBy mark entries → EndBy mark (rest_of_call e entries)
rest-end mark e [] ends = tt
rest-end mark e (next ∷ entries) ends = by_test (is_same_call e next) (rest-end mark e entries ends.1)
  where
    by_test : (b : Bool) → EndBy mark (rest_of_call e entries) → EndBy mark (cond b (next ∷ rest_of_call e entries) [])
    by_test true rest = (ends.0, rest)
    by_test false rest = tt

call_end-by : (mark : ℕ) (e : Entry) (rest : List Entry) → e.end ≤ mark → EndBy mark rest → call_end e rest ≤ mark
call_end-by mark e [] h ends = h
call_end-by mark e (next ∷ rest) h ends = call_end-by mark next rest ends.0 ends.1

stay-legal : (world : World) (before entries : List Entry) (more : List Operation) → EndBy (length world.tape) entries
    → AreLegal world before entries → AreLegal (grown world more) before entries
stay-legal world before [] more ends legal = tt
stay-legal world before (e ∷ entries) more ends legal =
    let within : call_end e (rest_of_call e entries) ≤ length world.tape =
    call_end-by (length world.tape) e (rest_of_call e entries) ends.0 (rest-end (length world.tape) e entries ends.1) in (
      subst (λ w. IsLegalEntry w before e (rest_of_call e entries))
          (sym (until-grown world more (call_end e (rest_of_call e entries)) within)) legal.0,
      stay-legal world (before ++ e ∷ []) entries more ends.1 legal.1,
    )

pub histories-stay-legal : HistoriesStayLegal
histories-stay-legal world entries more ends legal = stay-legal world [] entries more ends legal

-- ---- a new call

pub both : (a b : Bool) → (a && b) ≡ true → (a ≡ true) × (b ≡ true)
both true b e = (refl, e)
both false b e = absurd (cc)

-- what isn't of this entry's call isn't of that of another entry of the call
another-too : (e x : Entry) (added : List Entry) → is_same_call e x ≡ true → BeginAnother (Some x) added → BeginAnother (Some e) added
another-too e x [] same begin = tt
another-too e x (y ∷ added) same begin =
    let parts : ((e.caller == x.caller) ≡ true) × ((e.number == x.number) ≡ true) = both (e.caller == x.caller) (e.number == x.number) same in
    subst₂ (λ caller number. ((caller == y.caller) && (number == y.number)) ≡ false)
    (sym (eqb-true e.caller x.caller parts.0)) (sym (eqb-true e.number x.number parts.1)) begin

pub another-last : (e x : Entry) (added : List Entry) (last : Option Entry) → is_same_call e x ≡ true
    → BeginAnother (Some (unwrap_or last x)) added → BeginAnother (Some (unwrap_or last e)) added
another-last e x added None same begin = another-too e x added same begin
another-last e x added (Some l) same begin = begin

-- a call doesn't go on into entries that begin another
pub rest-apart : (e : Entry) (xs added : List Entry) → BeginAnother (Some (unwrap_or (last_of xs) e)) added
    → rest_of_call e (xs ++ added) ≡ rest_of_call e xs
rest-apart e [] [] begin = refl
rest-apart e [] (y ∷ added) begin = ap (λ b. cond b (y ∷ rest_of_call e added) []) begin
rest-apart e (x ∷ xs) added begin = by_test (is_same_call e x) refl
    (λ same. rest-apart e xs added (another-last e x added (last_of xs) same begin))
  where
    by_test : (b : Bool) → is_same_call e x ≡ b → (is_same_call e x ≡ true → rest_of_call e (xs ++ added) ≡ rest_of_call e xs)
        → cond b (x ∷ rest_of_call e (xs ++ added)) [] ≡ cond b (x ∷ rest_of_call e xs) []
    by_test true is goes = ap (λ l. x ∷ l) (goes is)
    by_test false is goes = refl

pub another-behind : (e : Entry) (xs added : List Entry) → BeginAnother (last_of (e ∷ xs)) added → BeginAnother (last_of xs) added
another-behind e [] added begin = tt
another-behind e (x ∷ xs) added begin = begin

add-up : (world : World) (before xs added : List Entry) → BeginAnother (last_of xs) added
    → AreLegal world before xs → AreLegal world (before ++ xs) added → AreLegal world before (xs ++ added)
add-up world before [] added begin legal behind = subst (λ l. AreLegal world l added) (append-nil before) behind
add-up world before (e ∷ xs) added begin legal behind = (
  subst (λ rest. IsLegalEntry (until (call_end e rest) world) before e rest) (sym (rest-apart e xs added begin)) legal.0,
  add-up world (before ++ e ∷ []) xs added (another-behind e xs added begin) legal.1
      (subst (λ l. AreLegal world l added) (sym (append_assoc before (e ∷ []) xs)) behind),
)

pub calls-add-up : CallsAddUp
calls-add-up world entries added begin legal behind = add-up world [] entries added begin legal behind
