-- Texts that are appended one behind another.
use Rattle.std.proofs.Common.{rules, subst, ◌≡◌, ℕ, ◌+◌, ◌<◌, ◌≤◌, false, true, true≢false, List, [], ◌∷◌, ◌++◌, length, ap, sym, ◌∙◌, arith, length-append, append_assoc, decimal, Vec, vec_capacity, Result, Ok, Err}
use Rattle.std.specs.Result.{is_err}
use Rattle.script.specs.Appends.{Appends, AppendsFew}

-- what was appended first, and then another text
pub then : {Z T U E F : Type 0} {old mid new : Vec ℕ Z} {x : T} {result : Result U F} {a b : List ℕ}
    → Appends {Z = Z} {T = T} {E = E} old mid (Ok x) a → Appends mid new result b → Appends old new result (a ++ b)
then {old = old} {mid = mid} {new = new} {result = Ok y} {a = a} {b = b} first second = record {
  whole = second.whole ∙ ap (λ t. t ++ b) first.whole ∙ append_assoc old.items a b;
  full = tt;
  room = omega (arith, first.room, second.room);
}
then {old = old} {mid = mid} {new = new} {result = Err e} {a = a} {b = b} first second = record {
  whole = tt;
  full =
      let same : length (mid.items ++ b) ≡ length (old.items ++ (a ++ b)) = ap length (ap (λ t. t ++ b) first.whole ∙ append_assoc old.items a b) in
      omega (arith, first.room, second.full, same);
  room = omega (arith, first.room, second.room);
}

-- the same text, said otherwise
pub retold : {Z T E : Type 0} {old new : Vec ℕ Z} {result : Result T E} {a b : List ℕ} → a ≡ b → Appends {Z = Z} {T = T} {E = E} old new result a → Appends {Z = Z} {T = T} {E = E} old new result b
retold {old = old} {new = new} {result = result} same told = subst (λ text. Appends old new result text) same told

-- three texts behind a first one, in a row
pub in_a_row : (a b c d e f : List ℕ) → a ++ (b ++ ((c ++ d) ++ (e ++ f))) ≡ a ++ b ++ c ++ d ++ e ++ f
in_a_row a b c d e f = search (rules, append_assoc)

-- a call's error is passed on
pub failed : {Z T E U F : Type 0} {old new : Vec ℕ Z} {e : E} {r : Result U F} {a : List ℕ} → is_err r ≡ true → Appends {Z = Z} {T = T} {E = E} old new (Err e) a
    → Appends {Z = Z} {T = U} {E = F} old new r a
failed {r = Ok x} is told = absurd (true≢false (sym is))
failed {r = Err f} is told = record { whole = tt; full = told.full; room = told.room }

pub failed_few : {Z T E U F : Type 0} {old new : Vec ℕ Z} {e : E} {r : Result U F} {m : ℕ} → is_err r ≡ true → AppendsFew {Z = Z} {T = T} {E = E} m old new (Err e)
    → AppendsFew {Z = Z} {T = U} {E = F} m old new r
failed_few {r = Ok x} is told = absurd (true≢false (sym is))
failed_few {r = Err f} is told = record { few = tt; full = told.full }

-- what has no room has none with more behind it
pub longer : {Z T E : Type 0} {old new : Vec ℕ Z} {e : E} {a : List ℕ} (b : List ℕ) → Appends {Z = Z} {T = T} {E = E} old new (Err e) a
    → Appends {Z = Z} {T = T} {E = E} old new (Err e) (a ++ b)
longer {old = old} {a = a} b told = record {
  whole = tt;
  full = omega (arith, told.full, length-append old.items a, length-append old.items (a ++ b), length-append a b);
  room = told.room;
}

-- a word or two and a number behind a text
pub counted : {Z T U E F : Type 0} {old mid new : Vec ℕ Z} {x : T} {result : Result U F} {a : List ℕ} {n k : ℕ} (words : List ℕ) → n ≡ k
    → Appends {Z = Z} {T = T} {E = E} old mid (Ok x) a → Appends mid new result (words ++ decimal n) → Appends old new result ((a ++ words) ++ decimal k)
counted {a = a} {n = n} words same first second =
    retold (sym (append_assoc a words (decimal n)) ∙ ap (λ i. (a ++ words) ++ decimal i) same) (then first second)

-- what `push` or `extend_from_slice` appended
pub added : {Z : Type 0} {old new : Vec ℕ Z} {b a : List ℕ} → b ≡ a → new.items ≡ old.items ++ b → vec_capacity old ≤ vec_capacity new
    → Appends {Z = Z} {T = ℕ} {E = ℕ} old new (Ok 0) a
added {old = old} same whole room = record { whole = whole ∙ ap (λ t. old.items ++ t) same; full = tt; room = room }

-- what `push` had no room for
pub unpushed : {Z : Type 0} {old new : Vec ℕ Z} (b : ℕ) → (old.len < vec_capacity old → false ≡ true) → vec_capacity old ≤ vec_capacity new
    → Appends {Z = Z} {T = ℕ} {E = ℕ} old new (Err 0) (b ∷ [])
unpushed {old = old} b succeeds room =
    let no : old.len < vec_capacity old → ⊥ = λ h. true≢false (sym (succeeds h)) in
    record { whole = tt; full = omega (arith, no, old.ok.0, length-append old.items (b ∷ [])); room = room }

-- what `extend_from_slice` had no room for
pub unextended : {Z : Type 0} {old new : Vec ℕ Z} {b a : List ℕ} → b ≡ a → vec_capacity old < old.len + length b → vec_capacity old ≤ vec_capacity new
    → Appends {Z = Z} {T = ℕ} {E = ℕ} old new (Err 0) a
unextended {old = old} {a = a} same full room = record { whole = tt; full = omega (arith, full, ap length same, old.ok.0, length-append old.items a); room = room }

-- at most as many bytes as the text has
pub few_of : {Z T E : Type 0} {old new : Vec ℕ Z} {result : Result T E} {a : List ℕ} → Appends {Z = Z} {T = T} {E = E} old new result a
    → AppendsFew {Z = Z} {T = T} {E = E} (length a) old new result
few_of {old = old} {result = Ok x} {a = a} told = record { few = omega (arith, ap length told.whole, length-append old.items a); full = tt }
few_of {old = old} {result = Err e} {a = a} told = record { few = tt; full = omega (arith, told.full, length-append old.items a) }

pub few_so_far : {Z : Type 0} {old new : Vec ℕ Z} {m : ℕ} → length new.items ≤ length old.items + m → AppendsFew {Z = Z} {T = ℕ} {E = ℕ} m old new (Ok 0)
few_so_far few = record { few = few; full = tt }

-- a few bytes, and then a few more
pub then_few : {Z T U E F : Type 0} {old mid new : Vec ℕ Z} {x : T} {result : Result U F} {m n : ℕ}
    → AppendsFew {Z = Z} {T = T} {E = E} m old mid (Ok x) → vec_capacity old ≤ vec_capacity mid → AppendsFew n mid new result → AppendsFew (m + n) old new result
then_few {result = Ok y} first room second = record { few = omega (arith, first.few, second.few); full = tt }
then_few {result = Err e} first room second = record { few = tt; full = omega (arith, first.few, room, second.full) }

pub at_most : {Z T E : Type 0} {old new : Vec ℕ Z} {result : Result T E} {m : ℕ} (most : ℕ) → m ≤ most → AppendsFew {Z = Z} {T = T} {E = E} m old new result
    → AppendsFew {Z = Z} {T = T} {E = E} most old new result
at_most {result = Ok y} most le told = record { few = omega (arith, told.few, le); full = tt }
at_most {result = Err e} most le told = record { few = tt; full = omega (arith, told.full, le) }

-- what is written, with what is left, is the whole
pub begun : {Z T E : Type 0} {old new : Vec ℕ Z} {x : T} {h : List ℕ} (rest : List ℕ) → Appends {Z = Z} {T = T} {E = E} old new (Ok x) h
    → new.items ++ rest ≡ old.items ++ (h ++ rest)
begun {old = old} {h = h} rest told = ap (λ t. t ++ rest) told.whole ∙ append_assoc old.items h rest

-- one piece more of what is left
pub goes_on : {Z T E : Type 0} {old new : Vec ℕ Z} {x : T} {a : List ℕ} (rest whole : List ℕ) → Appends {Z = Z} {T = T} {E = E} old new (Ok x) a
    → old.items ++ (a ++ rest) ≡ whole → new.items ++ rest ≡ whole
goes_on {old = old} {a = a} rest whole told is = ap (λ t. t ++ rest) told.whole ∙ append_assoc old.items a rest ∙ is

-- one piece more has no room, so the whole has none
pub ends : {Z T E : Type 0} {old mid new : Vec ℕ Z} {e : E} {a : List ℕ} (rest whole : List ℕ) → vec_capacity old ≤ vec_capacity mid
    → mid.items ++ (a ++ rest) ≡ old.items ++ whole → Appends {Z = Z} {T = T} {E = E} mid new (Err e) a → Appends {Z = Z} {T = T} {E = E} old new (Err e) whole
ends {old = old} {mid = mid} {a = a} rest whole room is told = record {
  whole = tt;
  full = omega (arith, room, told.full, ap length is, length-append mid.items a, length-append mid.items (a ++ rest), length-append a rest);
  room = omega (arith, room, told.room);
}
