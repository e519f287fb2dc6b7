-- Who calls between two lines of the script.
use Rattle.std.proofs.Common.{◌≡◌, ◌≢◌, ◌⊎◌, inl, inr, ℕ, zero, suc, ◌+◌, ◌-◌, ◌<◌, ◌≤◌, ◌==◌, ◌&&◌, Bool, true, false, Option, Some, None, List, [], ◌∷◌, ◌++◌, length, take, drop, fold, refl, sym, ◌∙◌, ap, subst, arith, append_assoc, append-nil, eq-eqb, ne_eqb}
use Rattle.std.proofs.Math.Seq.{take-add}
use Rattle.std.proofs.lemmas.Bool.{cases_lt}
use Rattle.std.proofs.lemmas.Bool.Decides.{nat_tests}
use Rattle.std.proofs.lemmas.List.Sums.{fold-append}
use Rattle.std.proofs.lemmas.List.Elements.{All-nil, All-cons, All-head, All-tail}
use Rattle.std.specs.Prelude.{slice_get, unwrap_or, MatchOption, if◌then◌else◌, IsTrue, ⊤}
use Rattle.std.specs.List.{All}
use Rattle.std.specs.Option.{option_and_then, option_map_or}
use Rattle.script.specs.history_World.{World}
use Rattle.script.specs.history_the_Entry.{Entry}
use Rattle.script.specs.history_Flat.{is_same_call, last_of, next_number, number_after, length_of}
use Rattle.script.specs.history_Legal.{GoesOn, IsNumbered, AreLegal, IsLegal}
use Rattle.script.specs.declared.lines.Line.{Line}
use Rattle.script.specs.declared.lines.Line.TheVariants.{Wait}
use Rattle.script.specs.declared.reply.Lane.{Lane}
use Rattle.script.specs.declared.reply.Lane.TheVariants.{Script as InScript, A as InA, B as InB, Worker as InWorker}
use Rattle.run_specs.specs.declared.report.Answered.TheVariants.{Inside}
use Rattle.run_specs.specs.Blocks.{caller_of, IsOfBlock}
use Rattle.run_specs.specs.Histories.{History, is_end}
use Rattle.run_specs.specs.Replies.{Course, at_rest, gone_on, calls_behind, course_behind, entries_to, course_after, IsWaitedAt, IsRepliedAt, AreCallsTold, IsAnsweredInside}
use Rattle.run_specs.specs.Ruled.{LanesCallInBlocks, UnaskedLanesAreSilent}

-- ---- numbers of a legal history

-- each entry goes on with the call before it, or begins its caller's next one
abbrev AreNumbered : List Entry → List Entry → Type 0
AreNumbered before [] = ⊤
AreNumbered before (e ∷ entries) = IsNumbered before e × AreNumbered (before ++ e ∷ []) entries

legal-numbered : (world : World) (before entries : List Entry) → AreLegal world before entries → AreNumbered before entries
legal-numbered world before [] legal = tt
legal-numbered world before (e ∷ entries) (one, rest) = (one.numbered, legal-numbered world (before ++ e ∷ []) entries rest)

numbered-front : (before xs ys : List Entry) → AreNumbered before (xs ++ ys) → AreNumbered before xs
numbered-front before [] ys are = tt
numbered-front before (x ∷ xs) ys (one, rest) = (one, numbered-front (before ++ x ∷ []) xs ys rest)

numbered-back : (before xs ys : List Entry) → AreNumbered before (xs ++ ys) → AreNumbered (before ++ xs) ys
numbered-back before [] ys are = subst (λ (l : List Entry). AreNumbered l ys) (sym (append-nil before)) are
numbered-back before (x ∷ xs) ys (one, rest) = subst (λ (l : List Entry). AreNumbered l ys) (append_assoc before (x ∷ []) xs) (numbered-back (before ++ x ∷ []) xs ys rest)

same-calls : (a b : Entry) → IsTrue (is_same_call a b) → (a.caller ≡ b.caller) × (a.number ≡ b.number)
same-calls a b is = by (a.caller == b.caller) refl (a.number == b.number) refl is
  where
    so : (n m : ℕ) → (n == m) ≡ true → n ≡ m
    so n m is = grind (arith, nat_tests, is)

    by : (p : Bool) → (a.caller == b.caller) ≡ p → (q : Bool) → (a.number == b.number) ≡ q → (p && q) ≡ true → (a.caller ≡ b.caller) × (a.number ≡ b.number)
    by true callers true numbers both = (so a.caller b.caller callers, so a.number b.number numbers)
    by true callers false numbers both = absurd (cc)
    by false callers q numbers both = absurd (cc)

last-snoc : (xs : List Entry) (e : Entry) → last_of (xs ++ e ∷ []) ≡ Some e
last-snoc [] e = refl
last-snoc (x ∷ xs) e = ap (λ (o : Option Entry). Some (unwrap_or o x)) (last-snoc xs e)

last-number : (c n : ℕ) (xs : List Entry) (l : Entry) → last_of xs ≡ Some l → l.caller ≡ c → fold (number_after c) n xs ≡ l.number + 1
last-number c n [] l is callers = absurd (cc)
last-number c n (x ∷ []) l is callers =
    let same : x ≡ l = some_same is in
    ap (λ (e : Entry). number_after c n e) same ∙ ap (λ (b : Bool). if b then l.number + 1 else n) (eq-eqb l.caller c callers)
  where
    some_same : {a b : Entry} → Some a ≡ Some b → a ≡ b
    some_same is = cc
last-number c n (x ∷ y ∷ xs) l is callers = last-number c (number_after c n x) (y ∷ xs) l is callers

next-snoc : (c : ℕ) (before : List Entry) (e : Entry) → next_number c (before ++ e ∷ []) ≡ number_after c (next_number c before) e
next-snoc c before e = fold-append (number_after c) 0 before (e ∷ [])

counted : (c n : ℕ) (e : Entry) → e.caller ≡ c → number_after c n e ≡ e.number + 1
counted c n e is = ap (λ (b : Bool). if b then e.number + 1 else n) (eq-eqb e.caller c is)

uncounted : (c n : ℕ) (e : Entry) → e.caller ≢ c → number_after c n e ≡ n
uncounted c n e ne = ap (λ (b : Bool). if b then e.number + 1 else n) (ne_eqb e.caller c ne)

is-so : (n m : ℕ) → (n == m) ≡ true → n ≡ m
is-so n m is = grind (arith, nat_tests, is)

not-so : (n m : ℕ) → (n == m) ≡ false → n ≢ m
not-so n m is same = absurd (let both : (n == m) ≡ true = eq-eqb n m same in let clash : true ≡ false = sym both ∙ is in cc)

-- a caller's next number never falls
one-rises : (c : ℕ) (before : List Entry) (e : Entry) → IsNumbered before e → next_number c before ≤ next_number c (before ++ e ∷ [])
one-rises c before e numbered = by (e.caller == c) refl
  where
    going : (o : Option Entry) → last_of before ≡ o → GoesOn o e → e.caller ≡ c → next_number c before ≡ e.number + 1
    going None is goes callers = absurd goes
    going (Some l) is goes callers = let same = same-calls l e goes in last-number c 0 before l is (same.0 ∙ callers) ∙ ap (λ (n : ℕ). n + 1) same.1

    number : GoesOn (last_of before) e ⊎ (e.number ≡ next_number e.caller before) → e.caller ≡ c → next_number c before ≤ e.number + 1
    number (inl goes) callers = let same = going (last_of before) refl goes callers in omega (arith, same)
    number (inr next) callers = let same = ap (λ (d : ℕ). next_number d before) callers in omega (arith, next, same)

    by : (b : Bool) → (e.caller == c) ≡ b → next_number c before ≤ next_number c (before ++ e ∷ [])
    by true is =
        let callers = is-so e.caller c is in
        let after = next-snoc c before e ∙ counted c (next_number c before) e callers in
        let le = number numbered callers in
        omega (arith, after, le)
    by false is = let after = next-snoc c before e ∙ uncounted c (next_number c before) e (not-so e.caller c is) in omega (arith, after)

rises : (c : ℕ) (before more : List Entry) → AreNumbered before more → next_number c before ≤ next_number c (before ++ more)
rises c before [] are = let same = ap (λ (l : List Entry). next_number c l) (append-nil before) in omega (arith, same)
rises c before (e ∷ more) (one, rest) =
    let first = one-rises c before e one in
    let later = rises c (before ++ e ∷ []) more rest in
    let same = ap (λ (l : List Entry). next_number c l) (append_assoc before (e ∷ []) more) in
    omega (arith, first, later, same)

-- where it stays, the caller has called nothing
silent : (c : ℕ) (before more : List Entry) → AreNumbered before more → ((l : Entry) → last_of before ≡ Some l → l.caller ≢ c) → next_number c (before ++ more) ≡ next_number c before → All (λ e. e.caller ≢ c) more
silent c before [] are other same = All-nil (λ e. e.caller ≢ c)
silent c before (e ∷ more) (one, rest) other same = by (e.caller == c) refl (λ others after. silent c (before ++ e ∷ []) more rest others after)
  where
    some_same : {a b : Entry} → Some a ≡ Some b → a ≡ b
    some_same is = cc

    whole : next_number c ((before ++ e ∷ []) ++ more) ≡ next_number c before
    whole = ap (λ (l : List Entry). next_number c l) (append_assoc before (e ∷ []) more) ∙ same

    going : (o : Option Entry) → last_of before ≡ o → GoesOn o e → e.caller ≡ c → ⊥
    going None is goes callers = absurd goes
    going (Some l) is goes callers = other l is ((same-calls l e goes).0 ∙ callers)

    none : GoesOn (last_of before) e ⊎ (e.number ≡ next_number e.caller before) → e.caller ≡ c → ⊥
    none (inl goes) callers = going (last_of before) refl goes callers
    none (inr next) callers =
        let after = next-snoc c before e ∙ counted c (next_number c before) e callers in
        let first = ap (λ (d : ℕ). next_number d before) callers in
        let later = rises c (before ++ e ∷ []) more rest in
        let end = whole in
        absurd (omega (arith, after, next, first, later, end))

    by : (b : Bool) → (e.caller == c) ≡ b → (((l : Entry) → last_of (before ++ e ∷ []) ≡ Some l → l.caller ≢ c) → next_number c ((before ++ e ∷ []) ++ more) ≡ next_number c (before ++ e ∷ []) → All (λ e. e.caller ≢ c) more) → All (λ e. e.caller ≢ c) (e ∷ more)
    by true is later = absurd (none one (is-so e.caller c is))
    by false is later =
        let ne = not-so e.caller c is in
        let after : next_number c (before ++ e ∷ []) ≡ next_number c before = next-snoc c before e ∙ uncounted c (next_number c before) e ne in
        All-cons (λ e. e.caller ≢ c) e more ne
        (later (λ l is callers. ne (ap (λ (x : Entry). x.caller) (some_same (sym (last-snoc before e) ∙ is)) ∙ callers)) (whole ∙ sym after))

-- ---- a line's reply

taken-last : (entries : List Entry) (k : ℕ) (e : Entry) → slice_get entries k ≡ Some e → last_of (take (suc k) entries) ≡ Some e
taken-last [] k e is = absurd (cc)
taken-last (x ∷ entries) zero e is = is
taken-last (x ∷ entries) (suc k) e is = ap (λ (o : Option Entry). Some (unwrap_or o x)) (taken-last entries k e is)

-- the entry is the script's
waited-script : (size place : ℕ) (entries : List Entry) (earlier : List ℕ) (number : ℕ) → IsWaitedAt size entries earlier place number → (e : Entry) × (slice_get entries place ≡ Some e) × (e.caller ≡ 0)
waited-script size place entries [] number (reply, ended) = (reply.entry, reply.there, reply.caller)
waited-script size place entries (first ∷ others) number (reply, going, rest) = waited-script size place entries others (number + 1) rest

replied-script : (size place : ℕ) (entries : List Entry) (line : Line) (number : ℕ) → IsRepliedAt size entries place number line → (e : Entry) × (slice_get entries place ≡ Some e) × (e.caller ≡ 0)
replied-script size place entries Wait number (earlier, was) = waited-script size place entries earlier number was
replied-script size place entries line number was = (was.entry, was.there, was.caller)

-- the lanes' next numbers stand where they stood
lane-calls : (calls : Lane → ℕ) (e : Entry) (lane : Lane) → e.caller ≡ 0 → 0 ≢ caller_of lane → calls_behind calls e lane ≡ calls lane
lane-calls calls e lane script ne = uncounted (caller_of lane) (calls lane) e (λ is. ne (sym script ∙ is))

told-calls : (calls : Lane → ℕ) (entries : List Entry) (o : Option Entry) (e : Entry) (lane : Lane) → o ≡ Some e → AreCallsTold calls entries o → next_number (caller_of lane) entries ≡ calls_behind calls e lane
told-calls calls entries o e lane is told = subst (λ (o : Option Entry). AreCallsTold calls entries o) is told lane

-- ---- between two lines

module _ (world : World) (histories : List History) (history : History) (course : Course) (epoch here there : ℕ) (line next : Line) (is : slice_get histories epoch ≡ Some history) (legal : IsLegal world history.entries)
    (first : IsAnsweredInside histories course epoch here line) (second : IsAnsweredInside histories (course_after histories course InScript line (Inside epoch here)) epoch there next) where
  abbrev entries : List Entry
  entries = history.entries

  abbrev after : Course
  after = course_after histories course InScript line (Inside epoch here)

  same-history : {a b : History} → Some a ≡ Some b → a ≡ b
  same-history is = cc

  first-is : first.history ≡ history
  first-is = same-history (sym first.there ∙ is)

  second-is : second.history ≡ history
  second-is = same-history (sym second.there ∙ is)

  one : (e : Entry) × (slice_get entries here ≡ Some e) × (e.caller ≡ 0)
  one = replied-script course.size here entries line (course.calls InScript) (subst (λ (h : History). IsRepliedAt course.size h.entries here (course.calls InScript) line) first-is first.replied)

  two : (e : Entry) × (slice_get entries there ≡ Some e) × (e.caller ≡ 0)
  two = replied-script after.size there entries next (after.calls InScript) (subst (λ (h : History). IsRepliedAt after.size h.entries there (after.calls InScript) next) second-is second.replied)

  after-is : after ≡ course_behind InScript course (entries_to histories epoch here) one.0
  after-is = ap (λ (o : Option Entry). option_map_or (course_behind InScript course (entries_to histories epoch here)) o course) (ap (λ (o : Option History). option_and_then (λ h. slice_get h.entries here) o) is ∙ one.1)

  after-calls : (lane : Lane) → 0 ≢ caller_of lane → after.calls lane ≡ course.calls lane
  after-calls lane ne = by (is_end one.0.event) refl
    where
      by : (b : Bool) → is_end one.0.event ≡ b → after.calls lane ≡ course.calls lane
      by true ends =
          let rests : after.running ≡ false = ap (λ (c : Course). c.running) after-is
          ∙ ap (λ (b : Bool). (if b then at_rest course.opened else gone_on (calls_behind course.calls one.0) (length_of course.size (entries_to histories epoch here)) course).running) ends in
          absurd (let clash : true ≡ false = sym second.running ∙ rests in cc)
      by false goes = ap (λ (c : Course). c.calls lane) after-is
          ∙ ap (λ (b : Bool). (if b then at_rest course.opened else gone_on (calls_behind course.calls one.0) (length_of course.size (entries_to histories epoch here)) course).calls lane) goes
          ∙ lane-calls course.calls one.0 lane one.2 ne

  abbrev front : List Entry
  front = take (here + 1) entries

  abbrev between : List Entry
  between = take (there - here) (drop (here + 1) entries)

  front-next : (lane : Lane) → 0 ≢ caller_of lane → next_number (caller_of lane) front ≡ course.calls lane
  front-next lane ne =
      told-calls course.calls front (slice_get entries here) one.0 lane one.1 (subst (λ (h : History). AreCallsTold course.calls (take (here + 1) h.entries) (slice_get h.entries here)) first-is first.calls)
      ∙ lane-calls course.calls one.0 lane one.2 ne

  whole-next : (lane : Lane) → 0 ≢ caller_of lane → next_number (caller_of lane) (take (there + 1) entries) ≡ course.calls lane
  whole-next lane ne =
      told-calls after.calls (take (there + 1) entries) (slice_get entries there) two.0 lane two.1 (subst (λ (h : History). AreCallsTold after.calls (take (there + 1) h.entries) (slice_get h.entries there)) second-is second.calls)
      ∙ lane-calls after.calls two.0 lane two.2 ne ∙ after-calls lane ne

  front-last : (l : Entry) → last_of front ≡ Some l → l.caller ≡ 0
  front-last l last =
      let long : suc here ≡ here + 1 = omega arith in
      let found = ap (λ (n : ℕ). last_of (take n entries)) (sym long) ∙ taken-last entries here one.0 one.1 in
      ap (λ (e : Entry). e.caller) (some_same (sym last ∙ found)) ∙ one.2
    where
      some_same : {a b : Entry} → Some a ≡ Some b → a ≡ b
      some_same is = cc

  take-drop : (n : ℕ) (xs : List Entry) → take n xs ++ drop n xs ≡ xs
  take-drop zero xs = refl
  take-drop (suc n) [] = refl
  take-drop (suc n) (x ∷ xs) = ap (λ (l : List Entry). x ∷ l) (take-drop n xs)

  lane-silent : here ≤ there → (lane : Lane) → 0 ≢ caller_of lane → All (λ e. e.caller ≢ caller_of lane) between
  lane-silent le lane ne =
      let sum : (here + 1) + (there - here) ≡ there + 1 = omega (arith, le) in
      let parts : take (there + 1) entries ≡ front ++ between = ap (λ (n : ℕ). take n entries) (sym sum) ∙ take-add (here + 1) (there - here) entries in
      let numbered = numbered-front [] (front ++ between) (drop (there + 1) entries)
      (subst (λ (l : List Entry). AreNumbered [] (l ++ drop (there + 1) entries)) parts (subst (λ (l : List Entry). AreNumbered [] l) (sym (take-drop (there + 1) entries)) (legal-numbered world [] entries legal))) in
      silent (caller_of lane) front between (numbered-back [] front between numbered) (λ l last callers. ne (sym (front-last l last) ∙ callers))
      (ap (λ (l : List Entry). next_number (caller_of lane) l) (sym parts) ∙ whole-next lane ne ∙ sym (front-next lane ne))

  three : (xs : List Entry) → All (λ e. e.caller ≢ 1) xs → All (λ e. e.caller ≢ 2) xs → All (λ e. e.caller ≢ 255) xs → All (λ e. IsOfBlock e.caller → ⊥) xs
  three [] a b w = All-nil (λ e. IsOfBlock e.caller → ⊥)
  three (x ∷ xs) a b w =
      All-cons (λ e. IsOfBlock e.caller → ⊥) x xs none (three xs (All-tail (λ e. e.caller ≢ 1) x xs a) (All-tail (λ e. e.caller ≢ 2) x xs b) (All-tail (λ e. e.caller ≢ 255) x xs w))
    where
      none : IsOfBlock x.caller → ⊥
      none (inl one) = All-head (λ e. e.caller ≢ 1) x xs a one
      none (inr (inl two)) = All-head (λ e. e.caller ≢ 2) x xs b two
      none (inr (inr worker)) = All-head (λ e. e.caller ≢ 255) x xs w worker

  unasked : All (λ e. IsOfBlock e.caller → ⊥) between
  unasked = elim (cases_lt there here) [
    | inl before ↦ (let none : 0 ≡ there - here = omega (arith, before) in
        subst (λ (n : ℕ). All (λ e. IsOfBlock e.caller → ⊥) (take n (drop (here + 1) entries))) none (All-nil (λ e. IsOfBlock e.caller → ⊥)))
    | inr past ↦ (let le : here ≤ there = omega (arith, past) in
        three between (lane-silent le InA (λ none. absurd (omega (arith, none)))) (lane-silent le InB (λ none. absurd (omega (arith, none)))) (lane-silent le InWorker (λ none. absurd (omega (arith, none)))))
  ]

pub lanes-in-blocks : LanesCallInBlocks
lanes-in-blocks world histories history course epoch here there line next is legal first second = unasked world histories history course epoch here there line next is legal first second

-- ---- a lane of which nothing was asked

-- a next number that isn't 0 never gets 0
some-number : (c n : ℕ) (xs : List Entry) → 1 ≤ n → 1 ≤ fold (number_after c) n xs
some-number c n [] some = some
some-number c n (x ∷ xs) some = some-number c (number_after c n x) xs (by (x.caller == c))
  where
    by : (b : Bool) → 1 ≤ (if b then x.number + 1 else n)
    by true = omega arith
    by false = some

none-called : (c n : ℕ) (xs : List Entry) → fold (number_after c) n xs ≡ 0 → All (λ e. e.caller ≢ c) xs
none-called c n [] none = All-nil (λ e. e.caller ≢ c)
none-called c n (x ∷ xs) none = All-cons (λ e. e.caller ≢ c) x xs other (none-called c (number_after c n x) xs none)
  where
    other : x.caller ≢ c
    other is =
        let later = some-number c (x.number + 1) xs (omega arith) in
        let same = ap (λ (m : ℕ). fold (number_after c) m xs) (counted c n x is) in
        absurd (omega (arith, later, same, none))

pub unasked-lanes : UnaskedLanesAreSilent
unasked-lanes histories history course epoch place line lane is answered ne none =
    let same : answered.history ≡ history = same-history (sym answered.there ∙ is) in
    let found = replied-script course.size place history.entries line (course.calls InScript) (subst (λ (h : History). IsRepliedAt course.size h.entries place (course.calls InScript) line) same answered.replied) in
    let told = told-calls course.calls (take (place + 1) history.entries) (slice_get history.entries place) found.0 lane found.1
    (subst (λ (h : History). AreCallsTold course.calls (take (place + 1) h.entries) (slice_get h.entries place)) same answered.calls) in
    none-called (caller_of lane) 0 (take (place + 1) history.entries) (told ∙ lane-calls course.calls found.0 lane found.2 (apart lane ne) ∙ none)
  where
    same-history : {a b : History} → Some a ≡ Some b → a ≡ b
    same-history is = cc

    apart : (lane : Lane) → lane ≢ InScript → 0 ≢ caller_of lane
    apart InScript ne same = ne refl
    apart InA ne same = absurd (omega (arith, same))
    apart InB ne same = absurd (omega (arith, same))
    apart InWorker ne same = absurd (omega (arith, same))
