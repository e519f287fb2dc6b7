-- The calls of each caller in a history, and one call more.
use Rattle.std.proofs.Common.{◌≡◌, ◌≢◌, ℕ, zero, suc, ◌+◌, ◌-◌, ◌&&◌, ◌==◌, Bool, true, false, not, cond, List, [], ◌∷◌, ◌++◌, length, take, drop, fold, refl, sym, ap, ◌∙◌, subst, subst₂, Option, Some, None, MatchOption, slice_get, unwrap_or, arith, append_assoc, append-nil, length-append, eq-eqb, ne_eqb, ◌≤◌, ◌⊎◌, inl, inr}
use Rattle.std.specs.Prelude.{if◌then◌else◌}
use Rattle.std.specs.List.{All}
use Rattle.std.proofs.lemmas.List.{take-append-le, drop-append-le, map-append}
use Rattle.std.proofs.lemmas.List.Sums.{fold-append}
use Rattle.std.proofs.lemmas.List.Elements.{All-nil, All-cons, All-append, All-head, All-tail}
use Rattle.std.proofs.lemmas.Bool.Decides.{nat_tests}
use Rattle.std.proofs.lemmas.Option.{slice_get_within}
use Rattle.std.proofs.Math.Seq.{drop-append_seam, drop-length, take-append_seam}
use Rattle.history_laws.specs.raid_types_the_Who.{Who}
use Rattle.array_reply_specs.specs.history_the_Entry.{Entry}
use Rattle.array_reply_specs.specs.history_the_Request.{Request}
use Rattle.array_reply_specs.specs.history_Flat.{is_same_call, rest_of_call, last_of, number_after, next_number}
use Rattle.array_reply_specs.specs.history_Growing.{BeginAnother}
use Rattle.array_reply_specs.specs.history_OneShape.{IsOfCall}
use Rattle.array_reply_specs.specs.history_Seen.{ends_call, reply_places}
use Rattle.history_laws.proofs.OneShapeGrowing.{next-begins}
use Rattle.history_caller_laws.specs.Callers.{IsReplyTo, AreReplied, IsLastOf, AreNumbered, HasCalled, IsCalled, NoneHasCalled, CallsAreCounted, CallsAreOnesOwn}

-- ---- the last entry

pub last-behind : (xs : List Entry) (e : Entry) (more : List Entry) → last_of (xs ++ e ∷ more) ≡ last_of (e ∷ more)
last-behind [] e more = refl
last-behind (x ∷ xs) e more = ap (λ (found : Option Entry). Some (unwrap_or found x)) (last-behind xs e more)

-- what begins another call than the whole history does so behind its end
apart-behind : (xs since call : List Entry) → BeginAnother (last_of (xs ++ since)) call → BeginAnother (last_of since) call
apart-behind xs [] call apart = tt
apart-behind xs (e ∷ since) call apart = subst (λ (last : Option Entry). BeginAnother last call) (last-behind xs e since) apart

-- an entry before another call ends its own
pub ends : (e : Entry) (call : List Entry) → BeginAnother (Some e) call → ends_call e call ≡ true
ends e [] apart = refl
ends e (next ∷ call) apart = ap (λ (b : Bool). not b) apart

-- an entry before one of the same call doesn't
pub goes-on : (who : Who) (e next : Entry) (call : List Entry) → IsOfCall who e → IsOfCall who next → ends_call e (next ∷ call) ≡ false
goes-on who e next call own same = ap (λ (b : Bool). not b) (one e.caller next.caller e.number next.number (own.0 ∙ sym same.0) (own.1 ∙ sym same.1))
  where
    one : (c d n m : ℕ) → c ≡ d → n ≡ m → ((c == d) && (n == m)) ≡ true
    one c d n m callers numbers = grind (arith, nat_tests, callers, numbers)

-- a call with the next number begins another
pub call-apart : (who : Who) (old inner : List Entry) (reply : Entry) → who.number ≡ next_number who.caller old → All (IsOfCall who) inner → IsOfCall who reply
    → BeginAnother (last_of old) (inner ++ reply ∷ [])
call-apart who old [] reply number own last =
    next-begins old reply [] (last.1 ∙ number ∙ ap (λ (c : ℕ). next_number c old) (sym last.0))
call-apart who old (e ∷ inner) reply number own last =
    let first : IsOfCall who e = All-head (IsOfCall who) e inner own in
    next-begins old e (inner ++ reply ∷ []) (first.1 ∙ number ∙ ap (λ (c : ℕ). next_number c old) (sym first.0))

-- ---- places of replies

-- of an entry, by whether its call is the caller's and ends there
abbrev place_first : Bool → ℕ → List ℕ → List ℕ
place_first b place more = cond b (place ∷ more) more

places-both : (c place : ℕ) (xs ys : List Entry) → BeginAnother (last_of xs) ys
    → reply_places c place (xs ++ ys) ≡ reply_places c place xs ++ reply_places c (place + length xs) ys
places-both c place [] ys apart = ap (λ (n : ℕ). reply_places c n ys) (omega arith)
places-both c place (e ∷ []) ys apart =
    ap (λ (b : Bool). place_first ((e.caller == c) && b) place (reply_places c (place + 1) ys)) (ends e ys apart)
    ∙ one ((e.caller == c) && true)
  where
    one : (b : Bool) → place_first b place (reply_places c (place + 1) ys) ≡ place_first b place [] ++ reply_places c (place + 1) ys
    one true = refl
    one false = refl
places-both c place (e ∷ n ∷ r) ys apart =
    let more = places-both c (place + 1) (n ∷ r) ys apart in
    let at : place + 1 + length (n ∷ r) ≡ place + length (e ∷ n ∷ r) = omega arith in
    ap (λ (l : List ℕ). place_first ((e.caller == c) && ends_call e (n ∷ r)) place l)
    (more ∙ ap (λ (k : ℕ). reply_places c (place + 1) (n ∷ r) ++ reply_places c k ys) at)
    ∙ one ((e.caller == c) && ends_call e (n ∷ r)) (reply_places c (place + 1) (n ∷ r)) (reply_places c (place + length (e ∷ n ∷ r)) ys)
  where
    one : (b : Bool) (l m : List ℕ) → place_first b place (l ++ m) ≡ place_first b place l ++ m
    one true l m = refl
    one false l m = refl

-- a call has one reply, at its end
own-place : (who : Who) (place : ℕ) (inner : List Entry) (reply : Entry) → All (IsOfCall who) inner → IsOfCall who reply
    → reply_places who.caller place (inner ++ reply ∷ []) ≡ (place + length inner) ∷ []
own-place who place [] reply own last =
    ap (λ (b : Bool). place_first (b && true) place []) (eq-eqb reply.caller who.caller last.0) ∙ ap (λ (n : ℕ). n ∷ []) (omega arith)
own-place who place (e ∷ []) reply own last =
    ap (λ (b : Bool). place_first b place (reply_places who.caller (place + 1) (reply ∷ [])))
    (not-there (e.caller == who.caller) (goes-on who e reply [] (All-head (IsOfCall who) e [] own) last))
    ∙ own-place who (place + 1) [] reply (All-tail (IsOfCall who) e [] own) last ∙ ap (λ (n : ℕ). n ∷ []) (omega arith)
  where
    not-there : (b : Bool) {c : Bool} → c ≡ false → (b && c) ≡ false
    not-there true is = is
    not-there false is = refl
own-place who place (e ∷ n ∷ r) reply own last =
    let after = All-tail (IsOfCall who) e (n ∷ r) own in
    ap (λ (b : Bool). place_first b place (reply_places who.caller (place + 1) ((n ∷ r) ++ reply ∷ [])))
    (not-there (e.caller == who.caller) (goes-on who e n (r ++ reply ∷ []) (All-head (IsOfCall who) e (n ∷ r) own) (All-head (IsOfCall who) n r after)))
    ∙ own-place who (place + 1) (n ∷ r) reply after last ∙ ap (λ (n : ℕ). n ∷ []) (omega arith)
  where
    not-there : (b : Bool) {c : Bool} → c ≡ false → (b && c) ≡ false
    not-there true is = is
    not-there false is = refl

-- and none of another caller's
no-place : (who : Who) (other place : ℕ) (call : List Entry) → other ≢ who.caller → All (IsOfCall who) call → reply_places other place call ≡ []
no-place who other place [] ne own = refl
no-place who other place (e ∷ call) ne own =
    let first : IsOfCall who e = All-head (IsOfCall who) e call own in
    ap (λ (b : Bool). place_first (b && ends_call e call) place (reply_places other (place + 1) call)) (ne_eqb e.caller other (λ is. ne (sym is ∙ first.0)))
    ∙ no-place who other (place + 1) call ne (All-tail (IsOfCall who) e call own)

pub none-has_called : NoneHasCalled
none-has_called size start caller = record {
  places = ap (λ (l : List Entry). reply_places caller (length start) l) (sym (drop-length start));
  answered = tt;
  numbers = tt;
  next = omega arith;
}

-- ---- replies

pub reads : (xs : List Entry) (e : Entry) → slice_get (xs ++ e ∷ []) (length xs) ≡ Some e
reads [] e = refl
reads (x ∷ xs) e = reads xs e

pub there : (xs more : List Entry) (place : ℕ) (e : Entry) → slice_get xs place ≡ Some e → slice_get (xs ++ more) place ≡ Some e
there [] more place e is = absurd (cc)
there (x ∷ xs) more zero e is = is
there (x ∷ xs) more (suc place) e is = there xs more place e is

-- what is answered stays so
pub still-replied : (size : ℕ) (old more : List Entry) (requests : List (Request × ℕ)) → AreReplied size old requests → AreReplied size (old ++ more) requests
still-replied size old more [] replied = tt
still-replied size old more (request ∷ requests) replied = (one (slice_get old request.1) refl replied.0, still-replied size old more requests replied.1)
  where
    one : (found : Option Entry) → slice_get old request.1 ≡ found → MatchOption found ⊥ (λ e. IsReplyTo size (take request.1 old) e request.0)
        → MatchOption (slice_get (old ++ more) request.1) ⊥ (λ e. IsReplyTo size (take request.1 (old ++ more)) e request.0)
    one None is answers = absurd answers
    one (Some e) is answers =
        let before : take request.1 (old ++ more) ≡ take request.1 old = take-append-le request.1 old more (omega (arith, slice_get_within old request.1 e is)) in
        subst (λ (found : Option Entry). MatchOption found ⊥ (λ e. IsReplyTo size (take request.1 (old ++ more)) e request.0)) (sym (there old more request.1 e is))
        (subst (λ (l : List Entry). IsReplyTo size l e request.0) (sym before) answers)

-- one more is
pub reply-more : (size : ℕ) (entries : List Entry) (requests : List (Request × ℕ)) (request : Request) (place : ℕ) → AreReplied size entries requests
    → MatchOption (slice_get entries place) ⊥ (λ e. IsReplyTo size (take place entries) e request) → AreReplied size entries (requests ++ (request, place) ∷ [])
reply-more size entries [] request place replied answers = (answers, tt)
reply-more size entries (r ∷ requests) request place replied answers = (replied.0, reply-more size entries requests request place replied.1 answers)

-- ---- numbers

-- the next number behind a caller's call
next-behind : (who : Who) (old inner : List Entry) (reply : Entry) → IsOfCall who reply → next_number who.caller (old ++ (inner ++ reply ∷ [])) ≡ who.number + 1
next-behind who old inner reply last =
    ap (λ (l : List Entry). next_number who.caller l) (sym (append_assoc old inner (reply ∷ [])))
    ∙ fold-append (number_after who.caller) 0 (old ++ inner) (reply ∷ [])
    ∙ ap (λ (b : Bool). if b then reply.number + 1 else next_number who.caller (old ++ inner)) (eq-eqb reply.caller who.caller last.0)
    ∙ ap (λ (n : ℕ). n + 1) last.1

-- another caller's stays
next-stays : (who : Who) (other n : ℕ) (call : List Entry) → other ≢ who.caller → All (IsOfCall who) call → fold (number_after other) n call ≡ n
next-stays who other n [] ne own = refl
next-stays who other n (e ∷ call) ne own =
    let first : IsOfCall who e = All-head (IsOfCall who) e call own in
    ap (λ (b : Bool). fold (number_after other) (if b then e.number + 1 else n) call) (ne_eqb e.caller other (λ is. ne (sym is ∙ first.0)))
    ∙ next-stays who other n call ne (All-tail (IsOfCall who) e call own)

-- a call goes on with none of another caller's, nor with one of a number before its own
call-parts : (who : Who) (e : Entry) (call : List Entry) → All (IsOfCall who) call → (e.caller ≢ who.caller) ⊎ (e.number + 1 ≤ who.number) → rest_of_call e call ≡ []
call-parts who e [] own apart = refl
call-parts who e (x ∷ call) own apart =
    ap (λ (b : Bool). if b then x ∷ rest_of_call e call else []) (other apart)
  where
    first : IsOfCall who x
    first = All-head (IsOfCall who) x call own

    later : (c d n m : ℕ) → n + 1 ≤ m → ((c == d) && (n == m)) ≡ false
    later c d n m less = grind (arith, nat_tests, less)

    other : (e.caller ≢ who.caller) ⊎ (e.number + 1 ≤ who.number) → is_same_call e x ≡ false
    other (inl ne) = ap (λ (b : Bool). b && (e.number == x.number)) (ne_eqb e.caller x.caller (λ is. ne (is ∙ first.0)))
    other (inr less) = later e.caller x.caller e.number x.number (let is = first.1 in omega (arith, less, is))

rest-on : (e : Entry) (xs more : List Entry) → rest_of_call e xs ≡ [] → rest_of_call e more ≡ [] → rest_of_call e (xs ++ more) ≡ []
rest-on e [] more one two = two
rest-on e (x ∷ xs) more one two = by (is_same_call e x) one
  where
    by : (b : Bool) → (if b then x ∷ rest_of_call e xs else []) ≡ [] → (if b then x ∷ rest_of_call e (xs ++ more) else []) ≡ []
    by true is = absurd (cc)
    by false is = refl

-- where calls end stays, behind another call
still-numbered : (who : Who) (caller number : ℕ) (old call : List Entry) (requests : List (Request × ℕ)) → All (IsOfCall who) call → (caller ≢ who.caller) ⊎ (number + length requests ≤ who.number)
    → AreNumbered caller number old requests → AreNumbered caller number (old ++ call) requests
still-numbered who caller number old call [] own apart are = tt
still-numbered who caller number old call (request ∷ requests) own apart are = (
  one (slice_get old request.1) refl are.0,
  still-numbered who caller (number + 1) old call requests own (later apart) are.1,
)
  where
    later : (caller ≢ who.caller) ⊎ (number + length (request ∷ requests) ≤ who.number) → (caller ≢ who.caller) ⊎ (number + 1 + length requests ≤ who.number)
    later (inl ne) = inl ne
    later (inr le) = inr (omega (arith, le))

    before : (e : Entry) → e.caller ≡ caller → e.number ≡ number → (caller ≢ who.caller) ⊎ (number + length (request ∷ requests) ≤ who.number) → (e.caller ≢ who.caller) ⊎ (e.number + 1 ≤ who.number)
    before e whose is (inl ne) = inl (λ same. ne (sym whose ∙ same))
    before e whose is (inr le) = inr (omega (arith, is, le))

    one : (found : Option Entry) → slice_get old request.1 ≡ found → MatchOption found ⊥ (λ e. IsLastOf caller number (drop (request.1 + 1) old) e)
        → MatchOption (slice_get (old ++ call) request.1) ⊥ (λ e. IsLastOf caller number (drop (request.1 + 1) (old ++ call)) e)
    one None is at = absurd at
    one (Some e) is at =
        let within = slice_get_within old request.1 e is in
        subst (λ (found : Option Entry). MatchOption found ⊥ (λ e. IsLastOf caller number (drop (request.1 + 1) (old ++ call)) e)) (sym (there old call request.1 e is)) (
          at.0,
          at.1,
          ap (λ (l : List Entry). rest_of_call e l) (drop-append-le (request.1 + 1) old call (omega (arith, within)))
              ∙ rest-on e (drop (request.1 + 1) old) call at.2 (call-parts who e call own (before e at.0 at.1 apart)),
        )

numbered-more : (caller number : ℕ) (entries : List Entry) (requests : List (Request × ℕ)) (request : Request) (place : ℕ) → AreNumbered caller number entries requests
    → MatchOption (slice_get entries place) ⊥ (λ e. IsLastOf caller (number + length requests) (drop (place + 1) entries) e) → AreNumbered caller number entries (requests ++ (request, place) ∷ [])
numbered-more caller number entries [] request place are last =
    (subst (λ (n : ℕ). MatchOption (slice_get entries place) ⊥ (λ e. IsLastOf caller n (drop (place + 1) entries) e)) (omega arith) last, tt)
numbered-more caller number entries (r ∷ requests) request place are last = (
  are.0,
  numbered-more caller (number + 1) entries requests request place are.1
      (subst (λ (n : ℕ). MatchOption (slice_get entries place) ⊥ (λ e. IsLastOf caller n (drop (place + 1) entries) e)) (omega arith) last),
)

-- ---- one call more

module _ (size : ℕ) (start since old new : List Entry) (who : Who) (request : Request) (begun : old ≡ start ++ since) (c : IsCalled size who request old new) where
  call : List Entry
  call = c.inner ++ c.reply ∷ []

  -- the entries behind the start, before and after it
  since-old : drop (length start) old ≡ since
  since-old = ap (λ (l : List Entry). drop (length start) l) begun ∙ drop-append_seam start since

  new-is : new ≡ start ++ (since ++ (c.inner ++ c.reply ∷ []))
  new-is = c.is ∙ ap (λ (l : List Entry). l ++ (c.inner ++ c.reply ∷ [])) begun ∙ append_assoc start since (c.inner ++ c.reply ∷ [])

  since-new : drop (length start) new ≡ since ++ (c.inner ++ c.reply ∷ [])
  since-new = ap (λ (l : List Entry). drop (length start) l) new-is ∙ drop-append_seam start (since ++ (c.inner ++ c.reply ∷ []))

  apart : BeginAnother (last_of since) (c.inner ++ c.reply ∷ [])
  apart = apart-behind start since (c.inner ++ c.reply ∷ [])
      (subst (λ (l : List Entry). BeginAnother (last_of l) (c.inner ++ c.reply ∷ [])) begun (call-apart who old c.inner c.reply c.number c.own c.last))

  places-new : (caller : ℕ) → reply_places caller (length start) (drop (length start) new)
      ≡ reply_places caller (length start) (drop (length start) old) ++ reply_places caller (length start + length since) (c.inner ++ c.reply ∷ [])
  places-new caller = ap (λ (l : List Entry). reply_places caller (length start) l) since-new
      ∙ places-both caller (length start) since (c.inner ++ c.reply ∷ []) apart
      ∙ ap (λ (l : List Entry). reply_places caller (length start) l ++ reply_places caller (length start + length since) (c.inner ++ c.reply ∷ [])) (sym since-old)

  -- where its reply stands
  long : length old ≡ length start + length since
  long = ap (λ (l : List Entry). length l) begun ∙ length-append start since

  long-new : length new ≡ length (old ++ c.inner) + 1
  long-new = ap (λ (l : List Entry). length l) (c.is ∙ sym (append_assoc old c.inner (c.reply ∷ []))) ∙ length-append (old ++ c.inner) (c.reply ∷ [])

  reply-place : length start + length since + length c.inner ≡ length new - 1
  reply-place = let both = length-append old c.inner in omega (arith, long, long-new, both)

  at-reply : length (old ++ c.inner) ≡ length new - 1
  at-reply = omega (arith, long-new)

  pub replied-new : MatchOption (slice_get new (length new - 1)) ⊥ (λ e. IsReplyTo size (take (length new - 1) new) e request)
  replied-new =
      let is : new ≡ (old ++ c.inner) ++ c.reply ∷ [] = c.is ∙ sym (append_assoc old c.inner (c.reply ∷ [])) in
      let there : MatchOption (slice_get ((old ++ c.inner) ++ c.reply ∷ []) (length (old ++ c.inner))) ⊥
      (λ e. IsReplyTo size (take (length (old ++ c.inner)) ((old ++ c.inner) ++ c.reply ∷ [])) e request) =
      subst (λ (found : Option Entry). MatchOption found ⊥ (λ e. IsReplyTo size (take (length (old ++ c.inner)) ((old ++ c.inner) ++ c.reply ∷ [])) e request))
      (sym (reads (old ++ c.inner) c.reply))
      (subst (λ (l : List Entry). IsReplyTo size l c.reply request) (sym (take-append_seam (old ++ c.inner) (c.reply ∷ []))) c.answers) in
      subst₂ (λ (l : List Entry) (n : ℕ). MatchOption (slice_get l n) ⊥ (λ e. IsReplyTo size (take n l) e request)) (sym is) at-reply there

  all : All (IsOfCall who) (c.inner ++ c.reply ∷ [])
  all = All-append (IsOfCall who) c.inner (c.reply ∷ []) c.own (All-cons (IsOfCall who) c.reply [] c.last (All-nil (IsOfCall who)))

  -- the call ends with it
  last-new : (number : ℕ) → who.number ≡ number → MatchOption (slice_get new (length new - 1)) ⊥ (λ e. IsLastOf who.caller number (drop (length new - 1 + 1) new) e)
  last-new number is =
      let whole : new ≡ (old ++ c.inner) ++ c.reply ∷ [] = c.is ∙ sym (append_assoc old c.inner (c.reply ∷ [])) in
      let here : slice_get new (length new - 1) ≡ Some c.reply =
      ap (λ (l : List Entry). slice_get l (length new - 1)) whole ∙ ap (λ (n : ℕ). slice_get ((old ++ c.inner) ++ c.reply ∷ []) n) (sym at-reply) ∙ reads (old ++ c.inner) c.reply in
      let past : length new - 1 + 1 ≡ length new = omega (arith, long-new) in
      subst (λ (found : Option Entry). MatchOption found ⊥ (λ e. IsLastOf who.caller number (drop (length new - 1 + 1) new) e)) (sym here)
      (c.last.0, c.last.1 ∙ is, ap (λ (n : ℕ). rest_of_call c.reply (drop n new)) past ∙ ap (λ (l : List Entry). rest_of_call c.reply l) (drop-length new))

  next-new : next_number who.caller new ≡ who.number + 1
  next-new = ap (λ (l : List Entry). next_number who.caller l) c.is ∙ next-behind who old c.inner c.reply c.last

  next-other : (other : ℕ) → other ≢ who.caller → next_number other new ≡ next_number other old
  next-other other ne = ap (λ (l : List Entry). next_number other l) c.is ∙ fold-append (number_after other) 0 old (c.inner ++ c.reply ∷ []) ∙ next-stays who other (next_number other old) (c.inner ++ c.reply ∷ []) ne all

  numbered-still : (caller number : ℕ) (requests : List (Request × ℕ)) → (caller ≢ who.caller) ⊎ (number + length requests ≤ who.number) → AreNumbered caller number old requests → AreNumbered caller number new requests
  numbered-still caller number requests apart are =
      subst (λ (l : List Entry). AreNumbered caller number l requests) (sym c.is) (still-numbered who caller number old (c.inner ++ c.reply ∷ []) requests all apart are)

  still : (requests : List (Request × ℕ)) → AreReplied size old requests → AreReplied size new requests
  still requests replied = subst (λ (l : List Entry). AreReplied size l requests) (sym c.is) (still-replied size old (c.inner ++ c.reply ∷ []) requests replied)

  pub counted : (requests : List (Request × ℕ)) → HasCalled size start old who.caller requests → HasCalled size start new who.caller (requests ++ (request, length new - 1) ∷ [])
  counted requests was = record {
    places = map-append (λ (r : Request × ℕ). r.1) requests ((request, length new - 1) ∷ [])
        ∙ ap (λ (l : List ℕ). l ++ (length new - 1) ∷ []) was.places
        ∙ ap (λ (l : List ℕ). reply_places who.caller (length start) (drop (length start) old) ++ l)
        (ap (λ (n : ℕ). n ∷ []) (sym reply-place) ∙ sym (own-place who (length start + length since) c.inner c.reply c.own c.last))
        ∙ sym (places-new who.caller);
    answered = reply-more size new requests request (length new - 1) (still requests was.answered) replied-new;
    numbers = numbered-more who.caller (next_number who.caller start) new requests request (length new - 1)
        (numbered-still who.caller (next_number who.caller start) requests (inr (let next = was.next in let at = c.number in omega (arith, next, at))) was.numbers)
        (last-new (next_number who.caller start + length requests) (c.number ∙ was.next));
    next = let one = length-append requests ((request, length new - 1) ∷ []) in let next = was.next in let at = c.number in omega (arith, next-new, next, at, one);
  }

  pub unmoved : (other : ℕ) (requests : List (Request × ℕ)) → other ≢ who.caller → HasCalled size start old other requests → HasCalled size start new other requests
  unmoved other requests ne was = record {
    places = was.places ∙ sym (append-nil (reply_places other (length start) (drop (length start) old)))
        ∙ ap (λ (l : List ℕ). reply_places other (length start) (drop (length start) old) ++ l)
        (sym (no-place who other (length start + length since) (c.inner ++ c.reply ∷ []) ne all))
        ∙ sym (places-new other);
    answered = still requests was.answered;
    numbers = numbered-still other (next_number other start) requests (inl ne) was.numbers;
    next = next-other other ne ∙ was.next;
  }

pub calls-counted : CallsAreCounted
calls-counted size start since old new who request requests begun c was = counted size start since old new who request begun c requests was

pub calls-own : CallsAreOnesOwn
calls-own size start since old new who other request requests begun c ne was = unmoved size start since old new who request begun c other requests ne was
