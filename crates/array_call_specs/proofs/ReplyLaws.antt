-- Replies that fit their requests.
use Rattle.std.proofs.Common.{◌≡◌, inl, inr, ℕ, ◌+◌, ◌<◌, ◌≤◌, ◌==◌, ◌&&◌, Bool, true, false, cond, nat_lt, Option, Some, None, Result, Ok, Err, List, [], ◌∷◌, ◌++◌, unwrap_or, refl, sym, ◌∙◌, ap, subst, arith}
use Rattle.std.proofs.lemmas.Bool.Decides.{nat_tests}
use Rattle.std.proofs.lemmas.List.{reverse-append}
use Rattle.std.proofs.lemmas.List.Elements.{All-nil, All-cons}
use Rattle.std.specs.List.{All}
use Rattle.std.specs.Prelude.{reverse, MatchBool}
use Rattle.raid_types.specs.declared.answers.Who.{Who}
use Rattle.raid_types.specs.declared.answers.Refusal.{Refusal}
use Rattle.raid_types.specs.declared.answers.Fault.{Fault as AnyFault}
use Rattle.raid_types.specs.declared.answers.Fault.TheVariants.{Refused as IsRefusedWith, NoMemory}
use Rattle.raid_types.specs.declared.answers.Refusal.TheVariants.{PastEnd, NoSuchRole}
use Rattle.history_append.specs.sb_specs_the_Members.{Members}
use Rattle.history_append.specs.history_the_Entry.{Entry}
use Rattle.history_append.specs.history_the_Event.{Event}
use Rattle.history_append.specs.history_the_Event_TheVariants.{Flushed, Lost, SpareLost, Failed, Refused}
use Rattle.history_append.specs.history_the_LostCause_TheVariants.{Command, Fault}
use Rattle.history_append.specs.history_the_Request.{Request}
use Rattle.history_append.specs.history_the_Request_TheVariants.{Flush as AsksFlush, Fail as AsksFail}
use Rattle.history_append.specs.history_Flat.{is_same_call, rest_of_call, last_of, next_number}
use Rattle.history_append.specs.history_Growing.{BeginAnother}
use Rattle.history_append.specs.history_Transfers.{IsRefusedAt, IsPastEnd}
use Rattle.history_append.specs.history_Fits.{AreTornOf, IsReadRefused}
use Rattle.history_append.specs.history_Plain.{entries_of}
use Rattle.history_append.specs.history_OneShape.{OneShapeAnswers}
use Rattle.history_append.specs.Losing.{losses_of}
use Rattle.raid_types.specs.declared.places.Shape.{Shape}
use Rattle.history_append.specs.sb_specs_Reading.{shape_of, final_shape}
use Rattle.history_append.specs.array_members_Lacking.{AreTooMany, LacksTooMany, IsUnread, IsUnwritten}
use Rattle.array_call_specs.specs.Calls.{StandsInside, IsReplied, IsRefusedFor, IsSettled, IsCausedBy, IsAnswered}
use Rattle.history_append.proofs.PlainLaws.{one, begins}
use Rattle.history_append.proofs.CallLaws.{AreLossEvents, losses-are, torn-losses, torn-reverse}

-- ---- what stands before a call

head_of : List Entry → Option Entry
head_of [] = None
head_of (e ∷ entries) = Some e

head-append : (xs : List Entry) (e l : Entry) → head_of xs ≡ Some l → head_of (xs ++ e ∷ []) ≡ Some l
unfolding head_of
head-append [] e l is = absurd cc
head-append (x ∷ xs) e l is = is

head-reverse : (xs : List Entry) → head_of (reverse xs) ≡ last_of xs
unfolding head_of
head-reverse [] = refl
head-reverse (x ∷ []) = refl
head-reverse (x ∷ y ∷ xs) =
    ap (λ (l : List Entry). head_of l) (reverse-append (x ∷ []) (y ∷ xs))
    ∙ head-append (reverse (y ∷ xs)) x (unwrap_or (last_of xs) y) (head-reverse (y ∷ xs))

-- a call that begins has nothing of its own before it
pub none_before : (entries : List Entry) (who : Who) (end : ℕ) (event : Event) → who.number ≡ next_number who.caller entries → rest_of_call (one who end event) (reverse entries) ≡ []
unfolding head_of
none_before entries who end event number = by (reverse entries) (last_of entries) (head-reverse entries) (begins entries 0 who end event [] number)
  where
    swap : (a b c d : ℕ) → ((a == b) && (c == d)) ≡ false → ((b == a) && (d == c)) ≡ false
    swap a b c d e = grind (arith, nat_tests, e)

    by : (xs : List Entry) (last : Option Entry) → head_of xs ≡ last → BeginAnother last (one who end event ∷ []) → rest_of_call (one who end event) xs ≡ []
    by [] last is begin = refl
    by (x ∷ xs) None is begin = absurd cc
    by (x ∷ xs) (Some l) is begin =
        let same : x ≡ l = some_same x l is in
        let other : is_same_call (one who end event) x ≡ false = swap x.caller who.caller x.number who.number (subst (λ (e : Entry). is_same_call e (one who end event) ≡ false) (sym same) begin) in
        ap (λ (b : Bool). cond b (x ∷ rest_of_call (one who end event) xs) []) other
      where
        some_same : (a b : Entry) → ◌≡◌ {A = Option Entry} (Some a) (Some b) → a ≡ b
        some_same a b e = ap (λ (o : Option Entry). unwrap_or o a) e

pub torn_before : (request : Request) (e : Entry) (zs tail : List Entry) → rest_of_call e tail ≡ [] → AreTornOf request zs → AreTornOf request (rest_of_call e (zs ++ tail))
torn_before request e [] tail none torn = subst (λ (l : List Entry). AreTornOf request l) (sym none) tt
torn_before request e (z ∷ zs) tail none torn = by (is_same_call e z) (torn_before request e zs tail none torn.1)
  where
    by : (b : Bool) → AreTornOf request (rest_of_call e (zs ++ tail)) → AreTornOf request (cond b (z ∷ rest_of_call e (zs ++ tail)) [])
    by true rest = (torn.0, rest)
    by false rest = tt

-- ---- a reply

-- losses may stand before it
pub inside-losses : (who : Who) (end : ℕ) (xs : List Event) → AreLossEvents xs → All (λ e. StandsInside e.event) (entries_of who end xs)
inside-losses who end [] are = All-nil (λ e. StandsInside e.event)
inside-losses who end (Lost role Fault ∷ xs) are = All-cons (λ e. StandsInside e.event) (one who end (Lost role Fault)) (entries_of who end xs) tt (inside-losses who end xs are)
inside-losses who end (SpareLost slot ∷ xs) are = All-cons (λ e. StandsInside e.event) (one who end (SpareLost slot)) (entries_of who end xs) tt (inside-losses who end xs are)
inside-losses who end (event ∷ xs) are = absurd are

pub none-inside : All (λ (e : Entry). StandsInside e.event) []
none-inside = All-nil (λ (e : Entry). StandsInside e.event)

pub replied : (size : ℕ) (request : Request) (who : Who) (old new : List Entry) (end : ℕ) (inner : List Event) (event : Event)
    → new ≡ old ++ entries_of who end (inner ++ event ∷ []) → who.number ≡ next_number who.caller old → ((call : List Entry) → OneShapeAnswers size (old ++ entries_of who end inner) call request event)
    → All (λ e. StandsInside e.event) (entries_of who end inner) → AreTornOf request (entries_of who end inner) → IsReplied size request who old new event
replied size request who old new end inner event is number answers inside torn = record {
  inner = inner;
  end = end;
  inside = inside;
  is = is;
  fits = record {
    answers = answers _;
    torn = subst (λ (l : List Entry). AreTornOf request (rest_of_call (one who end event) l)) (sym (reverse-append old (entries_of who end inner)))
        (torn_before request (one who end event) (reverse (entries_of who end inner)) (reverse old) (none_before old who end event number) (torn-reverse request (entries_of who end inner) torn));
  };
}

-- ---- refusals

-- the refusal tells that members are missing
abbrev pub IsOfMissing : Refusal → Type 0
IsOfMissing refusal = IsReadRefused refusal × ¬ IsPastEnd refusal

lacks-of : (shape : Shape) (m : Members) (refusal : Refusal) → LacksTooMany shape m refusal → IsOfMissing refusal
lacks-of shape m refusal many = subst IsOfMissing (sym many.told) (tt, λ p. p)

pub too-many-of : (m : Members) (refusal : Refusal) → AreTooMany m refusal → IsOfMissing refusal
too-many-of m refusal (inl many) = lacks-of (shape_of m.newest) m refusal many
too-many-of m refusal (inr many) = lacks-of (final_shape m.newest) m refusal many.1

pub unread-of : (shape : Shape) (mended at count : ℕ) (m : Members) (refusal : Refusal) → IsUnread shape mended at count m refusal → IsOfMissing refusal
unread-of shape mended at count m refusal (inl many) = lacks-of shape m refusal many
unread-of shape mended at count m refusal (inr found) = subst IsOfMissing (sym found.1) (tt, λ p. p)

pub unwritten-of : (shape : Shape) (synced : Bool) (m : Members) (refusal : Refusal) → IsUnwritten shape synced m refusal → IsOfMissing refusal
unwritten-of shape synced m refusal (inl many) = lacks-of shape m refusal many
unwritten-of shape synced m refusal (inr found) = subst IsOfMissing (sym found.1) (tt, λ p. p)

-- a call within the visible size is refused for what its kind gives
pub refused-for : (visible to : ℕ) (why : Members → Refusal → Type 0) (old new : Members) (refusal : Refusal) → IsOfMissing refusal → to ≤ visible → why new refusal → IsRefusedFor visible to why old new refusal
refused-for visible to why old new (PastEnd told) of le w = absurd (of.1 tt)
refused-for visible to why old new refusal of le w = (le, w)

match_true : (b : Bool) (P Q : Type 0) → b ≡ true → P → MatchBool b P Q
match_true true P Q e p = p
match_true false P Q e p = absurd cc

match_false : (b : Bool) (P Q : Type 0) → b ≡ false → Q → MatchBool b P Q
match_false true P Q e q = absurd cc
match_false false P Q e q = q

pub past_at : (visible to told : ℕ) → visible < to → IsRefusedAt visible to IsReadRefused (PastEnd told)
past_at visible to told lt = match_true (nat_lt visible to) (IsPastEnd (PastEnd told)) (IsReadRefused (PastEnd told) × ¬ IsPastEnd (PastEnd told)) (grind (arith, nat_tests, lt)) tt

pub missing_at : (visible to : ℕ) (refusal : Refusal) → to ≤ visible → IsOfMissing refusal → IsRefusedAt visible to IsReadRefused refusal
missing_at visible to refusal le of = match_false (nat_lt visible to) (IsPastEnd refusal) (IsReadRefused refusal × ¬ IsPastEnd refusal) (grind (arith, nat_tests, le)) of

-- ---- flushes

flush-refused : (size visible : ℕ) (m m' : Members) (before : List Entry) (refusal : Refusal) → IsRefusedFor visible 0 AreTooMany m m' refusal → (call : List Entry) → OneShapeAnswers size before call AsksFlush (Refused refusal)
flush-refused size visible m m' before (PastEnd told) why call = absurd (omega (arith, why.1))
flush-refused size visible m m' before refusal why call = of why.1
  where
    of : AreTooMany m' refusal → OneShapeAnswers size before call AsksFlush (Refused refusal)
    of (inl many) = subst (λ (r : Refusal). OneShapeAnswers size before call AsksFlush (Refused r)) (sym many.told) tt
    of (inr many) = subst (λ (r : Refusal). OneShapeAnswers size before call AsksFlush (Refused r)) (sym many.1.told) tt

pub flush_answer : {T : Type 0} (size visible : ℕ) (who : Who) (old new : List Entry) (m m' : Members) (result : Result T AnyFault) → who.number ≡ next_number who.caller old → IsSettled who old new Flushed result
    → IsCausedBy visible 0 AreTooMany m m' result → IsAnswered size AsksFlush who old new Flushed result
flush_answer size visible who old new m m' (Ok x) number settled caused =
    replied size AsksFlush who old new settled.end (losses_of settled.roles settled.spares) Flushed settled.is number (λ call. tt) (inside-losses who settled.end (losses_of settled.roles settled.spares) (losses-are settled.roles settled.spares)) (torn-losses AsksFlush who settled.end (losses_of settled.roles settled.spares) (losses-are settled.roles settled.spares))
flush_answer size visible who old new m m' (Err (IsRefusedWith refusal)) number settled caused =
    replied size AsksFlush who old new settled.end (losses_of settled.roles settled.spares) (Refused refusal) settled.is number
    (flush-refused size visible m m' (old ++ entries_of who settled.end (losses_of settled.roles settled.spares)) refusal caused)
    (inside-losses who settled.end (losses_of settled.roles settled.spares) (losses-are settled.roles settled.spares))
    (torn-losses AsksFlush who settled.end (losses_of settled.roles settled.spares) (losses-are settled.roles settled.spares))
flush_answer size visible who old new m m' (Err NoMemory) number settled caused = settled

-- ---- fails

pub fail_reply : (size : ℕ) (who : Who) (old new : List Entry) (end role roles spares : ℕ) → new ≡ old ++ entries_of who end ((Lost role Command ∷ losses_of roles spares) ++ Failed role ∷ [])
    → who.number ≡ next_number who.caller old → IsReplied size (AsksFail role) who old new (Failed role)
fail_reply size who old new end role roles spares is number =
    replied size (AsksFail role) who old new end (Lost role Command ∷ losses_of roles spares) (Failed role) is number (λ call. refl)
    (All-cons (λ e. StandsInside e.event) (one who end (Lost role Command)) (entries_of who end (losses_of roles spares)) tt (inside-losses who end (losses_of roles spares) (losses-are roles spares)))
    (tt, torn-losses (AsksFail role) who end (losses_of roles spares) (losses-are roles spares))

pub no_role_reply : (size : ℕ) (who : Who) (old new : List Entry) (end role : ℕ) → new ≡ old ++ entries_of who end (Refused (NoSuchRole role) ∷ []) → who.number ≡ next_number who.caller old
    → IsReplied size (AsksFail role) who old new (Refused (NoSuchRole role))
no_role_reply size who old new end role is number = replied size (AsksFail role) who old new end [] (Refused (NoSuchRole role)) is number (λ call. refl) none-inside tt
