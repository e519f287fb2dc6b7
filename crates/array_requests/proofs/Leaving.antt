-- Entries that tell no length, and how long the list is behind others.
use Rattle.std.proofs.Common.{◌≡◌, ◌⊎◌, inl, inr, ℕ, List, [], ◌∷◌, ◌++◌, refl, sym, ◌∙◌, ap}
use Rattle.std.proofs.lemmas.List.Elements.{All-head, All-tail, All-push, All-weaker}
use Rattle.std.specs.List.{All}
use Rattle.history_append.specs.history_the_Entry.{Entry}
use Rattle.history_append.specs.history_the_Event.{Event}
use Rattle.history_append.specs.history_the_Event_TheVariants.{Resized}
use Rattle.history_append.specs.history_the_Request.{Request}
use Rattle.history_append.specs.history_the_Request_TheVariants.{Read as AsksRead, Write as AsksWrite, Flush as AsksFlush, Fail as AsksFail, Add as AsksAdd, Visible as AsksVisible, Grow as AsksGrow, Steps as AsksSteps, Show as AsksShow}
use Rattle.history_append.specs.history_Flat.{length_after, length_of}
use Rattle.array_open.specs.array_call_specs_Calls.{StandsInside}
use Rattle.array_open.specs.array_reply_specs_Replies.{RunningAnswers}

-- ---- lengths

-- the event leaves the list's length as it is
abbrev pub LeavesLength : Event → Type 0
LeavesLength event = (n : ℕ) → length_after n event ≡ n

-- entries that tell a length tell it whatever was before; others leave it
pub tells-or-leaves : (entries : List Entry) → ((n : ℕ) → length_of n entries ≡ n) ⊎ ((n m : ℕ) → length_of n entries ≡ length_of m entries)
tells-or-leaves [] = inl (λ n. refl)
tells-or-leaves (e ∷ entries) = of e.event refl (tells-or-leaves entries)
  where
    of : (event : Event) → e.event ≡ event → ((n : ℕ) → length_of n entries ≡ n) ⊎ ((n m : ℕ) → length_of n entries ≡ length_of m entries)
        → ((n : ℕ) → length_of n (e ∷ entries) ≡ n) ⊎ ((n m : ℕ) → length_of n (e ∷ entries) ≡ length_of m (e ∷ entries))
    of (Resized k) is rest = inr (λ n m. ap (λ (x : Event). length_of (length_after n x) entries) is ∙ sym (ap (λ (x : Event). length_of (length_after m x) entries) is))
    of event is (inl leaves) = inl (λ n. ap (λ (x : Event). length_of (length_after n x) entries) is ∙ leaves n)
    of event is (inr tells) = inr (λ n m. tells (length_after n e.event) (length_after m e.event))

leaves-all : (entries : List Entry) → All (λ e. LeavesLength e.event) entries → (n : ℕ) → length_of n entries ≡ n
leaves-all [] all n = refl
leaves-all (e ∷ entries) all n =
    ap (λ (k : ℕ). length_of k entries) (All-head (λ e. LeavesLength e.event) e entries all n) ∙ leaves-all entries (All-tail (λ e. LeavesLength e.event) e entries all) n

inside-leaves : (event : Event) → StandsInside event → LeavesLength event
inside-leaves (Resized k) is = absurd is
inside-leaves event is = λ n. refl

-- each reply leaves it
answers-leave : (size : ℕ) (before call : List Entry) (request : Request) (event : Event) → RunningAnswers size before call request event → LeavesLength event
answers-leave size before call (AsksRead at count) (Resized k) is = absurd is
answers-leave size before call (AsksWrite at body) (Resized k) is = absurd is
answers-leave size before call AsksFlush (Resized k) is = absurd is
answers-leave size before call (AsksFail role) (Resized k) is = absurd is
answers-leave size before call (AsksAdd slot) (Resized k) is = absurd is
answers-leave size before call (AsksSteps most) (Resized k) is = absurd is
answers-leave size before call (AsksVisible asked) (Resized k) is = absurd is
answers-leave size before call (AsksGrow wish) (Resized k) is = absurd is
answers-leave size before call AsksShow (Resized k) is = absurd is
answers-leave size before call request event is = λ n. refl

-- so do the entries of a call with such a reply
pub call-leaves : (inner : List Entry) (e : Entry) (size : ℕ) (before call : List Entry) (request : Request) → All (λ e. StandsInside e.event) inner → RunningAnswers size before call request e.event
    → (n : ℕ) → length_of n (inner ++ e ∷ []) ≡ n
call-leaves inner e size before call request inside answers =
    leaves-all (inner ++ e ∷ []) (All-push (λ e. LeavesLength e.event) inner e
    (All-weaker (λ e. StandsInside e.event) (λ e. LeavesLength e.event) (λ e is. inside-leaves e.event is) inner inside) (answers-leave size before call request e.event answers))
