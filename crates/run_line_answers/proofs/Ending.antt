-- Where a history ends: none of its entries ends it, or the last alone.
use Rattle.std.proofs.Common.{◌≡◌, ℕ, false, List, [], ◌∷◌, ◌++◌, refl, sym, subst}
use Rattle.std.proofs.lemmas.List.Elements.{All-append, All-push, All-head, All-tail, All-weaker}
use Rattle.std.specs.Prelude.{IsTrue, IsFalse}
use Rattle.run_requests.specs.history_the_Entry.{Entry}
use Rattle.run_requests.specs.history_the_Event.{Event}
use Rattle.run_requests.specs.history_the_Event_TheVariants.{Stopped, Halted}
use Rattle.run_requests.specs.history_Legal.{MayBeInner}
use Rattle.run_requests.specs.script_the_Line.{Line}
use Rattle.run_requests.specs.run_specs_Asked.{script_who, IsAskedAt}
use Rattle.run_requests.specs.run_specs_Histories.{is_end, AreGoing, EndsOnce}
use Rattle.run_requests.proofs.run_specs_AskLaws.{one, with_reply}

inside_goes : (event : Event) → MayBeInner event → is_end event ≡ false
inside_goes Stopped is = absurd is
inside_goes Halted is = absurd is
inside_goes event is = refl

-- what a call entered before its reply
before_goes : {size place : ℕ} {line : Line} {old new : List Entry} (asked : IsAskedAt size line old new place) → AreGoing old → AreGoing (old ++ asked.inner)
before_goes {old = old} asked was =
    All-append (λ e. IsFalse (is_end e.event)) old asked.inner was
    (All-weaker (λ e. MayBeInner e.event) (λ e. IsFalse (is_end e.event)) (λ e is. inside_goes e.event is) asked.inner asked.inside)

-- a call whose reply doesn't end it
pub gone_once : {size place : ℕ} {line : Line} {old new : List Entry} (asked : IsAskedAt size line old new place) → is_end asked.event ≡ false → AreGoing old → AreGoing new
gone_once {old = old} asked goes was =
    subst (λ (l : List Entry). AreGoing l) (sym (with_reply asked))
    (All-push (λ e. IsFalse (is_end e.event)) (old ++ asked.inner) (one (script_who old) asked.end asked.event) (before_goes asked was) goes)

one_end : (entries : List Entry) (e : Entry) → AreGoing entries → EndsOnce (entries ++ e ∷ [])
one_end [] e going = (λ ends. refl, tt)
one_end (x ∷ entries) e going =
    let goes = All-head (λ e. IsFalse (is_end e.event)) x entries going in
    (λ (ends : IsTrue (is_end x.event)). absurd (cc), one_end entries e (All-tail (λ e. IsFalse (is_end e.event)) x entries going))

-- a call whose reply may end it
pub ended_once : {size place : ℕ} {line : Line} {old new : List Entry} (asked : IsAskedAt size line old new place) → AreGoing old → EndsOnce new
ended_once {old = old} asked was =
    subst (λ (l : List Entry). EndsOnce l) (sym (with_reply asked)) (one_end (old ++ asked.inner) (one (script_who old) asked.end asked.event) (before_goes asked was))
