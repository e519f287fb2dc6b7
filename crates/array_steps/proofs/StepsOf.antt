-- Steps of a call, one after another.
use Rattle.std.proofs.Common.{◌≡◌, inl, inr, ℕ, ◌+◌, ◌||◌, ◌++◌, Bool, true, false, not, List, [], ◌∷◌, length, drop, refl, sym, ◌∙◌, ap, arith, append_assoc, append-nil}
use Rattle.std.proofs.Math.Seq.{drop-append_seam}
use Rattle.std.proofs.lemmas.List.Elements.{All-nil, All-append}
use Rattle.std.proofs.lemmas.List.Folds.{list_any-append}
use Rattle.std.specs.Prelude.{IsTrue}
use Rattle.std.specs.List.{All, list_any}
use Rattle.array.specs.raid_types_the_Refusal.{Refusal}
use Rattle.array.specs.raid_types_the_Who.{Who}
use Rattle.array.specs.history_the_Entry.{Entry}
use Rattle.array.specs.history_the_Event.{Event}
use Rattle.array.specs.history_the_Event_TheVariants.{Refused}
use Rattle.array.specs.history_Fits.{is_step_event, is_lost_event}
use Rattle.array.specs.history_OneShape.{IsOfCall}
use Rattle.array.specs.history_Plain.{entries_of}
use Rattle.array.specs.history_append_Losing.{losses_of}
use Rattle.array.proofs.history_append_PlainLaws.{one}
use Rattle.array.specs.array_call_specs_Calls.{IsBehind}
use Rattle.array.specs.history_invariant_Recorded.{MayGoOn}
use Rattle.array_steps.specs.Steps.{TellOneStep, AreStepsOf}
use Rattle.array_steps.proofs.Events.{each-behind, count-both, count-none, IsNoStep, refused-own}

-- ---- as many as were done

pub steps-none : (who : Who) (old : List Entry) → AreStepsOf who old old 0
steps-none who old = record { inner = []; is = sym (append-nil old); own = All-nil (λ e. IsOfCall who e × MayGoOn e.event); counted = omega arith; not_more = omega arith }

-- one more
pub steps-more : {old mid new : List Entry} {who : Who} {done : ℕ} → AreStepsOf who old mid done → (inner : List Entry) → new ≡ mid ++ inner → All (λ e. IsOfCall who e × MayGoOn e.event) inner → TellOneStep inner → AreStepsOf who old new (done + 1)
steps-more {old = old} {who = who} so inner is own tells =
    let steps = count-both is_step_event so.inner inner in
    let lost = count-both is_lost_event so.inner inner in
    record {
      inner = so.inner ++ inner;
      is = is ∙ ap (λ (l : List Entry). l ++ inner) so.is ∙ append_assoc old so.inner inner;
      own = All-append (λ e. IsOfCall who e × MayGoOn e.event) so.inner inner so.own own;
      counted = elim tells [
        | inl one ↦ omega (arith, so.counted, one, steps)
        | inr none ↦ omega (arith, so.counted, none.0, steps)
      ];
      not_more = elim tells [
        | inl one ↦ omega (arith, so.not_more, one, steps, lost)
        | inr none ↦ omega (arith, so.not_more, none.0, none.1, steps, lost)
      ];
    }

-- and the next one was refused
pub steps-refused : {old mid new : List Entry} {who : Who} {done : ℕ} (refusal : Refusal) → AreStepsOf who old mid done → IsBehind who mid new (Refused refusal) → AreStepsOf who old new done
steps-refused {old = old} {mid = mid} {new = new} {who = who} refusal so was =
    let entered = entries_of who was.end (losses_of was.roles was.spares ++ Refused refusal ∷ []) in
    let none = count-none who was.end (losses_of was.roles was.spares ++ Refused refusal ∷ []) (each-behind IsNoStep (λ role. refl) (λ slot. refl) was.roles was.spares (Refused refusal ∷ []) (refl, tt)) in
    let steps = count-both is_step_event so.inner entered in
    let lost = count-both is_lost_event so.inner entered in
    record {
      inner = so.inner ++ entered;
      is = was.is ∙ ap (λ (l : List Entry). l ++ entered) so.is ∙ append_assoc old so.inner entered;
      own = All-append (λ e. IsOfCall who e × MayGoOn e.event) so.inner entered so.own (refused-own who was.end was.roles was.spares refusal);
      counted = omega (arith, so.counted, none, steps);
      not_more = omega (arith, so.not_more, steps, lost);
    }

-- ---- what they tell

-- more entries tell none where all do
module _ (p : Event → Bool) (old mid new more rest : List Entry) (early : mid ≡ old ++ more) (late : new ≡ mid ++ rest) where
  behind-is : drop (length old) new ≡ more ++ rest
  behind-is = ap (drop (length old)) (late ∙ ap (λ (l : List Entry). l ++ rest) early ∙ append_assoc old more rest) ∙ drop-append_seam old (more ++ rest)

  -- one that the last of them tell is told
  pub any-late : list_any (λ e. p e.event) rest ≡ true → list_any (λ e. p e.event) (drop (length old) new) ≡ true
  any-late is = ap (list_any (λ e. p e.event)) behind-is ∙ list_any-append (λ e. p e.event) more rest ∙ right (list_any (λ e. p e.event) more) (list_any (λ e. p e.event) rest) is
    where
      right : (a b : Bool) → b ≡ true → (a || b) ≡ true
      right true b is = refl
      right false b is = is

  quiet-parts : IsTrue (not (list_any (λ e. p e.event) (drop (length old) new))) → IsTrue (not (list_any (λ e. p e.event) more)) × IsTrue (not (list_any (λ e. p e.event) rest))
  quiet-parts none = by (list_any (λ e. p e.event) more) (list_any (λ e. p e.event) rest)
      (sym (ap not (ap (list_any (λ e. p e.event)) behind-is ∙ list_any-append (λ e. p e.event) more rest)) ∙ none)
    where
      by : (a b : Bool) → not (a || b) ≡ true → IsTrue (not a) × IsTrue (not b)
      by true b is = absurd (cc)
      by false b is = (refl, is)

  pub quiet-first : IsTrue (not (list_any (λ e. p e.event) (drop (length old) new))) → IsTrue (not (list_any (λ e. p e.event) (drop (length old) mid)))
  quiet-first none = ap not (ap (list_any (λ e. p e.event)) (ap (drop (length old)) early ∙ drop-append_seam old more)) ∙ (quiet-parts none).0

  pub quiet-second : IsTrue (not (list_any (λ e. p e.event) (drop (length old) new))) → IsTrue (not (list_any (λ e. p e.event) (drop (length mid) new)))
  quiet-second none = ap not (ap (list_any (λ e. p e.event)) (ap (drop (length mid)) late ∙ drop-append_seam mid rest)) ∙ (quiet-parts none).1
