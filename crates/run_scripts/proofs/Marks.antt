-- The last marks of a run's epochs.
use Rattle.std.proofs.Common.{◌≡◌, ℕ, zero, suc, ◌+◌, ◌<◌, ◌≤◌, inl, inr, List, [], ◌∷◌, length, refl, sym, ◌∙◌, ap, subst, arith, Option, get_or-set_same, get_or-set_other}
use Rattle.std.proofs.lemmas.Bool.{cases_eq}
use Rattle.std.proofs.lemmas.List.Elements.{All-nil, All-cons, All-head, All-tail}
use Rattle.std.specs.Prelude.{slice_index_or, slice_set, ⊤, slice_get}
use Rattle.history_reopen_laws.specs.history_the_Epoch.{Epoch}
use Rattle.run_session.specs.run_specs_Histories.{History, history_of, histories_of}
use Rattle.history_reopen_laws.specs.bank_Given.{Given, sizes}
use Rattle.history_reopen_laws.specs.bank_the_Operation.{Operation}
use Rattle.history_reopen_laws.specs.history_Legal.{IsLegal}
use Rattle.history_reopen_laws.specs.history_Reshaped.{IsReshaped}
use Rattle.run_session.specs.history_invariant_laws_Reliable.{IsReliable}
use Rattle.run_session.specs.array_specs_Plans.{KeepsShape}
use Rattle.run_session.specs.array_fixed_laws_Plain.{AreToldPlainly}
use Rattle.history_reopen_laws.specs.history_Epochs.{world_of}
use Rattle.history_reopen_laws.specs.history_OneShape.{opening_in, IsOneShapeLegal}
use Rattle.history_reopen_laws.proofs.history_OneShapeLegal.{found-in, one_shape-legal}
use Rattle.run_session.proofs.run_specs_Plain.{kept-fills}
use Rattle.run_session.specs.run_specs_the_State.{State}
use Rattle.history_reopen_laws.specs.history_World.{World}
use Rattle.history_reopen_laws.specs.history_CrashSafe.{IsCrashSafe}
use Rattle.history_reopen_laws.specs.history_Growing.{EndBy}
use Rattle.history_reopen_laws.specs.history_Reopened.{OpensAccepted}
use Rattle.history_reopen_laws.specs.history_Sound.{OpensFit, FillsRight, StaysSound}
use Rattle.run_session.specs.run_specs_Making.{Setting}
use Rattle.run_session.specs.run_specs_Ended.{IsLegalEpoch, AreLegal, IsSafeEpoch, AreSafe, AreRising, AreFormer, IsRightEpoch, AreRight, next_mark}
use Rattle.run_scripts.specs.Runs.{AreHalted, IsEnded, mark_behind, AreEndedBelow, AreEndedAt}
use Rattle.run_session.specs.run_specs_States.{histories_in, course_in, AreOfScript, AreGrown, AreLossesFrom}
use Rattle.std.specs.Option.{option_map_or}
use Rattle.run_session.proofs.run_requests_Legal.{next_within}

-- an epoch of the same history in the place of one
pub kept_set : (epochs : List Epoch) (i : ℕ) (e d : Epoch) → history_of e ≡ history_of (slice_index_or epochs i d) → histories_of (slice_set epochs i e) ≡ histories_of epochs
kept_set [] i e d same = refl
kept_set (x ∷ epochs) zero e d same = ap (λ (h : History). h ∷ histories_of epochs) same
kept_set (x ∷ epochs) (suc i) e d same = ap (λ (l : List History). history_of x ∷ l) (kept_set epochs i e d same)

pub ended_more : (ops : ℕ) (epochs : List Epoch) (i : ℕ) (e d : Epoch) → i < length epochs → history_of e ≡ history_of (slice_index_or epochs i d) → e.last ≡ mark_behind ops (histories_of epochs) i → AreEndedBelow i ops epochs
    → AreEndedBelow (i + 1) ops (slice_set epochs i e)
ended_more ops epochs i e d within same marked was k d' lt =
    let kept : mark_behind ops (histories_of epochs) k ≡ mark_behind ops (histories_of (slice_set epochs i e)) k = ap (λ (l : List History). mark_behind ops l k) (sym (kept_set epochs i e d same)) in
    elim (cases_eq k i) [
      | inl here ↦ ap (λ (n : ℕ). (slice_index_or (slice_set epochs i e) n d').last) here ∙ ap (λ (x : Epoch). x.last) (get_or-set_same epochs i e d' within) ∙ marked ∙ ap (λ (n : ℕ). mark_behind ops (histories_of epochs) n) (sym here) ∙ kept
      | inr other ↦ ap (λ (x : Epoch). x.last) (get_or-set_other epochs i k e d' other) ∙ was k d' (omega (arith, lt, other)) ∙ kept
    ]

-- ---- what holds of epochs holds of others with the same histories

pub ended_kept : {B : Type 0} {setting : Setting} {state : State B} {bank : B} (olds news : List Epoch) → histories_of news ≡ histories_of olds → IsEnded setting state bank olds → IsEnded setting state bank news
ended_kept {setting = setting} {state = state} olds news same was = record {
  same_bank = was.same_bank;
  grown = subst (λ (l : List History). AreGrown (histories_in state) l) (sym same) was.grown;
  halted = subst (λ (l : List History). AreHalted (course_in state) l) (sym same) was.halted;
  script = subst (λ (l : List History). AreOfScript l) (sym same) was.script;
  losses = subst (λ (l : List History). AreLossesFrom setting (histories_in state) l) (sym same) was.losses;
}

-- a history's world, over a tape
abbrev over : Given → List Operation → Option ℕ → History → World
over given tape backup h = record { start = given.start; tape = tape; scope = record { uuid = h.uuid; given = h.given; backup = backup; sizes = sizes given }; first = h.first }

legal_same : (given : Given) (tape : List Operation) (backup : Option ℕ) (old new : Epoch) → history_of new ≡ history_of old → IsLegalEpoch given tape backup old → IsLegalEpoch given tape backup new
legal_same given tape backup old new same was = record {
  begun = omega (arith, was.begun, ap (λ (h : History). h.first) same);
  accepted = subst (λ (h : History). OpensAccepted (over given tape backup h)) (sym same) was.accepted;
  ends = subst (λ (h : History). EndBy (length tape) h.entries) (sym same) was.ends;
  legal = subst (λ (h : History). IsReliable (over given tape backup h) h.entries → IsLegal (over given tape backup h) h.entries) (sym same) was.legal;
  reshaped = subst (λ (h : History). IsReliable (over given tape backup h) h.entries → OpensFit (over given tape backup h) → IsReshaped (over given tape backup h) h.entries) (sym same) was.reshaped;
  plain = λ keeps.
      let plain = was.plain (subst (λ (h : History). KeepsShape (over given tape backup h) h.entries) same keeps) in
      record {
        legal = subst (λ (h : History). FillsRight (over given tape backup h) h.entries → IsOneShapeLegal (opening_in (over given tape backup h)) (length tape) h.entries) (sym same) plain.legal;
        plainly = subst (λ (h : History). AreToldPlainly h.entries) (sym same) plain.plainly;
      };
}

legal_kept : (given : Given) (tape : List Operation) (backup : Option ℕ) (olds news : List Epoch) → histories_of news ≡ histories_of olds → AreLegal given tape backup olds → AreLegal given tape backup news
legal_kept given tape backup olds [] same was = All-nil (λ e. IsLegalEpoch given tape backup e)
legal_kept given tape backup [] (new ∷ news) same was = absurd (omega (arith, ap (λ (l : List History). length l) same))
legal_kept given tape backup (old ∷ olds) (new ∷ news) same was =
    All-cons (λ e. IsLegalEpoch given tape backup e) new news
    (legal_same given tape backup old new (head_same same) (All-head (λ e. IsLegalEpoch given tape backup e) old olds was))
    (legal_kept given tape backup olds news (tail_same same) (All-tail (λ e. IsLegalEpoch given tape backup e) old olds was))
  where
    head_same : {a b : History} {l k : List History} → a ∷ l ≡ b ∷ k → a ≡ b
    head_same is = cc

    tail_same : {a b : History} {l k : List History} → a ∷ l ≡ b ∷ k → l ≡ k
    tail_same is = cc

abbrev sound_of : Given → List Operation → Option ℕ → History → Type 0
sound_of given tape backup h =
    IsReliable (over given tape backup h) h.entries
    → IsCrashSafe (over given tape backup h) (length tape) h.entries × StaysSound (over given tape backup h) (length tape) h.entries

safe_same : (given : Given) (tape : List Operation) (backup : Option ℕ) (old new : Epoch) → history_of new ≡ history_of old
    → IsSafeEpoch given tape backup old → IsSafeEpoch given tape backup new
safe_same given tape backup old new same was = subst (λ (h : History). sound_of given tape backup h) (sym same) was

safes_kept : (given : Given) (tape : List Operation) (backup : Option ℕ) (olds news : List Epoch) → histories_of news ≡ histories_of olds → AreSafe given tape backup olds → AreSafe given tape backup news
safes_kept given tape backup olds [] same was = All-nil (λ e. IsSafeEpoch given tape backup e)
safes_kept given tape backup [] (new ∷ news) same was = absurd (omega (arith, ap (λ (l : List History). length l) same))
safes_kept given tape backup (old ∷ olds) (new ∷ news) same was =
    All-cons (λ e. IsSafeEpoch given tape backup e) new news
    (safe_same given tape backup old new (head_same same) (All-head (λ e. IsSafeEpoch given tape backup e) old olds was))
    (safes_kept given tape backup olds news (tail_same same) (All-tail (λ e. IsSafeEpoch given tape backup e) old olds was))
  where
    head_same : {a b : History} {l k : List History} → a ∷ l ≡ b ∷ k → a ≡ b
    head_same is = cc

    tail_same : {a b : History} {l k : List History} → a ∷ l ≡ b ∷ k → l ≡ k
    tail_same is = cc

pub former_kept : (given : Given) (tape : List Operation) (backup : Option ℕ) (mark : ℕ) (olds news : List Epoch) → histories_of news ≡ histories_of olds → AreFormer given tape backup mark olds → AreFormer given tape backup mark news
former_kept given tape backup mark olds news same was = record {
  legal = legal_kept given tape backup olds news same was.legal;
  safe = safes_kept given tape backup olds news same was.safe;
  rising = subst (λ (l : List History). AreRising mark l) (sym same) was.rising;
}

-- ---- the epochs of a whole run

-- each ends where the next one begins
abbrev pub AreEndedTo : ℕ → List Epoch → Type 0
AreEndedTo ops [] = ⊤
AreEndedTo ops (e ∷ epochs) = (e.last ≡ next_mark ops (histories_of epochs)) × AreEndedTo ops epochs

pub ended_to : (ops : ℕ) (epochs : List Epoch) → AreEndedAt ops epochs → AreEndedTo ops epochs
ended_to ops [] ended = tt
ended_to ops (e ∷ []) ended = (ended 0 e (omega arith), tt)
ended_to ops (e ∷ f ∷ epochs) ended = (ended 0 e (omega arith), ended_to ops (f ∷ epochs) (λ k d lt. ended (suc k) d (omega (arith, lt)) ∙ behind (history_of e) (histories_of (f ∷ epochs)) k))
  where
    behind : (h : History) (hs : List History) (k : ℕ) → mark_behind ops (h ∷ hs) (suc k) ≡ mark_behind ops hs k
    behind h hs k = ap (λ (n : ℕ). option_map_or (λ (history : History). history.first) (slice_get (h ∷ hs) n) ops) {x = suc k + 1} {y = suc (k + 1)} (omega arith)

-- where an epoch can be relied on, it is right; and one that kept its shape, where what was filled in is
right_epoch : (given : Given) (tape : List Operation) (backup : Option ℕ) (epoch : Epoch) → IsLegalEpoch given tape backup epoch → IsSafeEpoch given tape backup epoch → epoch.first ≤ epoch.last → epoch.last ≤ length tape
    → IsRightEpoch given tape backup epoch
right_epoch given tape backup epoch legal safe begun within = record {
  kept = λ relied. record {
    begins = begun;
    ends = within;
    legal = legal.legal relied;
    safe = λ mark low high only. (safe relied).0 mark low (omega (arith, high, within)) only;
    sound = λ opens mark low high only. (safe relied).1 opens mark low (omega (arith, high, within)) only;
    reshaped = legal.reshaped relied;
  };
  plain = λ keeps fills room.
      let world = world_of given tape backup epoch in
      let relied : IsReliable world epoch.entries.items = record { fills = kept-fills world epoch.entries.items keeps fills; room = room } in
      let right = one_shape-legal world (opening_in world) epoch.entries.items (found-in world) ((legal.plain keeps).legal fills) in
      record {
        begins = begun;
        ends = within;
        legal = right.0;
        safe = λ mark low high only. (safe relied).0 mark low (omega (arith, high, within)) only;
        sound = λ opens mark low high only. (safe relied).1 opens mark low (omega (arith, high, within)) only;
        reshaped = right.1;
      };
}

pub all_right : (given : Given) (tape : List Operation) (backup : Option ℕ) (epochs : List Epoch) → AreFormer given tape backup (length tape) epochs → AreEndedTo (length tape) epochs → AreRight given tape backup epochs
all_right given tape backup [] was ended = All-nil (λ e. IsRightEpoch given tape backup e)
all_right given tape backup (e ∷ epochs) was (last, ended) =
    let within = next_within tape epochs was.rising.1 in
    All-cons (λ e. IsRightEpoch given tape backup e) e epochs
    (right_epoch given tape backup e (All-head (λ e. IsLegalEpoch given tape backup e) e epochs was.legal) (All-head (λ e. IsSafeEpoch given tape backup e) e epochs was.safe)
    (omega (arith, last, was.rising.0.0)) (omega (arith, last, within)))
    (all_right given tape backup epochs (record {
      legal = All-tail (λ e. IsLegalEpoch given tape backup e) e epochs was.legal;
      safe = All-tail (λ e. IsSafeEpoch given tape backup e) e epochs was.safe;
      rising = was.rising.1;
    }) ended)
