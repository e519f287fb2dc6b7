-- What an array leaves is what the next one opens with.
use Rattle.std.proofs.Common.{◌≡◌, ℕ, suc, ◌≤◌, Bool, false, inr, Option, Some, None, List, [], ◌∷◌, ◌++◌, length, refl, ◌∙◌, ap}
use Rattle.std.specs.Prelude.{if◌then◌else◌}
use Rattle.std.specs.Option.{option_map_or}
use Rattle.std.proofs.lemmas.List.Elements.{All-head, All-tail}
use Rattle.history_reopen_laws.specs.bank_Given.{Given}
use Rattle.history_reopen_laws.specs.bank_the_Operation.{Operation}
use Rattle.history_reopen_laws.specs.history_the_Entry.{Entry}
use Rattle.history_reopen_laws.specs.history_the_Epoch.{Epoch}
use Rattle.history_reopen_laws.specs.history_the_Event.{Event}
use Rattle.history_reopen_laws.specs.history_the_Event_TheVariants.{Resized}
use Rattle.history_reopen_laws.specs.history_CrashSafe.{is_resized, last_resized}
use Rattle.history_reopen_laws.specs.history_Epochs.{world_of}
use Rattle.history_reopen_laws.specs.history_Flat.{rest_of_call}
use Rattle.history_reopen_laws.specs.history_Growing.{EndBy}
use Rattle.history_reopen_laws.specs.history_OneShape.{ShapeOpening, opening_in, IsOneShapeEvent, AreOneShape}
use Rattle.history_reopen_laws.specs.history_Reopened.{IsFoundLater}
use Rattle.history_reopen_laws.proofs.history_ReopenedLaws.{settled-found}
use Rattle.history_reopen_laws.proofs.Settled.{settled-found-later}
use Rattle.run_session.specs.run_specs_Ended.{IsLegalEpoch, IsSafeEpoch, AreFormer}
use Rattle.run_session.proofs.run_specs_Plain.{kept-fills}
use Rattle.run_scripts.specs.Kept.{IsFoundAgain, IsListKept, IsSoundKept, AreKept}
use Rattle.history_reopen_laws.proofs.FewerSound.{sound-found-later}
use Rattle.run_session.proofs.run_requests_Legal.{next_within}

-- ---- an array that keeps its shape

-- no event of it changes the length
event_keeps : (opening : ShapeOpening) (before : List Entry) (e : Entry) (rest : List Entry) (event : Event) → IsOneShapeEvent opening before e rest event → is_resized event ≡ false
event_keeps opening before e rest (Resized n) plain = absurd plain
event_keeps opening before e rest event plain = refl

entries_keep : (opening : ShapeOpening) (ops : ℕ) (before entries : List Entry) → AreOneShape opening ops before entries → last_resized entries ≡ None
entries_keep opening ops before [] plain = refl
entries_keep opening ops before (e ∷ entries) plain =
    let here = event_keeps opening before e (rest_of_call e entries) e.event plain.0.event in
    let later = entries_keep opening ops (before ++ e ∷ []) entries plain.1 in
    ap (λ (o : Option ℕ). option_map_or (λ place. Some (suc place)) o (if is_resized e.event then Some 0 else None)) later ∙ ap (λ (b : Bool). if b then Some 0 else None) here

-- ---- two epochs

one_kept : (given : Given) (tape : List Operation) (backup : Option ℕ) (former next : Epoch) → IsLegalEpoch given tape backup former → IsLegalEpoch given tape backup next → IsSafeEpoch given tape backup former
    → former.first ≤ next.first → EndBy next.first former.entries.items → next.first ≤ length tape → IsListKept given tape backup former next
one_kept given tape backup former next legal opened safe later made within = record {
  relied = λ relied again. settled-found-later (world_of given tape backup former) (world_of given tape backup next) former.entries.items (length tape) (safe relied).0 within (later_found again) opened.accepted again.settled;
  plain = λ keeps fills room again.
      settled-found (world_of given tape backup former) (world_of given tape backup next) former.entries.items (length tape)
      (entries_keep (opening_in (world_of given tape backup former)) (length tape) [] former.entries.items ((legal.plain keeps).legal fills))
      (safe (record { fills = kept-fills (world_of given tape backup former) former.entries.items keeps fills; room = room })).0 within (later_found again) opened.accepted again.settled;
}
  where
    later_found : IsFoundAgain given tape backup former next → IsFoundLater (world_of given tape backup former) former.entries.items (world_of given tape backup next)
    later_found again = record { start = refl; tape = refl; array = again.again.array; later = later; within = within; made = made; flushes = again.again.flushes }

sound_kept : (given : Given) (tape : List Operation) (backup : Option ℕ) (former next : Epoch) → IsLegalEpoch given tape backup next → IsSafeEpoch given tape backup former
    → former.first ≤ next.first → EndBy next.first former.entries.items → next.first ≤ length tape → IsSoundKept given tape backup former next
sound_kept given tape backup former next opened safe later made within fit room again =
    let kept = safe (record { fills = inr fit; room = room }) in
    sound-found-later (world_of given tape backup former) (world_of given tape backup next) former.entries.items (length tape) fit kept.0 kept.1 within
    (record { start = refl; tape = refl; array = again.array; later = later; within = within; made = made; flushes = again.flushes }) opened.accepted

pub all_kept : (given : Given) (tape : List Operation) (backup : Option ℕ) (epochs : List Epoch) → AreFormer given tape backup (length tape) epochs → AreKept given tape backup epochs
all_kept given tape backup [] was = tt
all_kept given tape backup (e ∷ []) was = tt
all_kept given tape backup (e ∷ f ∷ epochs) was =
    let rest = All-tail (λ e. IsLegalEpoch given tape backup e) e (f ∷ epochs) was.legal in
    let opened = All-head (λ e. IsLegalEpoch given tape backup e) f epochs rest in
    let safe = All-head (λ e. IsSafeEpoch given tape backup e) e (f ∷ epochs) was.safe in
    let within = next_within tape (f ∷ epochs) was.rising.1 in (
      one_kept given tape backup e f (All-head (λ e. IsLegalEpoch given tape backup e) e (f ∷ epochs) was.legal) opened safe was.rising.0.0 was.rising.0.1 within,
      sound_kept given tape backup e f opened safe was.rising.0.0 was.rising.0.1 within,
      all_kept given tape backup (f ∷ epochs) (record { legal = rest; safe = All-tail (λ e. IsSafeEpoch given tape backup e) e (f ∷ epochs) was.safe; rising = was.rising.1 }),
    )
