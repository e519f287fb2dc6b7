-- A call keeps what is kept of the history.
use Rattle.std.proofs.Common.{◌≡◌, inl, inr, ℕ, ◌==◌, List, ◌++◌, length, ◌∙◌, ap, arith}
use Rattle.std.specs.Prelude.{IsFalse}
use Rattle.array_call_specs.specs.raid_types_Sectors.{Sector}
use Rattle.array_call_specs.specs.raid_types_the_Who.{Who}
use Rattle.array_call_specs.specs.bank_the_Operation.{Operation}
use Rattle.array_call_specs.specs.history_the_Entry.{Entry}
use Rattle.array_call_specs.specs.history_the_Event.{Event}
use Rattle.array_call_specs.specs.history_Flat.{length_of}
use Rattle.array_call_specs.specs.history_Growing.{grown}
use Rattle.array_call_specs.specs.history_Plain.{entries_of}
use Rattle.array_call_specs.specs.history_Sound.{OpensFit}
use Rattle.array_call_specs.specs.history_Transfers.{last_end_from}
use Rattle.array_call_specs.specs.history_World.{World, opening_list}
use Rattle.array_call_specs.proofs.history_SoundLaws.{fit-before}
use Rattle.array_call_specs.proofs.RecordLaws.{ends-call}
use Rattle.array_call_specs.proofs.SafeLaws.{longer-by}
use Rattle.history_invariant.specs.Recorded.{IsHistoryKept, IsLegalCall, IsReshapedCall, IsCallGoing, MayFollow}
use Rattle.history_invariant.proofs.Growing.{opening-grown}
use Rattle.history_invariant.proofs.Records.{legal-later}
use Rattle.history_invariant.proofs.Reshapes.{reshaped-later}

-- The call begins or goes on, its events are legal and end right what they end, and its entries end with it; it may change the list's length.
pub kept-call : (right right' : Type 0) (world : World) (ops : List Operation) (size size' : ℕ) (entries : List Entry) (who : Who) (events : List Event) (goes : IsCallGoing entries who)
    → IsHistoryKept right world size entries → (right' → right) → IsFalse (who.caller == 254)
    → (right' → MayFollow (grown world ops) goes.call (entries_of who (length (world.tape ++ ops)) events))
    → length_of (length (opening_list world)) (entries ++ entries_of who (length (world.tape ++ ops)) events) ≡ size'
    → last_end_from world.first (entries ++ entries_of who (length (world.tape ++ ops)) events) ≡ length (world.tape ++ ops)
    → (right' → IsLegalCall (grown world ops) entries who (length (world.tape ++ ops)) events)
    → (right' → OpensFit (grown world ops) → IsReshapedCall (grown world ops) entries who (length (world.tape ++ ops)) events)
    → IsHistoryKept right' (grown world ops) size' (entries ++ entries_of who (length (world.tape ++ ops)) events)
kept-call right right' world ops size size' entries who events goes was before other follows sized ended legal reshaped = record {
  begun = let longer = longer-by world.tape ops in omega (arith, was.begun, longer);
  sized = ap (λ (l : List Sector). length_of (length l) (entries ++ entries_of who (length (world.tape ++ ops)) events)) (opening-grown world ops was.begun) ∙ sized;
  legal = λ so. legal-later world ops entries who events goes other (elim (follows so) [ inl fixed ↦ inl fixed.kept | inr none ↦ inr none ]) was.ends (let at = was.ended in omega (arith, at))
      (was.legal (before so)) (legal so);
  reshaped = λ so fit. reshaped-later world ops entries who events goes (elim (follows so) [ inl fixed ↦ inl fixed.steps | inr none ↦ inr none ]) was.ends (was.reshaped (before so) (fit-before world ops was.begun fit)) (reshaped so fit);
  ends = ends-call (length world.tape) entries who (length (world.tape ++ ops)) events (longer-by world.tape ops) was.ends;
  ended = ended;
}
