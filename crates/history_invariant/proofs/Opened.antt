-- An epoch that begins: the losses that its opening found stand first.
use Rattle.std.proofs.Common.{◌≡◌, inl, inr, ℕ, ◌≤◌, ◌==◌, ◌&&◌, Bool, true, false, Option, List, [], ◌∷◌, ◌++◌, length, MatchBool, refl, sym, ◌∙◌, ap, ap₂, subst, arith, append_assoc, append-nil}
use Rattle.std.specs.Prelude.{⊤, IsTrue}
use Rattle.std.specs.List.{list_all}
use Rattle.std.proofs.lemmas.Bool.Decides.{nat_tests}
use Rattle.std.proofs.lemmas.List.Folds.{list_all-append}
use Rattle.array_call_specs.specs.raid_types_the_Who.{Who}
use Rattle.array_call_specs.specs.bank_the_Operation.{Operation}
use Rattle.array_call_specs.specs.bank_Given.{Given, sizes}
use Rattle.array_call_specs.specs.sb_specs_the_Members.{Members}
use Rattle.array_call_specs.specs.sb_specs_Reading.{Scope}
use Rattle.array_call_specs.specs.history_the_Entry.{Entry}
use Rattle.array_call_specs.specs.history_the_Event.{Event}
use Rattle.array_call_specs.specs.history_the_Event_TheVariants.{Lost}
use Rattle.array_call_specs.specs.history_the_LostCause.{LostCause}
use Rattle.array_call_specs.specs.history_the_LostCause_TheVariants.{Absent, Recovering}
use Rattle.array_call_specs.specs.history_CrashSafe.{IsSafeAt}
use Rattle.array_call_specs.specs.history_Growing.{grown}
use Rattle.array_call_specs.specs.history_Legal.{GoesOn, IsNumbered, IsOfOpening, IsAbsentAtFirst, IsLost, IsLegalEntry, call_end, AreLegal}
use Rattle.array_call_specs.specs.history_Plain.{entries_of}
use Rattle.array_call_specs.specs.history_Sound.{OpensFit, LeavesSound}
use Rattle.array_call_specs.specs.history_Transfers.{last_end_from}
use Rattle.array_call_specs.specs.history_World.{World, until, opening_list}
use Rattle.array_call_specs.proofs.history_OneShapeLegal.{last-snoc}
use Rattle.array_call_specs.proofs.history_laws_OneShapeGrowing.{inner-of, loss_events}
use Rattle.array_call_specs.specs.crash_safety_laws_Safety.{HasLiveSlot}
use Rattle.array_call_specs.specs.crash_safety_laws_Steady.{IsSafeOver}
use Rattle.array_call_specs.proofs.RecordLaws.{ends-at}
use Rattle.history_invariant.specs.Recorded.{IsHistoryKept, entry_of, IsReshapedCall}
use Rattle.history_invariant.specs.Safe.{world_in, IsFilledRight, IsCounted, IsNowRight, IsSafeHistory}
use Rattle.history_invariant.specs.Told.{told_now}
use Rattle.history_invariant.proofs.Entered.{AreAdding, lengths-stay}
use Rattle.history_invariant.proofs.Marks.{rest-whole, safe-after}
use Rattle.history_invariant.proofs.Records.{end-snoc, until-all, call_end-is, same-call}
use Rattle.history_invariant.proofs.Reshapes.{ends-none, call-reshaped}
use Rattle.history_invariant.proofs.Seen.{seen-now}

-- what an opening tells of a role that isn't whole there
abbrev pub IsFound : World → ℕ → LostCause → Type 0
IsFound world role Absent = IsAbsentAtFirst world role
IsFound world role Recovering = IsAbsentAtFirst world role
IsFound world role cause = ⊥

abbrev pub AreFound : World → List (ℕ × LostCause) → Type 0
AreFound world [] = ⊤
AreFound world (loss ∷ found) = IsFound world loss.0 loss.1 × AreFound world found

module _ (world : World) (who : Who) (caller : who.caller ≡ 254) (number : who.number ≡ 0) where
  loss-legal : (before : List Entry) (event : Event) (rest : List Entry) (role : ℕ) (cause : LostCause) → IsTrue (list_all (λ e. e.caller == 254) before) → IsFound world role cause
      → IsLost world before (entry_of who (length world.tape) event) rest role cause
  loss-legal before event rest role Absent first was = record { opening = caller; number = number; first = first; missing = was }
  loss-legal before event rest role Recovering first was = record { opening = caller; number = number; first = first; missing = was }
  loss-legal before event rest role cause first was = absurd was

  of-opening : (b : Bool) (role : ℕ) (cause : LostCause) → IsFound world role cause → MatchBool b (IsOfOpening (Lost role cause)) ⊤
  of-opening false role cause was = tt
  of-opening true role Absent was = tt
  of-opening true role Recovering was = tt
  of-opening true role cause was = absurd was

  found-legal : (before : List Entry) (found : List (ℕ × LostCause)) → AreFound world found → IsTrue (list_all (λ e. e.caller == 254) before) → ((event : Event) → IsNumbered before (entry_of who (length world.tape) event))
      → last_end_from world.first before ≤ length world.tape → AreLegal world before (entries_of who (length world.tape) (loss_events found))
  found-legal before [] are first numbered rises = tt
  found-legal before (loss ∷ found) are first numbered rises = (
    subst (λ (l : List Entry). IsLegalEntry (until (call_end (entry_of who (length world.tape) (Lost loss.0 loss.1)) l) world) before (entry_of who (length world.tape) (Lost loss.0 loss.1)) l)
        (sym (rest-whole who (length world.tape) (Lost loss.0 loss.1) (loss_events found)))
        (subst (λ (w : World). IsLegalEntry w before (entry_of who (length world.tape) (Lost loss.0 loss.1)) (entries_of who (length world.tape) (loss_events found)))
        (sym (ap (λ (n : ℕ). until n world) (call_end-is who (length world.tape) (Lost loss.0 loss.1) (loss_events found)) ∙ until-all world)) (record {
          numbered = numbered (Lost loss.0 loss.1);
          timed = record { rises = rises; within = omega arith };
          inner = inner-of (Lost loss.0 loss.1) (entries_of who (length world.tape) (loss_events found)) tt;
          opening = of-opening (who.caller == 254) loss.0 loss.1 are.0;
          event = loss-legal before (Lost loss.0 loss.1) (entries_of who (length world.tape) (loss_events found)) loss.0 loss.1 first are.0;
        })),
    found-legal (before ++ entry_of who (length world.tape) (Lost loss.0 loss.1) ∷ []) found are.1
        (list_all-append (λ e. e.caller == 254) before (entry_of who (length world.tape) (Lost loss.0 loss.1) ∷ []) ∙ ap₂ (λ (a b : Bool). a && (b && true)) first (is-254 who.caller caller))
        (λ next. inl (subst (λ (o : Option Entry). GoesOn o (entry_of who (length world.tape) next)) (sym (last-snoc before (entry_of who (length world.tape) (Lost loss.0 loss.1))))
        (same-call who (entry_of who (length world.tape) (Lost loss.0 loss.1)) (entry_of who (length world.tape) next) (refl, refl) (refl, refl))))
        (let at : last_end_from world.first (before ++ entry_of who (length world.tape) (Lost loss.0 loss.1) ∷ []) ≡ length world.tape = end-snoc world.first before (entry_of who (length world.tape) (Lost loss.0 loss.1)) in omega (arith, at)),
  )
    where
      is-254 : (n : ℕ) → n ≡ 254 → (n == 254) ≡ true
      is-254 n is = grind (arith, nat_tests, is)

found-adds : (who : Who) (end : ℕ) (found : List (ℕ × LostCause)) → AreAdding (entries_of who end (loss_events found))
found-adds who end [] = refl
found-adds who end (loss ∷ found) = found-adds who end found

found-reshaped : (world : World) (before : List Entry) (who : Who) (end : ℕ) (found : List (ℕ × LostCause)) → IsReshapedCall world before who end (loss_events found)
found-reshaped world before who end [] = tt
found-reshaped world before who end (loss ∷ found) =
    (ends-none world before (entry_of who end (Lost loss.0 loss.1)) (entries_of who end (loss_events found)) refl, found-reshaped world (before ++ entry_of who end (Lost loss.0 loss.1) ∷ []) who end found)

ends-first : (first : ℕ) (before : List Entry) (who : Who) (found : List (ℕ × LostCause)) → last_end_from first before ≡ first → last_end_from first (before ++ entries_of who first (loss_events found)) ≡ first
ends-first first before who [] at = ap (λ (l : List Entry). last_end_from first l) (append-nil before) ∙ at
ends-first first before who (loss ∷ found) at =
    ap (λ (l : List Entry). last_end_from first l) (sym (append_assoc before (entry_of who first (Lost loss.0 loss.1) ∷ []) (entries_of who first (loss_events found))))
    ∙ ends-first first (before ++ entry_of who first (Lost loss.0 loss.1) ∷ []) who found (end-snoc first before (entry_of who first (Lost loss.0 loss.1)))

-- The history of an opening is kept, whatever is right there.
pub opened-kept : (right : Type 0) (world : World) (who : Who) (found : List (ℕ × LostCause)) → who.caller ≡ 254 → who.number ≡ 0 → world.first ≡ length world.tape → AreFound world found
    → IsHistoryKept right world (length (opening_list world)) (entries_of who (length world.tape) (loss_events found))
opened-kept right world who found caller number first are = record {
  begun = omega (arith, first);
  sized = lengths-stay (length (opening_list world)) (entries_of who (length world.tape) (loss_events found)) (found-adds who (length world.tape) found);
  legal = λ so. found-legal world who caller number [] found are refl (λ event. inr number) (omega (arith, first));
  reshaped = λ so fit. call-reshaped world [] who (loss_events found) (found-reshaped world [] who (length world.tape) found);
  ends = ends-at who (length world.tape) (loss_events found);
  ended = subst (λ (n : ℕ). last_end_from world.first (entries_of who n (loss_events found)) ≡ n) first (ends-first world.first [] who found refl);
}

-- ---- what is safe there

-- Where what a stop may leave is right by what the opening told, and is sound where that is claimed, the history is safe.
module _ (claims : Type 0) (given : Given) (tape : List Operation) (scope : Scope) (members : Members) (carried : ℕ → ℕ → Bool) (reshaping : Bool) (who : Who) (events : List Event) (sizes_are : scope.sizes ≡ sizes given)
    (fills : IsFilledRight (world_in given tape scope (length tape)) (entries_of who (length tape) events))
    (now : IsSafeOver (world_in given tape scope (length tape)) given (told_now (world_in given tape scope (length tape)) carried reshaping (entries_of who (length tape) events)) members tape)
    (sound : claims → OpensFit (world_in given tape scope (length tape)) → LeavesSound (world_in given tape scope (length tape)) (length tape))
    (counted : HasLiveSlot members → IsCounted (world_in given tape scope (length tape)) members) where
  abbrev here : World
  here = world_in given tape scope (length tape)

  no-more : tape ≡ tape ++ []
  no-more = sym (append-nil tape)

  safe-here : IsSafeAt here (entries_of who (length tape) events) (length tape)
  safe-here =
      subst (λ (l : List Operation). IsSafeAt (world_in given l scope (length tape)) (entries_of who (length l) events) (length l)) (sym no-more)
      (safe-after given tape scope (length tape) [] who events [] sizes_are (omega arith) tt later-fills
      (seen-now given tape scope (length tape) [] who events [] sizes_are (omega arith) tt later-fills members carried reshaping
      (subst (λ (l : List Operation). IsNowRight (world_in given l scope (length tape)) given members carried reshaping (entries_of who (length l) events)) no-more (inl now))))
    where
      later-fills : IsFilledRight (grown (world_in given tape scope (length tape)) []) ([] ++ entries_of who (length (tape ++ [])) events)
      later-fills = subst (λ (l : List Operation). IsFilledRight (world_in given l scope (length tape)) (entries_of who (length l) events)) no-more fills

  pub opened-safe : IsSafeHistory claims here given members carried reshaping (entries_of who (length tape) events)
  opened-safe = record {
    past = λ mark low high. let is : length tape ≡ mark = omega (arith, low, high) in subst (λ (m : ℕ). IsSafeAt here (entries_of who (length tape) events) m) is safe-here;
    sound = λ claimed opened mark low high. let is : length tape ≡ mark = omega (arith, low, high) in subst (λ (m : ℕ). LeavesSound here m) is (sound claimed opened);
    now = inl now;
    counted = counted;
  }
