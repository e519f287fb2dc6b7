-- The calls by which a reshape begins or ends: what they tell before the update and with it.
use Rattle.std.proofs.Common.{◌≡◌, ℕ, ◌<◌, ◌≤◌, Bool, true, false, List, [], ◌∷◌, ◌++◌, length, refl, sym, ◌∙◌, ap, subst, append_assoc, append-nil}
use Rattle.std.specs.Prelude.{⊤, IsTrue}
use Rattle.std.specs.List.{list_any}
use Rattle.array_call_specs.specs.raid_types_Sectors.{Sector}
use Rattle.array_call_specs.specs.raid_types_the_Who.{Who}
use Rattle.array_call_specs.specs.bank_the_Operation.{Operation}
use Rattle.array_call_specs.specs.bank_Given.{Given, sizes}
use Rattle.array_call_specs.specs.bank_Tape.{IsIn}
use Rattle.array_call_specs.specs.sb_specs_the_Members.{Members}
use Rattle.array_call_specs.specs.sb_specs_Reading.{Scope}
use Rattle.array_call_specs.specs.history_the_Entry.{Entry}
use Rattle.array_call_specs.specs.history_the_Event.{Event}
use Rattle.array_call_specs.specs.history_the_Event_TheVariants.{Lost, SpareLost, Resized}
use Rattle.array_call_specs.specs.history_the_LostCause_TheVariants.{Fault}
use Rattle.array_call_specs.specs.history_CrashSafe.{is_resized, up_to}
use Rattle.array_call_specs.specs.history_Flat.{length_of, values_of}
use Rattle.array_call_specs.specs.history_Growing.{grown, EndBy}
use Rattle.array_call_specs.specs.history_Legal.{is_all_gone}
use Rattle.array_call_specs.specs.history_Losses.{is_gone_after}
use Rattle.array_call_specs.specs.history_Plain.{entries_of}
use Rattle.array_call_specs.specs.history_Sound.{OpensFit}
use Rattle.array_call_specs.specs.history_World.{World}
use Rattle.array_call_specs.proofs.history_laws_OneShapeGrowing.{one, entries-both, AreFaults}
use Rattle.array_call_specs.specs.crash_views_Views.{Ledger}
use Rattle.array_call_specs.specs.crash_safety_laws_Changing.{IsSafeChange}
use Rattle.array_call_specs.specs.crash_safety_laws_Safety.{HasLiveSlot, IsRisen}
use Rattle.array_call_specs.specs.crash_safety_laws_Steady.{IsMoreTold, IsSafeOver}
use Rattle.array_call_specs.proofs.array_members_Still.{told-same}
use Rattle.history_invariant.specs.Safe.{world_in, IsFilledRight, told_without, IsSafeHistory}
use Rattle.history_invariant.specs.Told.{told_now, told_by}
use Rattle.history_invariant.proofs.Calls.{LeavesSoundFrom, safe-call}
use Rattle.history_invariant.proofs.Changes.{safe-change, either-stretch, either-last}
use Rattle.history_invariant.proofs.Entered.{AreAdding, adding-losses}
use Rattle.history_invariant.proofs.Ledgers.{more-then, told-any, now-told}
use Rattle.history_invariant.proofs.Lists.{resized-length, resized-values}
use Rattle.history_invariant.proofs.Unkept.{unkept-told, up_to-losses}

-- ---- a change of length with losses behind it

losses-add : (who : Who) (end : ℕ) (losses : List Event) → AreFaults losses → AreAdding (entries_of who end losses)
losses-add who end losses are = subst (λ (l : List Event). AreAdding (entries_of who end l)) (append-nil losses) (adding-losses who end losses [] are refl)

losses-resize_none : (who : Who) (end : ℕ) (losses tail : List Event) → AreFaults losses → list_any (λ e. is_resized e.event) (entries_of who end tail) ≡ false → list_any (λ e. is_resized e.event) (entries_of who end (losses ++ tail)) ≡ false
losses-resize_none who end [] tail are none = none
losses-resize_none who end (Lost role Fault ∷ losses) tail are none = losses-resize_none who end losses tail are none
losses-resize_none who end (SpareLost slot ∷ losses) tail are none = losses-resize_none who end losses tail are none
losses-resize_none who end (event ∷ losses) tail are none = absurd are

module _ (world : World) (entries : List Entry) (who : Who) (end : ℕ) (early : List Event) (n : ℕ) (losses : List Event) (are : AreFaults losses) where
  parts-of : entries ++ entries_of who end (early ++ Resized n ∷ losses) ≡ (entries ++ entries_of who end early) ++ one who end (Resized n) ∷ entries_of who end losses
  parts-of = ap (λ (l : List Entry). entries ++ l) (entries-both who end early (Resized n ∷ losses)) ∙ sym (append_assoc entries (entries_of who end early) (one who end (Resized n) ∷ entries_of who end losses))

  -- the list has its new length
  pub turned-length : (m : ℕ) → length_of m (entries ++ entries_of who end (early ++ Resized n ∷ losses)) ≡ n
  turned-length m = ap (λ (l : List Entry). length_of m l) parts-of ∙ resized-length (entries ++ entries_of who end early) (one who end (Resized n)) n (entries_of who end losses) refl (losses-add who end losses are) m

  -- a sector that both lists have may have each value that it had
  pub turned-values : (list : List Sector) (x : ℕ) (v : Sector) → x < n → IsIn (values_of list (entries ++ entries_of who end early) x) v → IsIn (values_of list (entries ++ entries_of who end (early ++ Resized n ∷ losses)) x) v
  turned-values list x v lt may = subst (λ (l : List Entry). IsIn (values_of list l x) v) (sym parts-of)
      (resized-values (entries ++ entries_of who end early) (one who end (Resized n)) n (entries_of who end losses) refl (losses-add who end losses are) list x v lt may)

  -- where no slot kept it, the history without it tells what was told before it
  turned-unkept : (told : Ledger) → AreAdding (entries_of who end early) → IsMoreTold told (told_by world (λ slot number. true) true entries (entries_of who end early))
      → ((role : ℕ) → told.gone role ≡ true → is_gone_after world (entries ++ entries_of who end (early ++ Resized n ∷ losses)) role ≡ true)
      → IsTrue (is_all_gone world end (entries ++ entries_of who end (early ++ Resized n ∷ losses)))
      → IsTrue (is_all_gone world end (up_to (entries ++ entries_of who end (early ++ Resized n ∷ losses)) (length (entries ++ entries_of who end early))))
      × IsMoreTold told (told_without world (entries ++ entries_of who end (early ++ Resized n ∷ losses)) (length (entries ++ entries_of who end early)))
  turned-unkept told adds less gone all = (
    ap (λ (l : List Entry). is_all_gone world end l)
        (ap (λ (l : List Entry). up_to l (length (entries ++ entries_of who end early))) parts-of ∙ up_to-losses (entries ++ entries_of who end early) who end n losses are ∙ sym parts-of)
        ∙ all,
    subst (λ (l : List Entry). IsMoreTold told (told_without world l (length (entries ++ entries_of who end early)))) (sym whole)
        (unkept-told world told entries (entries_of who end early) (one who end (Resized n)) n (entries_of who end losses) refl adds (losses-add who end losses are) less
        (subst (λ (l : List Entry). (role : ℕ) → told.gone role ≡ true → is_gone_after world l role ≡ true) whole gone)),
  )
    where
      whole : entries ++ entries_of who end (early ++ Resized n ∷ losses) ≡ entries ++ (entries_of who end early ++ one who end (Resized n) ∷ entries_of who end losses)
      whole = ap (λ (l : List Entry). entries ++ l) (entries-both who end early (Resized n ∷ losses))

-- ---- a call that changes the length, and ends with the losses of its update

module _ (claims : Type 0) (given : Given) (tape : List Operation) (scope : Scope) (first : ℕ) (entries : List Entry) (old new : Members) (carried carried' : ℕ → ℕ → Bool) (reshaping reshaping' : Bool)
    (who : Who) (early : List Event) (n : ℕ) (losses : List Event) (ops : List Operation) (told : Ledger) (sizes_are : scope.sizes ≡ sizes given) (within : first ≤ length tape) (ends : EndBy (length tape) entries)
    (fills : IsFilledRight (grown (world_in given tape scope first) ops) (entries ++ entries_of who (length (tape ++ ops)) (early ++ Resized n ∷ losses)))
    (was : IsSafeHistory claims (world_in given tape scope first) given old carried reshaping entries) (rise : IsRisen ⊤ old new tape (tape ++ ops))
    (sound : claims → OpensFit (grown (world_in given tape scope first) ops) → LeavesSoundFrom (world_in given tape scope first) ops)
    (adds : AreAdding (entries_of who (length (tape ++ ops)) early)) (faults : AreFaults losses)
    (less : IsMoreTold told (told_by (grown (world_in given tape scope first) ops) (λ slot number. true) true entries (entries_of who (length (tape ++ ops)) early)))
    (change : IsSafeChange (OpensFit (world_in given tape scope first)) scope given told
    (told_now (grown (world_in given tape scope first) ops) carried' reshaping' (entries ++ entries_of who (length (tape ++ ops)) (early ++ Resized n ∷ losses))) new tape (tape ++ ops))
    (spent : (HasLiveSlot new → ⊥) → IsTrue (is_all_gone (grown (world_in given tape scope first) ops) (length (tape ++ ops)) (entries ++ entries_of who (length (tape ++ ops)) (early ++ Resized n ∷ losses)))
    × ((role : ℕ) → told.gone role ≡ true
    → is_gone_after (grown (world_in given tape scope first) ops) (entries ++ entries_of who (length (tape ++ ops)) (early ++ Resized n ∷ losses)) role ≡ true)) where
  abbrev later : World
  later = grown (world_in given tape scope first) ops

  abbrev end : ℕ
  end = length (tape ++ ops)

  abbrev events : List Event
  events = early ++ Resized n ∷ losses

  abbrev all_of : List Event → List Entry
  all_of l = entries ++ entries_of who (length (tape ++ ops)) l

  no-more : events ≡ events ++ []
  no-more = sym (append-nil events)

  abbrev more : Ledger
  more = told_now later carried' reshaping' (all_of events)

  pub resized-call : IsSafeHistory claims later given new carried' reshaping' (all_of events)
  resized-call =
      subst (λ (l : List Event). IsSafeHistory claims later given new carried' reshaping' (all_of l)) (sym no-more)
      (safe-change claims given tape scope first entries old new carried carried' reshaping reshaping' who early n losses [] ops told more sizes_are within ends
      (subst (λ (l : List Event). IsFilledRight later (all_of l)) no-more fills) was rise sound less
      (more-then more (told_by later carried' reshaping' entries (entries_of who end events)) (told_by later (λ slot number. true) true entries (entries_of who end events))
      (now-told later carried' reshaping' entries (entries_of who end events)) (told-any later carried' reshaping' entries (entries_of who end events)))
      change
      (subst (λ (l : List Event). IsMoreTold more (told_now later carried' reshaping' (all_of l))) no-more (told-same more))
      (losses-resize_none who end losses [] faults refl)
      (λ none. subst (λ (l : List Event). IsTrue (is_all_gone later end (up_to (all_of l) (length (entries ++ entries_of who end early)))) × IsMoreTold told (told_without later (all_of l) (length (entries ++ entries_of who end early)))) no-more
      (let so = spent none in turned-unkept later entries who end early n losses faults told adds less so.1 so.0)))

-- ---- a call that tells more, and keeps the length

module _ (claims : Type 0) (given : Given) (tape : List Operation) (scope : Scope) (first : ℕ) (entries : List Entry) (old new : Members) (carried carried' : ℕ → ℕ → Bool) (reshaping reshaping' : Bool)
    (who : Who) (events : List Event) (ops : List Operation) (told : Ledger) (sizes_are : scope.sizes ≡ sizes given) (within : first ≤ length tape) (ends : EndBy (length tape) entries)
    (fills : IsFilledRight (grown (world_in given tape scope first) ops) (entries ++ entries_of who (length (tape ++ ops)) events))
    (was : IsSafeHistory claims (world_in given tape scope first) given old carried reshaping entries) (rise : IsRisen ⊤ old new tape (tape ++ ops))
    (sound : claims → OpensFit (grown (world_in given tape scope first) ops) → LeavesSoundFrom (world_in given tape scope first) ops)
    (less : IsMoreTold told (told_by (grown (world_in given tape scope first) ops) (λ slot number. true) true entries (entries_of who (length (tape ++ ops)) events)))
    (change : IsSafeChange (OpensFit (world_in given tape scope first)) scope given told
    (told_now (grown (world_in given tape scope first) ops) carried' reshaping' (entries ++ entries_of who (length (tape ++ ops)) events)) new tape (tape ++ ops))
    (spent : (HasLiveSlot new → ⊥) → IsMoreTold told (told_now (grown (world_in given tape scope first) ops) carried' reshaping' (entries ++ entries_of who (length (tape ++ ops)) events))) where
  abbrev after : World
  after = grown (world_in given tape scope first) ops

  abbrev whole : List Event → List Entry
  whole l = entries ++ entries_of who (length (tape ++ ops)) l

  abbrev now_told : Ledger
  now_told = told_now after carried' reshaping' (whole events)

  abbrev by_call : Ledger
  by_call = told_by after (λ slot number. true) true entries (entries_of who (length (tape ++ ops)) events)

  now-by : IsMoreTold now_told by_call
  now-by = more-then now_told (told_by after carried' reshaping' entries (entries_of who (length (tape ++ ops)) events)) by_call
      (now-told after carried' reshaping' entries (entries_of who (length (tape ++ ops)) events)) (told-any after carried' reshaping' entries (entries_of who (length (tape ++ ops)) events))

  none-more : events ≡ events ++ []
  none-more = sym (append-nil events)

  pub either-call : IsSafeHistory claims after given new carried' reshaping' (whole events)
  either-call =
      subst (λ (l : List Event). IsSafeHistory claims after given new carried' reshaping' (whole l)) (sym none-more)
      (safe-call claims given tape scope first entries old new carried carried' reshaping reshaping' who events [] ops by_call sizes_are within ends
      (subst (λ (l : List Event). IsFilledRight after (whole l)) none-more fills) was rise sound (told-same by_call)
      (either-stretch (OpensFit (world_in given tape scope first)) scope given told now_told by_call new tape (tape ++ ops) less now-by change)
      (subst (λ (l : List Event). IsSafeOver (world_in given tape scope first) given (told_now after carried' reshaping' (whole l)) new (tape ++ ops)) none-more
      (either-last (world_in given tape scope first) given told now_told now_told new tape (tape ++ ops) change (told-same now_told) spent)))
