-- A call whose marks are seen right by one ledger leaves the history safe.
use Rattle.std.proofs.Common.{◌≡◌, inl, inr, ℕ, ◌+◌, ◌<◌, ◌≤◌, Bool, true, List, ◌++◌, length, take, sym, ◌∙◌, ap, subst, arith, length-append}
use Rattle.std.specs.Prelude.{⊤}
use Rattle.array_call_specs.specs.raid_types_the_Who.{Who}
use Rattle.array_call_specs.specs.bank_the_Operation.{Operation}
use Rattle.array_call_specs.specs.bank_Given.{Given, sizes}
use Rattle.array_call_specs.specs.bank_Tape.{Contents, IsDrawn, disk}
use Rattle.array_call_specs.specs.sb_specs_the_Members.{Members}
use Rattle.array_call_specs.specs.sb_specs_Reading.{Scope}
use Rattle.array_call_specs.specs.history_the_Entry.{Entry}
use Rattle.array_call_specs.specs.history_the_Event.{Event}
use Rattle.array_call_specs.specs.history_Growing.{grown, EndBy}
use Rattle.array_call_specs.specs.history_Plain.{entries_of}
use Rattle.array_call_specs.specs.history_Sound.{OpensFit, LeavesSound, LeavesSoundThroughout}
use Rattle.array_call_specs.specs.history_World.{World}
use Rattle.array_call_specs.proofs.history_SoundLaws.{fit-before, throughout-grown}
use Rattle.array_call_specs.proofs.history_laws_OneShapeGrowing.{entries-both}
use Rattle.array_call_specs.specs.crash_views_Views.{Ledger, IsSeenRight}
use Rattle.array_call_specs.specs.crash_safety_laws_Safety.{HasLiveSlot, IsRisen}
use Rattle.array_call_specs.specs.crash_safety_laws_Steady.{IsMoreTold, IsSafeNow, IsSafeOver, KeepsSafe}
use Rattle.array_call_specs.proofs.crash_safety_laws_Steady.{views-told}
use Rattle.array_call_specs.proofs.LedgerLaws.{judged_by}
use Rattle.array_call_specs.proofs.MadeLaws.{length-entries}
use Rattle.history_invariant.specs.Safe.{world_in, IsFilledRight, IsCounted, IsNowRight, IsSafeHistory}
use Rattle.history_invariant.specs.Told.{told_now, told_by}
use Rattle.history_invariant.proofs.Growing.{reading-grown, fit-grown}
use Rattle.history_invariant.proofs.Ledgers.{more-then, told-ledger}
use Rattle.history_invariant.proofs.Marks.{IsSeenBefore, IsSeenAfter, safe-marks}
use Rattle.history_invariant.proofs.Seen.{seen-now}

-- ---- what a stop may leave

-- while a live slot is left it is right by the whole history
pub now-live : {given : Given} {members : Members} {carried : ℕ → ℕ → Bool} {reshaping : Bool} {entries : List Entry} (world : World) → HasLiveSlot members → IsNowRight world given members carried reshaping entries
    → IsSafeOver world given (told_now world carried reshaping entries) members world.tape
now-live world live (inl safe) = safe
now-live world live (inr unkept) = absurd (unkept.spent.none live)

-- ---- the event count

pub counted-later : (world : World) (old new : Members) (ops : List Operation) → world.first ≤ length world.tape → IsRisen ⊤ old new world.tape (world.tape ++ ops) → (HasLiveSlot old → IsCounted world old)
    → HasLiveSlot new → IsCounted (grown world ops) new
counted-later world old new ops within rise counts live =
    let counted = counts (rise.left live) in
    record {
      found = counted.found;
      is = reading-grown world ops world.first within ∙ counted.is;
      events = let rose = rise.events tt live in omega (arith, counted.events, rose);
    }

-- ---- soundness

-- the marks that a call adds, and the one at which it began, leave sound images
abbrev pub LeavesSoundFrom : World → List Operation → Type 0
LeavesSoundFrom world ops = (mark : ℕ) → length world.tape ≤ mark → mark ≤ length (world.tape ++ ops) → LeavesSound (grown world ops) mark

pub sound-later : (claims : Type 0) (world : World) (ops : List Operation) → world.first ≤ length world.tape → (claims → OpensFit world → LeavesSoundThroughout world)
    → (claims → OpensFit (grown world ops) → LeavesSoundFrom world ops) → claims → OpensFit (grown world ops) → LeavesSoundThroughout (grown world ops)
sound-later claims world ops within was leaves claimed opened = throughout-grown world ops (was claimed (fit-before world ops within opened)) (leaves claimed opened)

-- ---- a call

-- The call enters some events that are told while it runs, and others behind them that stand only for its end.
module _ (claims : Type 0) (given : Given) (tape : List Operation) (scope : Scope) (first : ℕ) (entries : List Entry) (old new : Members) (carried carried' : ℕ → ℕ → Bool) (reshaping reshaping' : Bool)
    (who : Who) (early late : List Event) (ops : List Operation) (told : Ledger) (sizes_are : scope.sizes ≡ sizes given) (within : first ≤ length tape) (ends : EndBy (length tape) entries)
    (fills : IsFilledRight (grown (world_in given tape scope first) ops) (entries ++ entries_of who (length (tape ++ ops)) (early ++ late)))
    (was : IsSafeHistory claims (world_in given tape scope first) given old carried reshaping entries) (rise : IsRisen ⊤ old new tape (tape ++ ops))
    (sound : claims → OpensFit (grown (world_in given tape scope first) ops) → LeavesSoundFrom (world_in given tape scope first) ops)
    (less : IsMoreTold told (told_by (grown (world_in given tape scope first) ops) (λ slot number. true) true entries (entries_of who (length (tape ++ ops)) early)))
    (stretch : KeepsSafe (world_in given tape scope first) given told new tape (tape ++ ops))
    (last : IsSafeOver (world_in given tape scope first) given (told_now (grown (world_in given tape scope first) ops) carried' reshaping' (entries ++ entries_of who (length (tape ++ ops)) (early ++ late))) new (tape ++ ops)) where
  abbrev world : World
  world = world_in given tape scope first

  abbrev later : World
  later = grown (world_in given tape scope first) ops

  abbrev end : ℕ
  end = length (tape ++ ops)

  abbrev more : List Entry
  more = entries_of who (length (tape ++ ops)) early

  abbrev rest : List Entry
  rest = entries_of who (length (tape ++ ops)) late

  abbrev all : List Entry
  all = entries ++ entries_of who (length (tape ++ ops)) (early ++ late)

  all-is : all ≡ entries ++ (more ++ rest)
  all-is = ap (λ (l : List Entry). entries ++ l) (entries-both who end early late)

  abbrev judge : Ledger
  judge = judged_by later all (length entries) (length (entries ++ more))

  told-early : IsMoreTold told judge
  told-early =
      more-then told (told_by later (λ slot number. true) true entries more) judge less
      (subst (λ (l : List Entry). IsMoreTold (told_by later (λ slot number. true) true entries more) (judged_by later l (length entries) (length (entries ++ more)))) (sym all-is)
      (told-ledger later (λ slot number. true) true entries more rest))

  seen-early : (mark : ℕ) → length tape ≤ mark → mark < end → (c : Contents) → IsDrawn (disk given.start (take mark (tape ++ ops))) c
      → IsSeenBefore given tape scope first entries who (early ++ late) ops sizes_are within ends fills (disk given.start (take mark (tape ++ ops))) c
  seen-early mark low high c drawn = record {
    j = length (entries ++ more);
    some = let both : length (entries ++ more) ≡ length entries + length more = length-append entries more in omega (arith, both);
    most =
        let both : length (entries ++ more) ≡ length entries + length more = length-append entries more in
        let count : length more ≡ length early = length-entries who end early in
        let parts : length (early ++ late) ≡ length early + length late = length-append early late in
        omega (arith, both, count, parts);
    seen = subst (λ (fit : Type 0). IsSeenRight fit scope given judge (disk given.start (take mark (tape ++ ops))) c) (sym (fit-grown world ops within))
        (views-told (OpensFit world) given told judge told-early scope (disk given.start (take mark (tape ++ ops))) (stretch.marks.each tt mark low (omega (arith, high))) c
        (record { eighth = λ s _. drawn s 8; ninth = λ s _. drawn s 9 }));
  }

  now-last : IsSafeOver later given (told_now later carried' reshaping' all) new (tape ++ ops)
  now-last = subst (λ (fit : Type 0). IsSafeNow fit scope given (told_now later carried' reshaping' all) new (disk given.start (tape ++ ops))) (sym (fit-grown world ops within)) last

  seen-last : (c : Contents) → IsDrawn (disk given.start (tape ++ ops)) c → IsSeenAfter given tape scope first entries who (early ++ late) ops sizes_are within ends fills (disk given.start (tape ++ ops)) c
  seen-last = seen-now given tape scope first entries who (early ++ late) ops sizes_are within ends fills new carried' reshaping' (inl now-last)

  pub safe-call : IsSafeHistory claims later given new carried' reshaping' all
  safe-call = record {
    past = safe-marks given tape scope first entries who (early ++ late) ops sizes_are within ends fills was.past seen-early seen-last;
    sound = sound-later claims world ops within was.sound sound;
    now = inl now-last;
    counted = counted-later world old new ops within rise was.counted;
  }

-- the same, over a tape and an end that are given
abbrev pub IsSafeThen : Type 0 → Given → List Operation → Scope → ℕ → List Entry → Members → Members → (ℕ → ℕ → Bool) → Bool → Who → List Event → List Event → Ledger → List Operation → ℕ → Type 0
IsSafeThen claims given tape scope first entries old new carried' reshaping' who early late told tape' end =
    IsFilledRight (world_in given tape' scope first) (entries ++ entries_of who end (early ++ late)) → IsRisen ⊤ old new tape tape'
    → (claims → OpensFit (world_in given tape' scope first) → (mark : ℕ) → length tape ≤ mark → mark ≤ length tape' → LeavesSound (world_in given tape' scope first) mark)
    → IsMoreTold told (told_by (world_in given tape' scope first) (λ slot number. true) true entries (entries_of who end early))
    → KeepsSafe (world_in given tape scope first) given told new tape tape'
    → IsSafeOver (world_in given tape scope first) given (told_now (world_in given tape' scope first) carried' reshaping' (entries ++ entries_of who end (early ++ late))) new tape'
    → IsSafeHistory claims (world_in given tape' scope first) given new carried' reshaping' (entries ++ entries_of who end (early ++ late))

pub safe-called : (claims : Type 0) (given : Given) (tape : List Operation) (scope : Scope) (first : ℕ) (entries : List Entry) (old new : Members) (carried carried' : ℕ → ℕ → Bool) (reshaping reshaping' : Bool) (who : Who)
    (early late : List Event) (told : Ledger) (ops tape' : List Operation) (end : ℕ) → tape' ≡ tape ++ ops → end ≡ length (tape ++ ops) → scope.sizes ≡ sizes given → first ≤ length tape → EndBy (length tape) entries
    → IsSafeHistory claims (world_in given tape scope first) given old carried reshaping entries → IsSafeThen claims given tape scope first entries old new carried' reshaping' who early late told tape' end
safe-called claims given tape scope first entries old new carried carried' reshaping reshaping' who early late told ops tape' end grown_is end_is sizes_are within ends was =
    subst (λ (l : List Operation). IsSafeThen claims given tape scope first entries old new carried' reshaping' who early late told l end) (sym grown_is)
    (subst (IsSafeThen claims given tape scope first entries old new carried' reshaping' who early late told (tape ++ ops)) (sym end_is)
    (λ fills rise sound less stretch last. safe-call claims given tape scope first entries old new carried carried' reshaping reshaping' who early late ops told sizes_are within ends fills was rise sound less stretch last))
