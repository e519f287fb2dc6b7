-- Images that are seen right by what a history tells now.
use Rattle.std.proofs.Common.{◌≡◌, inl, inr, ℕ, ◌≤◌, Bool, true, List, ◌++◌, length, take, remove, refl, sym, ◌∙◌, ap, subst, arith}
use Rattle.std.proofs.Math.Seq.{take-length}
use Rattle.array_call_specs.specs.raid_types_the_Who.{Who}
use Rattle.array_call_specs.specs.bank_the_Operation.{Operation}
use Rattle.array_call_specs.specs.bank_Given.{Given, sizes}
use Rattle.array_call_specs.specs.bank_Tape.{Contents, IsDrawn, IsIn, disk}
use Rattle.array_call_specs.specs.sb_specs_the_Members.{Members}
use Rattle.array_call_specs.specs.sb_specs_Reading.{Scope, list_length}
use Rattle.array_call_specs.specs.history_the_Entry.{Entry}
use Rattle.array_call_specs.specs.history_the_Event.{Event}
use Rattle.array_call_specs.specs.history_Flat.{length_of, values_of}
use Rattle.array_call_specs.specs.history_Growing.{grown, EndBy}
use Rattle.array_call_specs.specs.history_Plain.{entries_of}
use Rattle.array_call_specs.specs.history_Sound.{OpensFit}
use Rattle.array_call_specs.specs.history_World.{World, opening_list}
use Rattle.array_call_specs.specs.crash_views_Views.{Disk, Ledger, IsSettled, IsViewRight, IsSeenRight, ledger_of}
use Rattle.array_call_specs.proofs.crash_views_Stands.{window-inside}
use Rattle.array_call_specs.proofs.crash_views_WindowLaws.{open-window}
use Rattle.array_call_specs.specs.crash_safety_laws_Steady.{IsMoreTold, IsSafeNow}
use Rattle.array_call_specs.proofs.crash_safety_laws_Steady.{safe-is-seen, losing-stays-safe}
use Rattle.array_call_specs.proofs.crash_safety_laws_Without.{without-none}
use Rattle.array_call_specs.proofs.LedgerLaws.{judged_by}
use Rattle.history_invariant.specs.Safe.{world_in, IsFilledRight, told_without, IsNowRight}
use Rattle.history_invariant.specs.Told.{told_now}
use Rattle.history_invariant.proofs.Ledgers.{now-ledger}
use Rattle.history_invariant.proofs.Marks.{IsSeenAfter}

-- ---- one image

-- what is seen right is so where more is told
module _ (sound : Type 0) (scope : Scope) (given : Given) (told more : Ledger) (is : IsMoreTold told more) (d : Disk) where
  settled-told : (view : Members) → list_length view.newest ≡ told.size → IsSettled scope view told.values d → IsSettled scope view more.values d
  settled-told view sized settled = record {
    list = settled.list;
    allowed = λ x lt. is.values x (omega (arith, lt, sized)) (settled.list x) (settled.allowed x lt);
    rows = settled.rows;
    zeros = settled.zeros;
  }

  view-told : (view : Members) → IsViewRight sound scope given told view d → IsViewRight sound scope given more view d
  view-told view right = record {
    placed = right.placed;
    sized = right.sized ∙ is.size;
    reshaping = λ active. is.reshaping (right.reshaping active);
    gone = λ role lt missing. is.gone role (right.gone role lt missing);
    unclean = λ dirty. is.unclean (right.unclean dirty);
    held = λ header may x slot outside holds v there.
        let below = outside.within in
        let sized = right.sized in
        is.values x (omega (arith, below, sized)) v (right.held header may x slot outside holds v there);
    sections = λ header may span active x low high v there.
        let inside = window-inside view.newest right.placed.fit span (open-window scope view.newest header span active) in
        let sized = right.sized in
        is.values x (omega (arith, high, inside, sized)) v (right.sections header may span active x low high v there);
    settled = λ clean few premise. settled-told view right.sized (right.settled clean few premise);
    headers = right.headers;
    tails = right.tails;
  }

  pub seen-told : (c : Contents) → IsSeenRight sound scope given told d c → IsSeenRight sound scope given more d c
  seen-told c seen = record { found = seen.found; is = seen.is; view = seen.view; same = seen.same; right = view-told seen.view seen.right }

-- so what a stop may leave now is right where more is told
pub now-more : (sound : Type 0) (scope : Scope) (given : Given) (told more : Ledger) (members : Members) (d : Disk) → IsMoreTold told more → IsSafeNow sound scope given told members d
    → IsSafeNow sound scope given more members d
now-more sound scope given told more members d is safe =
    subst (λ (m : Members). IsSafeNow sound scope given more m d) (without-none members) (losing-stays-safe sound scope given 0 told more members d is safe)

-- ---- the history without a change of length

-- what is told without it is what its entries tell without it
pub without-ledger : (world : World) (place : ℕ) (entries : List Entry) → IsMoreTold (told_without world entries place) (ledger_of world entries (length entries) (length entries) (remove (take (length entries) entries) place))
without-ledger world place entries =
    let by = now-ledger world (λ slot number. true) true entries in
    record {
      size = ap (λ (l : List Entry). length_of (length (opening_list world)) (remove l place)) (sym (take-length entries));
      values = λ x lt v may. subst (λ (l : List Entry). IsIn (values_of (opening_list world) (remove l place) x) v) (sym (take-length entries)) may;
      gone = by.gone;
      unclean = by.unclean;
      reshaping = λ is. refl;
      carried = λ slot number is. refl;
    }

-- ---- the end of a call

-- where what a stop may leave there is right by the whole history, each image is seen right
module _ (given : Given) (tape : List Operation) (scope : Scope) (first : ℕ) (entries : List Entry) (who : Who) (events : List Event) (ops : List Operation) (sizes_are : scope.sizes ≡ sizes given)
    (within : first ≤ length tape) (ends : EndBy (length tape) entries)
    (fills : IsFilledRight (grown (world_in given tape scope first) ops) (entries ++ entries_of who (length (tape ++ ops)) events)) (members : Members) (carried : ℕ → ℕ → Bool) (reshaping : Bool)
    (now : IsNowRight (grown (world_in given tape scope first) ops) given members carried reshaping (entries ++ entries_of who (length (tape ++ ops)) events)) where
  abbrev later : World
  later = grown (world_in given tape scope first) ops

  abbrev all : List Entry
  all = entries ++ entries_of who (length (tape ++ ops)) events

  whole : (c : Contents) → IsSeenRight (OpensFit later) scope given (told_now later carried reshaping all) (disk given.start (tape ++ ops)) c
      → IsSeenAfter given tape scope first entries who events ops sizes_are within ends fills (disk given.start (tape ++ ops)) c
  whole c seen = record {
    judged = take (length all) all;
    by = inl refl;
    seen = seen-told (OpensFit later) scope given (told_now later carried reshaping all) (judged_by later all (length all) (length all)) (now-ledger later carried reshaping all) (disk given.start (tape ++ ops)) c seen;
  }

  pub seen-now : (c : Contents) → IsDrawn (disk given.start (tape ++ ops)) c → IsSeenAfter given tape scope first entries who events ops sizes_are within ends fills (disk given.start (tape ++ ops)) c
  seen-now c drawn = elim now [
    | inl safe ↦ whole c (safe-is-seen (OpensFit later) scope given (told_now later carried reshaping all) members (tape ++ ops) safe c (record { eighth = λ s _. drawn s 8; ninth = λ s _. drawn s 9 }))
    | inr unkept ↦ elim (unkept.spent.right c (record { eighth = λ s _. drawn s 8; ninth = λ s _. drawn s 9 })) [
      | inl seen ↦ record {
        judged = remove (take (length all) all) unkept.place;
        by = inr (unkept.place, unkept.left_out, refl);
        seen = seen-told (OpensFit later) scope given (told_without later all unkept.place) (ledger_of later all (length all) (length all) (remove (take (length all) all) unkept.place))
            (without-ledger later unkept.place all) (disk given.start (tape ++ ops)) c seen;
      }
      | inr seen ↦ whole c seen
    ]
  ]
